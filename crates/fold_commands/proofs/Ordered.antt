-- the orders of faces that a frame has are of faces that it has
use Rattle.std.proofs.Common.{◌≡◌, ℕ, suc, ◌<◌, ◌≤◌, List, [], ◌∷◌, length, map, Bor, Bool, true, false, Option, Some, None, codes, refl, sym, ◌∙◌, ap, subst, arith}
use Rattle.std.specs.Prelude.{ℤ, pos, negsuc, ◌≤ℤ◌, not, ◌||◌, ◌&&◌, if◌then◌else◌, is_some, option_and_then, option_map}
use Rattle.std.specs.Fmt.{signed_decimal}
use Rattle.std.specs.List.{AllByRecursion}
use Rattle.std.specs.Str.{bytes_eq}
use Rattle.std.proofs.lemmas.Int.{ints}
use Rattle.std.proofs.lemmas.List.{length-map}
use Rattle.algebra.specs.LowestTerms.{Parts}
use Rattle.crease_input.specs.Files.{AreOrdersWithin, IsOrderWithin}
use Rattle.crease_input.specs.Frames.{corners_in, corners_of, face_of, needed}
use Rattle.crease_input.specs.Readings.{HasDrawing}
use Rattle.fold_frames.proofs.Lengths.{short_list}
use Rattle.fold_frames.specs.Counts.{count_of, fault_at, first_of, first_past, first_uneven, id_lists, is_past, length_at, length_of, misfit_in_effect, past_at, place_past}
use Rattle.fold_frames.specs.Effects.{FrameInEffect}
use Rattle.fold_frames.specs.Parents.{value_at}
use Rattle.fold_keys.proofs.Decimals.{is_minus_one, is_one, is_zero}
use Rattle.fold_keys.proofs.Layers.{of_list-List}
use Rattle.fold_keys.specs.Along.{first_along, or_else}
use Rattle.fold_keys.specs.Elements.{is_id, is_side, misfit_of_order, misfit_of_order_layer, misfit_of_order_members, misfit_of_side_layer}
use Rattle.fold_keys.specs.Reading.{Misfit, misfit_at}
use Rattle.fold_keys.specs.Trees.{tree_of_id, tree_of_order, tree_of_side}
use Rattle.fold_keys.specs.Writable.{IsWritableEntry}
use Rattle.fold_keys.specs.declared.fault.ShapeFault.{ShapeFault}
use Rattle.fold_keys.specs.declared.fault.ShapeKind.{ShapeKind}
use Rattle.fold_keys.specs.declared.fault.ShapeKind.TheVariants as causes
use Rattle.fold_keys.specs.declared.kind.Part.TheVariants.{Faces}
use Rattle.fold_keys.specs.declared.value.Entry.{Entry}
use Rattle.fold_keys.specs.declared.value.FaceOrder.{FaceOrder}
use Rattle.fold_keys.specs.declared.value.Value.{Value}
use Rattle.fold_keys.specs.declared.value.Value.TheVariants as values
use Rattle.frame_lines.proofs.Agree.{if_none, no_position, none_each, none_first, none_map, not_past}
use Rattle.frame_lines.specs.Lines.{lacking}
use Rattle.json_tree.specs.declared.tree.Json.{Json, out-Json}
use Rattle.json_tree.specs.declared.tree.Json.TheViews as trees
use Rattle.number_rules.specs.declared.unread.Row.{Row}
use Rattle.scaled_plane.specs.declared.drawing.Ends.{Ends}
use Rattle.scaled_plane.specs.declared.drawing.Face.{Face}
use Rattle.fold_commands.specs.FoldedFrames.{AreOfFaces}

-- ---- sides

abbrev IsSide : ℤ → Type 0
IsSide z = (negsuc 0 ≤ℤ z) × (z ≤ℤ pos 1)

side_within : (z : ℤ) → is_side (signed_decimal z) ≡ true → IsSide z
side_within z is =
    at (bytes_eq (signed_decimal z) (codes "1")) (bytes_eq (signed_decimal z) (codes "-1")) refl refl is
  where
    at : (a b : Bool) → bytes_eq (signed_decimal z) (codes "1") ≡ a → bytes_eq (signed_decimal z) (codes "-1") ≡ b
        → a || (b || bytes_eq (signed_decimal z) (codes "0")) ≡ true → IsSide z
    at true b p q is = let e = is_one z p in (omega (arith, ints, e), omega (arith, ints, e))
    at false true p q is = let e = is_minus_one z q in (omega (arith, ints, e), omega (arith, ints, e))
    at false false p q is = let e = is_zero z is in (omega (arith, ints, e), omega (arith, ints, e))

side_of : (o : FaceOrder) → misfit_of_order (tree_of_order o) ≡ None → IsSide o.side
side_of o m =
    let fits : misfit_of_order_members (tree_of_id o.first ∷ tree_of_id o.second ∷ tree_of_side o.side ∷ []) ≡ None =
    ap misfit_of_order_layer (sym (trees.outs-List (tree_of_id o.first ∷ tree_of_id o.second ∷ tree_of_side o.side ∷ []))) ∙ m in
    let last = last_part (is_id (tree_of_id o.first) && is_id (tree_of_id o.second)) (misfit_of_side_layer (out-Json (tree_of_side o.side))) fits in
    side_within o.side (if_none (is_side (signed_decimal o.side)) None None causes.Side
    (ap misfit_of_side_layer (sym (trees.outs-Number (signed_decimal o.side))) ∙ last))
  where
    last_part : (b : Bool) (found : Option ShapeKind) → (if b then found else Some causes.NotKind) ≡ None → found ≡ None
    last_part true found e = e
    last_part false found e = cc

sides_from : (from : ℕ) (orders : List FaceOrder) → first_along (misfit_at misfit_of_order) from (map tree_of_order orders) ≡ None
    → AllByRecursion (λ o. IsSide o.side) orders
sides_from from [] h = tt
sides_from from (o ∷ orders) h =
    let parts = none_first (misfit_at misfit_of_order from (tree_of_order o))
    (first_along (misfit_at misfit_of_order) (suc from) (map tree_of_order orders)) h in
    let here = none_map {A = ShapeKind} {B = Misfit} (λ cause. record { index = from; cause = cause }) (misfit_of_order (tree_of_order o)) parts.0 in
    (side_of o here, sides_from (suc from) orders parts.1)

-- ---- faces

neither : (a b : Bool) → not (a || b) ≡ true → (a ≡ false) × (b ≡ false)
neither false false h = (refl, refl)
neither false true h = cc
neither true b h = cc

each_within : (n : ℕ) (orders : List FaceOrder)
    → AllByRecursion (λ o. not (is_past n o.first || is_past n o.second) ≡ true) orders
    → AllByRecursion (λ o. IsSide o.side) orders → AllByRecursion (IsOrderWithin n) orders
each_within n [] faces sides = tt
each_within n (o ∷ orders) faces sides =
    let both = neither (is_past n o.first) (is_past n o.second) faces.0 in
    (record { first = not_past n o.first both.0; second = not_past n o.second both.1; side = sides.0 }, each_within n orders faces.1 sides.1)

abbrev IsOrders : List FaceOrder → Type 0
IsOrders orders = IsWritableEntry true (record { key = codes "faceOrders"; value = values.Orders orders })

module _ (f : FrameInEffect) (agree : misfit_in_effect f ≡ None) where
  none_past : first_past f.entries ≡ None
  none_past =
      none_map {B = ShapeFault} (fault_at f.frame causes.IdRange) (first_past f.entries)
      (none_first (option_map (fault_at f.frame causes.Uneven) (first_uneven f.entries))
      (option_map (fault_at f.frame causes.IdRange) (first_past f.entries)) agree).1

  module _ (lists : List (List (Option ℕ))) (faces : value_at f.entries (codes "faces_vertices") ≡ Some (values.IdLists lists))
      (orders : List FaceOrder) (there : value_at f.entries (codes "faceOrders") ≡ Some (values.Orders orders)) where
    count : count_of f.entries Faces ≡ Some (length lists)
    count =
        ap (λ o. or_else (option_and_then length_of o) (first_of (length_at f.entries) (codes "faces_edges" ∷ codes "faces_faces" ∷ []))) faces

    none_there : place_past (length lists) (values.Orders orders) ≡ None
    none_there =
        let each = none_each (past_at f.entries) id_lists none_past in
        let here = none_map {B = List ℕ × ℕ} (λ place. (codes "faceOrders", place))
        (option_and_then (λ count. option_and_then (place_past count) (value_at f.entries (codes "faceOrders"))) (count_of f.entries Faces))
        each.1.1.1.1.1.1.1.1.0 in
        sym (ap (option_and_then (λ count. option_and_then (place_past count) (value_at f.entries (codes "faceOrders")))) count
        ∙ ap (option_and_then (place_past (length lists))) there) ∙ here

    within : IsOrders orders → AreOrdersWithin (length lists) (Some orders)
    within is = (
      short_list (values.Orders orders) is.lists,
      each_within (length lists) orders
          (no_position (λ o. is_past (length lists) o.first || is_past (length lists) o.second) orders none_there)
          (sides_from 0 orders (sym (of_list-List misfit_of_order (map tree_of_order orders)) ∙ is.fits.no_misfit)),
    )

  -- orders that the frame has are of faces that it has, if it has some
  pub of_faces : (faces : Option (Bor (List (List (Option ℕ)))))
      → option_map (λ lists. values.IdLists lists.now) faces ≡ value_at f.entries (codes "faces_vertices")
      → (orders : List FaceOrder) → value_at f.entries (codes "faceOrders") ≡ Some (values.Orders orders) → IsOrders orders
      → AreOfFaces f.entries (Some orders)
  of_faces None are orders there is some =
      let none : Some (codes "faces_vertices") ≡ None =
      ap (λ (o : Option Value). if is_some o then None else Some (codes "faces_vertices")) are ∙ some in cc
  of_faces (Some lists) are orders there is some =
      subst (λ (o : Option Value). AreOrdersWithin (length (corners_in o)) (Some orders)) are
      (within lists.now (sym are) orders there is)

-- orders of the faces of a frame are of those of its drawing
pub of_drawing : {N : Type 0} (k : ℕ) (parts : N → Parts) (row : Row) (entries : List Entry) (drawing : Ends N × List Face) (orders : Option (List FaceOrder))
    → HasDrawing k parts row true entries drawing → AreOfFaces entries orders → AreOrdersWithin (length drawing.1) orders
of_drawing k parts row entries drawing orders has of =
    subst (λ n. AreOrdersWithin n orders) (sym (ap length has.faces ∙ length-map (corners_of entries) face_of))
    (of (none_each (lacking entries) (needed true) has.whole).1.1.1.0)
