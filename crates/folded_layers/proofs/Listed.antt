-- The faces and edges of a folded sheet by their places.
use Rattle.std.proofs.Common.{◌≡◌, ◌∙◌, ap, sym, refl, subst, ℕ, zero, suc, List, [], ◌∷◌, ◌<◌, length, map, Some, arith}
use Rattle.std.specs.Prelude.{slice_get}
use Rattle.std.specs.List.{range_with_len}
use Rattle.std.proofs.lemmas.List.FromFn.{get_or-map-range_with_len, length-map-range_with_len}
use Rattle.std.proofs.lemmas.Option.{get_or_from_slice_get, slice_get-get_or, slice_get_within}
use Rattle.algebra.specs.OrderedField.{OrderedField}
use Rattle.algebra.specs.OrderedRing.{OrderedRing}
use Rattle.flat_fold.specs.declared.motion.Motion.{Motion}
use Rattle.flat_fold.specs.Folded.{Layout}
use Rattle.flat_fold.specs.Images.{map_at}
use Rattle.layers.specs.Sheets.{FoldedEdge, FoldedFace}
use Rattle.folded_layers.specs.Sheets.{folded_edge, folded_face, folded_sheet, turned_at}

module _ {X : Type 0} (g : ℕ → X) (n : ℕ) where
  listed_at : (i : ℕ) → i < n → slice_get (map g (range_with_len 0 n)) i ≡ Some (g i)
  listed_at i l =
      slice_get-get_or (map g (range_with_len 0 n)) i (g i) (subst (λ m. i < m) (sym (length-map-range_with_len g 0 n)) l)
      ∙ ap Some (get_or-map-range_with_len g 0 n i i (g i) l (omega arith))

  within : (i : ℕ) (x : X) → slice_get (map g (range_with_len 0 n)) i ≡ Some x → i < n
  within i x e = subst (λ m. i < m) (length-map-range_with_len g 0 n) (slice_get_within (map g (range_with_len 0 n)) i x e)

  same_there : (i : ℕ) (x : X) → slice_get (map g (range_with_len 0 n)) i ≡ Some x → x ≡ g i
  same_there i x e =
      sym (get_or_from_slice_get (map g (range_with_len 0 n)) i x (g i) e) ∙ get_or-map-range_with_len g 0 n i i (g i) (within i x e) (omega arith)

module _ {N W : Type 0} (K : OrderedRing W) (layout : Layout N W) where
  -- the face of this number is there
  pub face_there : (f : ℕ) → f < length layout.sheet.faces → slice_get (folded_sheet K layout).faces f ≡ Some (folded_face K layout f)
  face_there f l = listed_at (folded_face K layout) (length layout.sheet.faces) f l

  -- and no other
  pub face_within : (f : ℕ) (face : FoldedFace W) → slice_get (folded_sheet K layout).faces f ≡ Some face → f < length layout.sheet.faces
  face_within f face e = within (folded_face K layout) (length layout.sheet.faces) f face e

  pub face_is : (f : ℕ) (face : FoldedFace W) → slice_get (folded_sheet K layout).faces f ≡ Some face → face ≡ folded_face K layout f
  face_is f face e = same_there (folded_face K layout) (length layout.sheet.faces) f face e

  pub edge_there : (e : ℕ) → e < length layout.sheet.ends.edges → slice_get (folded_sheet K layout).edges e ≡ Some (folded_edge K layout e)
  edge_there e l = listed_at (folded_edge K layout) (length layout.sheet.ends.edges) e l

  pub edge_within : (e : ℕ) (edge : FoldedEdge) → slice_get (folded_sheet K layout).edges e ≡ Some edge → e < length layout.sheet.ends.edges
  edge_within e edge h = within (folded_edge K layout) (length layout.sheet.ends.edges) e edge h

  pub edge_is : (e : ℕ) (edge : FoldedEdge) → slice_get (folded_sheet K layout).edges e ≡ Some edge → edge ≡ folded_edge K layout e
  edge_is e edge h = same_there (folded_edge K layout) (length layout.sheet.ends.edges) e edge h

-- whatever field stands for a map that isn't there
pub turned_is : {N : Type 0} (F : OrderedField N) (maps : List (Motion N)) (f : ℕ) → turned_at maps f ≡ (map_at F maps f).turned
turned_is F [] f = refl
turned_is F (m ∷ rest) zero = refl
turned_is F (m ∷ rest) (suc f) = turned_is F rest f
