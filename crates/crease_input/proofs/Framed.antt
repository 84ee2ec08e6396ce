-- what the lists of a frame that agree say of its vertices and faces
use Rattle.std.proofs.Common.{◌≡◌, ℕ, suc, ◌+◌, ◌<◌, ◌≤◌, List, [], ◌∷◌, ◌++◌, length, map, take, get_or, ◌^◌, refl, sym, ◌∙◌, ap, subst, Bool, true, false, Option, Some, None, Result, Ok, Err, arith}
use Rattle.std.specs.Prelude.{is_some, not, nat_lt, codes, option_and_then, zip, ◌==◌, ◌&&◌, ◌||◌, if◌then◌else◌}
use Rattle.std.specs.List.{AllByRecursion, AllZip, filter_map, list_any}
use Rattle.std.proofs.lemmas.Bool.{eqb-true, ltb-false}
use Rattle.std.proofs.lemmas.List.{take_more, take_all, map-append, length-map}
use Rattle.std.proofs.lemmas.Slice.Zip.{AllZip-long, get_or-zip, length-zip}
use Rattle.algebra.specs.LowestTerms.{Parts}
use Rattle.fold_base.specs.declared.letter.Letter.{Letter}
use Rattle.json_tree.proofs.Trees.{every_items, every_length}
use Rattle.fold_keys.specs.Along.{or_else}
use Rattle.fold_keys.specs.Short.{HasShortList, HasShortLists}
use Rattle.fold_keys.specs.Trees.{tree_of_all, tree_of_id, tree_or_null}
use Rattle.fold_keys.specs.Writable.{IsWritableEntry}
use Rattle.fold_keys.specs.declared.kind.Part.TheVariants as kinds
use Rattle.fold_keys.specs.declared.value.Entry.{Entry}
use Rattle.fold_keys.specs.declared.value.Value.{Value}
use Rattle.fold_keys.specs.declared.value.Value.TheVariants as values
use Rattle.fold_frames.specs.Counts.{count_of, first_of, id_lists, is_past, is_some_past, length_of, lists_of, misfit_in_effect, other_length, past_at, place_past, uneven_of}
use Rattle.fold_frames.specs.Effects.{FrameInEffect}
use Rattle.fold_frames.specs.Parents.{value_at}
use Rattle.frame_lines.proofs.Agree.{IsWithin, if_none, no_position, none_each, none_map, not_past, parts, vertices}
use Rattle.frame_lines.specs.Lines.{edges_in, edges_of, letters_in, points_in}
use Rattle.number_rules.specs.declared.unread.Unread.{Unread}
use Rattle.scaled_plane.specs.declared.drawing.Edge.{Edge}
use Rattle.scaled_plane.specs.declared.drawing.Face.{Face}
use Rattle.scaled_plane.specs.declared.point.Pair.{Pair}
use Rattle.crease_input.specs.Frames.{AnswersFrame, AnswersVertices, AreWithin, HasCorners, IsDrawn, IsFirstWithout, IsVertex, corners_in, drawn_faces, edge_of, exact_in, exact_of, excess, excess_of, face_of, first_missing, vertices_in, vertices_of}
use Rattle.crease_input.specs.Files.{HasCornersWithin}
use Rattle.crease_input.specs.Lines.{IsEdgeWithin}
use Rattle.crease_input.specs.declared.fault.Counted.{Counted}
use Rattle.crease_input.specs.declared.fault.Counted.TheVariants.{Vertices, Segments, Faces}
use Rattle.crease_input.specs.declared.fault.InputFault.{InputFault}
use Rattle.crease_input.specs.declared.fault.InputFault.TheVariants as faults
use Rattle.crease_input.proofs.Frames.{AreEven, vertices_count}

-- ---- as many exact texts as vertices

module _ (f : FrameInEffect) (points : List (List (List ℕ))) (edges : List (ℕ × ℕ))
    (agree : misfit_in_effect f ≡ None)
    (coords : value_at f.entries (codes "vertices_coords") ≡ Some (values.Coords points))
    (pairs : value_at f.entries (codes "edges_vertices") ≡ Some (values.Pairs edges)) where
  pub even : AreEven points (exact_of f.entries)
  even = at (value_at f.entries (codes "fx:vertices_coords")) refl
    where
      named : ℕ → List ℕ × ℕ
      named n = (codes "fx:vertices_coords", n)

      others : AllByRecursion (λ key. other_length f.entries (length points) key ≡ None) (lists_of kinds.Vertices)
      others =
          let each = none_each (uneven_of f.entries) (kinds.Vertices ∷ kinds.Edges ∷ kinds.Faces ∷ []) (parts f points edges agree coords pairs).0 in
          none_each (other_length f.entries (length points)) (lists_of kinds.Vertices)
          (sym (ap (option_and_then (λ count. first_of (other_length f.entries count) (lists_of kinds.Vertices)))
          (vertices f points edges agree coords pairs)) ∙ each.0)

      otherwise : Option Value → Option (List ℕ × ℕ)
      otherwise o =
          option_and_then {U = List ℕ × ℕ}
          (λ n. if n == length points then None else Some (named n))
          (option_and_then length_of o)

      same : (n : ℕ) → (if n == length points then None else Some (named n)) ≡ None → n ≡ length points
      same n h = eqb-true n (length points) (if_none (n == length points) None (Some (named n)) (named n) h)

      at : (o : Option Value) → value_at f.entries (codes "fx:vertices_coords") ≡ o → AreEven points (exact_in o)
      at None e = tt
      at (Some (values.Exact texts)) e = same (length texts) (sym (ap otherwise e) ∙ others.1.0)
      at (Some value) e = tt

-- ---- corners

neither : (a b : Bool) → not (a || b) ≡ true → (a ≡ false) × (not b ≡ true)
neither false false h = (refl, refl)
neither false true h = cc
neither true b h = cc

named_within : (n : ℕ) (ids : List (Option ℕ)) → not (list_any (is_some_past n) ids) ≡ true
    → AllByRecursion (λ id. id < n) (filter_map (λ id. id) ids)
named_within n [] h = tt
named_within n (None ∷ ids) h = named_within n ids h
named_within n (Some id ∷ ids) h =
    let both = neither (is_past n id) (list_any (is_some_past n) ids) h in
    (not_past n id both.0, named_within n ids both.1)

fewer_named : (ids : List (Option ℕ)) → length (filter_map (λ id. id) ids) ≤ length ids
fewer_named [] = omega arith
fewer_named (None ∷ ids) = let rest = fewer_named ids in omega (arith, rest)
fewer_named (Some id ∷ ids) = let rest = fewer_named ids in omega (arith, rest)

each_short : (lists : List (List (Option ℕ)))
    → AllByRecursion HasShortLists (map (tree_of_all (tree_or_null tree_of_id)) lists)
    → AllByRecursion (λ ids. length ids < 2 ^ 32) lists
each_short [] all = tt
each_short (ids ∷ lists) all =
    let bound : length (map (tree_or_null tree_of_id) ids) < 2 ^ 32 =
    every_length HasShortList (λ m. Unit {0}) (map (tree_or_null tree_of_id) ids) all.0 in
    (omega (arith, bound, length-map ids (tree_or_null tree_of_id)), each_short lists all.1)

faces_within : (n : ℕ) (lists : List (List (Option ℕ))) → AllByRecursion (λ ids. length ids < 2 ^ 32) lists
    → AllByRecursion (λ ids. not (list_any (is_some_past n) ids) ≡ true) lists
    → AllByRecursion (HasCornersWithin n) (map face_of lists)
faces_within n [] short within = tt
faces_within n (ids ∷ lists) short within =
    let fewer = fewer_named ids in
    let few = short.0 in
    ((omega (arith, fewer, few), named_within n ids within.0), faces_within n lists short.1 within.1)

module _ (f : FrameInEffect) (points : List (List (List ℕ))) (edges : List (ℕ × ℕ))
    (agree : misfit_in_effect f ≡ None)
    (coords : value_at f.entries (codes "vertices_coords") ≡ Some (values.Coords points))
    (pairs : value_at f.entries (codes "edges_vertices") ≡ Some (values.Pairs edges))
    (lists : List (List (Option ℕ))) where
  corners_within : value_at f.entries (codes "faces_vertices") ≡ Some (values.IdLists lists)
      → IsWritableEntry true (record { key = codes "faces_vertices"; value = values.IdLists lists })
      → AllByRecursion (HasCornersWithin (length points)) (map face_of lists)
  corners_within there writable =
      let each = none_each (past_at f.entries) id_lists (parts f points edges agree coords pairs).1 in
      let here = none_map {B = List ℕ × ℕ} (λ place. (codes "faces_vertices", place))
      (option_and_then (λ count. option_and_then (place_past count) (value_at f.entries (codes "faces_vertices")))
      (count_of f.entries kinds.Vertices)) each.1.1.1.1.1.0 in
      let none : place_past (length points) (values.IdLists lists) ≡ None =
      sym (ap (option_and_then (λ count. option_and_then (place_past count) (value_at f.entries (codes "faces_vertices"))))
      (vertices f points edges agree coords pairs) ∙ ap (option_and_then (place_past (length points))) there) ∙ here in
      faces_within (length points) lists
      (each_short lists (every_items HasShortList (λ m. Unit {0}) (map (tree_of_all (tree_or_null tree_of_id)) lists) writable.lists))
      (no_position (list_any (is_some_past (length points))) lists none)

  pub faces_are_within : (faces : Bool) → HasCorners faces f.entries lists
      → AllByRecursion (HasCornersWithin (length points)) (map face_of lists)
  faces_are_within false has = subst (λ ids. AllByRecursion (HasCornersWithin (length points)) (map face_of ids)) (sym has) tt
  faces_are_within true has = corners_within has.1 has.2

-- ---- edges with their letters

module _ (pairs : List (ℕ × ℕ)) (letters : List Letter) (same : length letters ≡ length pairs) where
  zipped : length (zip pairs letters) ≡ length pairs
  zipped = omega (arith, length-zip pairs letters, same)

  pub edge_more : (i : ℕ) (d : (ℕ × ℕ) × Letter) (edges pushed : List Edge) (e : Edge) → i < length pairs
      → e ≡ edge_of (get_or pairs i d.0, get_or letters i d.1) → pushed ≡ edges ++ e ∷ []
      → edges ≡ map edge_of (take i (zip pairs letters)) → pushed ≡ map edge_of (take (i + 1) (zip pairs letters))
  edge_more i d edges pushed e within is push before =
      let zs = zip pairs letters in
      let inside : i < length zs = omega (arith, zipped, within) in
      let there : i < length letters = omega (arith, same, within) in
      push ∙ (λ j. before j ++ (is ∙ ap edge_of (sym (get_or-zip pairs letters i d within there))) j ∷ [])
      ∙ sym (ap (map edge_of) (take_more zs i d inside) ∙ map-append edge_of (take i zs) (get_or zs i d ∷ []))

  pub edges_all : (i : ℕ) (edges : List Edge) → edges ≡ map edge_of (take i (zip pairs letters)) → length pairs ≤ i
      → edges ≡ map edge_of (zip pairs letters)
  edges_all i edges before over =
      before ∙ ap (map edge_of) (take_all i (zip pairs letters) (omega (arith, zipped, over)))

-- ---- the frame

edges_within : (n : ℕ) (pairs : List (ℕ × ℕ)) (letters : List Letter) → AllByRecursion (IsWithin n) pairs
    → AllByRecursion (IsEdgeWithin n) (map edge_of (zip pairs letters))
edges_within n [] letters all = tt
edges_within n (p ∷ pairs) [] all = tt
edges_within n (p ∷ pairs) (l ∷ letters) all = (all.0, edges_within n pairs letters all.1)

few_of : (b : Bool) (x : Counted) (o : Option Counted) → (if b then Some x else o) ≡ None → (b ≡ false) × (o ≡ None)
few_of true x o h = cc
few_of false x o h = (refl, h)

few_parts : (faces : Bool) (v e f : ℕ) → excess faces v e f ≡ None → (v ≤ 16384) × (e ≤ 2048) × (faces ≡ true → f ≤ 512)
few_parts faces v e f h =
    let first = few_of (nat_lt 16384 v) Vertices (if nat_lt 2048 e then Some Segments else (if faces && nat_lt 512 f then Some Faces else None)) h in
    let second = few_of (nat_lt 2048 e) Segments (if faces && nat_lt 512 f then Some Faces else None) first.1 in
    let third = few_of (faces && nat_lt 512 f) Faces None second.1 in (
      ltb-false 16384 v first.0,
      ltb-false 2048 e second.0,
      (λ is. ltb-false 512 f (right faces (nat_lt 512 f) is third.0)),
    )
  where
    right : (a b : Bool) → a ≡ true → (a && b) ≡ false → b ≡ false
    right true b e h = h
    right false b e h = cc

few_faces : (faces : Bool) (entries : List Entry) (corners : List (List (Option ℕ))) → HasCorners faces entries corners
    → (faces ≡ true → length corners ≤ 512) → length corners ≤ 512
few_faces false entries corners has few = subst (λ lists. length lists ≤ 512) (sym has) (omega arith)
few_faces true entries corners has few = few refl

module _ (entries : List Entry) (points : List (List (List ℕ))) (pairs : List (ℕ × ℕ)) (corners : List (List (Option ℕ)))
    (coords_are : value_at entries (codes "vertices_coords") ≡ Some (values.Coords points))
    (pairs_are : value_at entries (codes "edges_vertices") ≡ Some (values.Pairs pairs)) where
  pub whole : (faces : Bool) → HasCorners faces entries corners → first_missing faces entries ≡ None
  whole false has =
      λ i. or_else (if is_some (coords_are i) then None else Some (codes "vertices_coords"))
      (or_else (if is_some (pairs_are i) then None else Some (codes "edges_vertices")) None)
  whole true has =
      λ i. or_else (if is_some (coords_are i) then None else Some (codes "vertices_coords"))
      (or_else (if is_some (pairs_are i) then None else Some (codes "edges_vertices"))
      (or_else (has.0 i) (or_else (if is_some (has.1 i) then None else Some (codes "faces_vertices")) None)))

  pub excess_is : (faces : Bool) → HasCorners faces entries corners
      → excess_of faces entries ≡ excess faces (length points) (length pairs) (length corners)
  excess_is false has =
      λ i. excess false (length (points_in (coords_are i))) (length (edges_in (pairs_are i))) (length corners)
  excess_is true has =
      λ i. excess true (length (points_in (coords_are i))) (length (edges_in (pairs_are i))) (length (corners_in (has.1 i)))

  vertices_are : (exact : Option (List (List ℕ × List ℕ))) → exact ≡ exact_of entries
      → vertices_in points exact ≡ vertices_of entries
  vertices_are exact same = λ i. vertices_in (points_in (sym coords_are i)) (same i)

  faces_found : (faces : Bool) (found : List Face) → HasCorners faces entries corners → found ≡ map face_of corners
      → found ≡ drawn_faces faces entries
  faces_found false found has same = same ∙ ap (map face_of) has
  faces_found true found has same = same ∙ (λ i. map face_of (corners_in (sym has.1 i)))

  module _ {N : Type 0} (k : ℕ) (parts : N → Parts) (rule : List ℕ → Result N Unread → Type 0) (faces : Bool)
      (has : HasCorners faces entries corners)
      (few : excess faces (length points) (length pairs) (length corners) ≡ None)
      (exact : Option (List (List ℕ × List ℕ))) (exact_is : exact ≡ exact_of entries) where
    without : (fault : InputFault) → IsFirstWithout k parts rule (vertices_in points exact) fault
        → (first_missing faces entries ≡ None) × (excess_of faces entries ≡ None)
        × IsFirstWithout k parts rule (vertices_of entries) fault
    without fault is = (
      whole faces has,
      excess_is faces has ∙ few,
      subst (λ vs. IsFirstWithout k parts rule vs fault) (vertices_are exact exact_is) is,
    )

    pub undrawn : (fault : InputFault) → AnswersVertices k parts rule (vertices_in points exact) (Err fault)
        → AnswersFrame k parts rule faces entries (Err fault)
    undrawn (faults.Memory e) is = tt
    undrawn (faults.Missing key) is = absurd is.none
    undrawn (faults.TooMany what) is = absurd is.none
    undrawn (faults.NotFlat v) is = without (faults.NotFlat v) is
    undrawn (faults.Unread v axis cause) is = without (faults.Unread v axis cause) is
    undrawn (faults.Stale v) is = without (faults.Stale v) is

    pub drawn : (coords : List (Pair N)) (letters : List Letter) (edges : List Edge) (found : List Face)
        → AllZip (IsVertex k parts rule) (vertices_in points exact) coords
        → letters ≡ letters_in (length pairs) (value_at entries (codes "edges_assignment"))
        → edges ≡ map edge_of (zip pairs letters)
        → found ≡ map face_of corners
        → IsDrawn k parts rule faces entries (record { coords = coords; edges = edges }, found)
    drawn coords letters edges found are lettered edges_are found_are = record {
      whole = whole faces has;
      few = excess_is faces has ∙ few;
      coords = subst (λ vs. AllZip (IsVertex k parts rule) vs coords) (vertices_are exact exact_is) are;
      edges = edges_are ∙ (λ i. map edge_of (zip (edges_in (sym pairs_are i)) (lettered i)))
          ∙ ap (λ n. map edge_of (zip (edges_of entries) (letters_in n (value_at entries (codes "edges_assignment")))))
          (λ i. length (edges_in (sym pairs_are i)));
      faces = faces_found faces found has found_are;
    }

    pub drawn_within : (coords : List (Pair N)) (letters : List Letter) (edges : List Edge) (found : List Face)
        → AreEven points exact → AllZip (IsVertex k parts rule) (vertices_in points exact) coords
        → edges ≡ map edge_of (zip pairs letters) → length letters ≡ length pairs → found ≡ map face_of corners
        → AllByRecursion (IsWithin (length points)) pairs
        → AllByRecursion (HasCornersWithin (length points)) (map face_of corners)
        → AreWithin (record { coords = coords; edges = edges }, found)
    drawn_within coords letters edges found even are edges_are same found_are within corners_fit =
        let parts_few = few_parts faces (length points) (length pairs) (length corners) few in
        let count : length coords ≡ length points =
        AllZip-long (IsVertex k parts rule) (vertices_in points exact) coords are ∙ vertices_count points exact even in
        let edge_count : length edges ≡ length pairs =
        ap length edges_are ∙ length-map (zip pairs letters) edge_of ∙ zipped pairs letters same in
        let face_count : length found ≡ length corners = ap length found_are ∙ length-map corners face_of in
        let faces_few = few_faces faces entries corners has parts_few.2 in
        record {
          vertices = subst (λ n. n ≤ 16384) (sym count) parts_few.0;
          edges = subst (λ n. n ≤ 2048) (sym edge_count) parts_few.1;
          faces = subst (λ n. n ≤ 512) (sym face_count) faces_few;
          each_edge = subst (λ es. AllByRecursion (IsEdgeWithin (length coords)) es) (sym edges_are)
              (subst (λ n. AllByRecursion (IsEdgeWithin n) (map edge_of (zip pairs letters))) (sym count) (edges_within (length points) pairs letters within));
          each_face = subst (λ fs. AllByRecursion (HasCornersWithin (length coords)) fs) (sym found_are)
              (subst (λ n. AllByRecursion (HasCornersWithin n) (map face_of corners)) (sym count) corners_fit);
        }
