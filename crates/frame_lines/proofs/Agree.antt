-- what the lists of a frame that agree say of its edges
use Rattle.std.proofs.Common.{inl, inr, ◌≡◌, ℕ, suc, ◌+◌, ◌<◌, ◌≤◌, ◌^◌, ◌==◌, List, [], ◌∷◌, ◌++◌, length, map, take, get_or, cond, refl, sym, ◌∙◌, ap, ap₂, subst, Bool, true, false, Option, Some, None, arith, Result, Ok, Err}
use Rattle.std.specs.Prelude.{All, not, nat_lt, zip, min, replicate, codes, option_map, option_and_then, is_some, ◌||◌, if◌then◌else◌}
use Rattle.std.specs.List.{AllByRecursion, position, position_or_len, prefix_len}
use Rattle.std.proofs.lemmas.Bool.{eqb-true, or_cases, ltb-true, ltb-false}
use Rattle.std.proofs.lemmas.List.{take_more, take_all, map-append, length-map, length-replicate}
use Rattle.std.proofs.lemmas.Option.{same_Some}
use Rattle.std.proofs.lemmas.Slice.Zip.{get_or-zip, length-zip}
use Rattle.cp_lines.specs.declared.line.CpLine.{CpLine}
use Rattle.fold_base.specs.declared.letter.Letter.{Letter}
use Rattle.fold_base.specs.declared.letter.Letter.TheVariants.{Border, Mountain, Valley, Flat, Unassigned, Cut, Join}
use Rattle.json_tree.specs.declared.tree.Json.{Json, Json-F, out-Json}
use Rattle.json_tree.specs.declared.tree.Json.TheViews as trees
use Rattle.fold_keys.specs.Along.{or_else, first_along}
use Rattle.fold_keys.specs.Elements.{is_number, misfit_of_coords, misfit_of_inner, misfit_of_members}
use Rattle.fold_keys.specs.Reading.{Misfit, misfit_at}
use Rattle.fold_keys.specs.Trees.{tree_of_all, tree_of_number}
use Rattle.fold_keys.specs.Writable.{IsWritableEntry}
use Rattle.fold_keys.specs.declared.fault.ShapeFault.{ShapeFault}
use Rattle.fold_keys.specs.declared.fault.ShapeKind.{ShapeKind}
use Rattle.fold_keys.specs.declared.fault.ShapeKind.TheVariants as causes
use Rattle.fold_keys.specs.declared.kind.Part.TheVariants.{Vertices, Edges, Faces}
use Rattle.fold_keys.specs.declared.value.Entry.{Entry}
use Rattle.fold_keys.specs.declared.value.Value.{Value}
use Rattle.fold_keys.specs.declared.value.Value.TheVariants as values
use Rattle.fold_keys.proofs.Layers.{of_list-List}
use Rattle.fold_frames.specs.Counts.{first_of, first_uneven, first_past, misfit_in_effect, fault_at, count_of, uneven_of, other_length, past_at, length_of, length_at, lists_of, id_lists, is_past, place_past}
use Rattle.fold_frames.specs.Effects.{FrameInEffect}
use Rattle.fold_frames.specs.Parents.{value_at}
use Rattle.fold_frames.proofs.Lengths.{short_list}
use Rattle.frame_lines.specs.Lines.{HasLines, edges_in, is_flat, kind_of, letters_in, letters_of, line_of, points_in}

-- ---- no answer

pub none_first : {B : Type 0} (a b : Option B) → or_else a b ≡ None → (a ≡ None) × (b ≡ None)
none_first None b h = (refl, h)
none_first (Some x) b h = cc

pub none_map : {A B : Type 0} (f : A → B) (o : Option A) → option_map f o ≡ None → o ≡ None
none_map f None h = refl
none_map f (Some x) h = cc

pub none_each : {A B : Type 0} (f : A → Option B) (xs : List A) → first_of f xs ≡ None
    → AllByRecursion (λ x. f x ≡ None) xs
none_each f [] h = tt
none_each f (x ∷ xs) h =
    let parts = none_first (f x) (first_of f xs) h in (parts.0, none_each f xs parts.1)

-- ---- coordinates

pub if_none : {B : Type 0} (b : Bool) (x y : Option B) (c : B) → (if b then x else Some c) ≡ None → b ≡ true
if_none true x y c e = refl
if_none false x y c e = cc

enough : (n : ℕ) → (n == 2 || n == 3) ≡ true → 2 ≤ n
enough n h = elim (or_cases (n == 2) (n == 3) h) [
  | inl e ↦ let same = eqb-true n 2 e in omega (arith, same)
  | inr e ↦ let same = eqb-true n 3 e in omega (arith, same)
]

axes_of_one : (point : List (List ℕ)) → misfit_of_coords (tree_of_all tree_of_number point) ≡ None
    → 2 ≤ length point
axes_of_one point h =
    let members = map tree_of_number point in
    let inner : misfit_of_inner (λ n. n == 2 || n == 3) is_number (out-Json (trees.List members)) ≡ None = h in
    let shown = ap (misfit_of_inner (λ n. n == 2 || n == 3) is_number) (sym (trees.outs-List members)) ∙ inner in
    let long = if_none (length members == 2 || length members == 3) (misfit_of_members is_number members) None causes.Length shown in
    let two = enough (length members) long in
    omega (arith, two, length-map point tree_of_number)

axes_of_all : (from : ℕ) (points : List (List (List ℕ)))
    → first_along (misfit_at misfit_of_coords) from (map (tree_of_all tree_of_number) points) ≡ None
    → AllByRecursion (λ point. 2 ≤ length point) points
axes_of_all from [] h = tt
axes_of_all from (point ∷ points) h =
    let tree = tree_of_all tree_of_number point in
    let parts = none_first (misfit_at misfit_of_coords from tree)
    (first_along (misfit_at misfit_of_coords) (suc from) (map (tree_of_all tree_of_number) points)) h in
    let here = none_map {A = ShapeKind} {B = Misfit} (λ cause. record { index = from; cause = cause })
    (misfit_of_coords tree) parts.0 in
    (axes_of_one point here, axes_of_all (suc from) points parts.1)

pub all_at : {X : Type 0} (P : X → Type 0) (xs : List X) → AllByRecursion P xs → All P xs
all_at P [] all k d within = absurd (omega (arith, within))
all_at P (x ∷ xs) all Prim.Native.Nat.zero d within = all.0
all_at P (x ∷ xs) all (suc k) d within = all_at P xs all.1 k d (omega (arith, within))

abbrev IsCoords : List (List (List ℕ)) → Type 0
IsCoords points = IsWritableEntry true (record { key = codes "vertices_coords"; value = values.Coords points })

pub axes_of : (points : List (List (List ℕ))) → IsCoords points
    → All (λ point. 2 ≤ length point) points
axes_of points is =
    all_at (λ point. 2 ≤ length point) points
    (axes_of_all 0 points (sym (of_list-List misfit_of_coords (map (tree_of_all tree_of_number) points)) ∙ is.fits.no_misfit))

pub few_points : (points : List (List (List ℕ))) → IsCoords points → length points < 2 ^ 32
few_points points is = short_list (values.Coords points) is.lists

-- ---- places

pub position_within : {X : Type 0} (test : X → Bool) (xs : List X) (i : ℕ) → position test xs ≡ Some i
    → i < length xs
position_within test xs i e = at (nat_lt (position_or_len test xs) (length xs)) refl
  where
    at : (b : Bool) → nat_lt (position_or_len test xs) (length xs) ≡ b → i < length xs
    at true h =
        let here : Some (position_or_len test xs) ≡ Some i =
        ap (λ b. cond b (Some (position_or_len test xs)) None) (sym h) ∙ e in
        subst (λ n. n < length xs) (same_Some (position_or_len test xs) i here)
        (ltb-true (position_or_len test xs) (length xs) h)
    at false h =
        let none : None ≡ Some i =
        ap (λ b. cond b (Some (position_or_len test xs)) None) (sym h) ∙ e in cc

prefix_full : {X : Type 0} (p : X → Bool) (xs : List X) → length xs ≤ prefix_len p xs
    → AllByRecursion (λ x. p x ≡ true) xs
prefix_full p [] h = tt
prefix_full p (x ∷ xs) h = at (p x) refl h (prefix_full p xs)
  where
    at : (b : Bool) → p x ≡ b → suc (length xs) ≤ cond (p x) (1 + prefix_len p xs) 0
        → (length xs ≤ prefix_len p xs → AllByRecursion (λ x. p x ≡ true) xs)
        → AllByRecursion (λ x. p x ≡ true) (x ∷ xs)
    at true e h rest =
        let more : suc (length xs) ≤ 1 + prefix_len p xs =
        subst (λ b. suc (length xs) ≤ cond b (1 + prefix_len p xs) 0) e h in
        (e, rest (omega (arith, more)))
    at false e h rest =
        let none : suc (length xs) ≤ 0 =
        subst (λ b. suc (length xs) ≤ cond b (1 + prefix_len p xs) 0) e h in
        absurd (omega (arith, none))

pub no_position : {X : Type 0} (test : X → Bool) (xs : List X) → position test xs ≡ None
    → AllByRecursion (λ x. not (test x) ≡ true) xs
no_position test xs e = at (nat_lt (position_or_len test xs) (length xs)) refl
  where
    at : (b : Bool) → nat_lt (position_or_len test xs) (length xs) ≡ b
        → AllByRecursion (λ x. not (test x) ≡ true) xs
    at true h =
        let some : Some (position_or_len test xs) ≡ None =
        ap (λ b. cond b (Some (position_or_len test xs)) None) (sym h) ∙ e in cc
    at false h = prefix_full (λ x. not (test x)) xs (ltb-false (position_or_len test xs) (length xs) h)

-- ---- edges between vertices that are there

abbrev pub IsWithin : ℕ → ℕ × ℕ → Type 0
IsWithin n edge = (edge.0 < n) × (edge.1 < n)

pub not_past : (n id : ℕ) → is_past n id ≡ false → id < n
not_past n id h = ltb-true id n (turn (nat_lt id n) h)
  where
    turn : (b : Bool) → not b ≡ false → b ≡ true
    turn true h = refl
    turn false h = cc

none_past : (n : ℕ) (edges : List (ℕ × ℕ))
    → AllByRecursion (λ edge. not (is_past n edge.0 || is_past n edge.1) ≡ true) edges
    → AllByRecursion (IsWithin n) edges
none_past n [] all = tt
none_past n (e ∷ edges) all =
    let both = neither (is_past n e.0) (is_past n e.1) all.0 in
    ((not_past n e.0 both.0, not_past n e.1 both.1), none_past n edges all.1)
  where
    neither : (a b : Bool) → not (a || b) ≡ true → (a ≡ false) × (b ≡ false)
    neither false false h = (refl, refl)
    neither false true h = cc
    neither true b h = cc

abbrev named : ℕ → List ℕ × ℕ
named n = (codes "edges_assignment", n)

module _ (f : FrameInEffect) (points : List (List (List ℕ))) (edges : List (ℕ × ℕ))
    (agree : misfit_in_effect f ≡ None)
    (coords : value_at f.entries (codes "vertices_coords") ≡ Some (values.Coords points))
    (pairs : value_at f.entries (codes "edges_vertices") ≡ Some (values.Pairs edges)) where
  pub parts : (first_uneven f.entries ≡ None) × (first_past f.entries ≡ None)
  parts =
      let both = none_first (option_map (fault_at f.frame causes.Uneven) (first_uneven f.entries))
      (option_map (fault_at f.frame causes.IdRange) (first_past f.entries)) agree in (
        none_map {B = ShapeFault} (fault_at f.frame causes.Uneven) (first_uneven f.entries) both.0,
        none_map {B = ShapeFault} (fault_at f.frame causes.IdRange) (first_past f.entries) both.1,
      )

  pub vertices : count_of f.entries Vertices ≡ Some (length points)
  vertices =
      ap (λ o. or_else (option_and_then length_of o) (first_of (length_at f.entries)
      (codes "fx:vertices_coords" ∷ codes "vertices_vertices" ∷ codes "vertices_edges" ∷ codes "vertices_faces" ∷ []))) coords

  edge_count : count_of f.entries Edges ≡ Some (length edges)
  edge_count =
      ap (λ o. or_else (option_and_then length_of o) (first_of (length_at f.entries)
      (codes "edges_faces" ∷ codes "edges_assignment" ∷ codes "edges_foldAngle" ∷ codes "edges_length" ∷ []))) pairs

  pub each_within : AllByRecursion (IsWithin (length points)) edges
  each_within =
      let each = none_each (past_at f.entries) id_lists parts.1 in
      let here = none_map {B = List ℕ × ℕ} (λ place. (codes "edges_vertices", place))
      (option_and_then (λ count. option_and_then (place_past count) (value_at f.entries (codes "edges_vertices")))
      (count_of f.entries Vertices)) each.1.1.1.0 in
      let none : place_past (length points) (values.Pairs edges) ≡ None =
      sym (ap (option_and_then (λ count. option_and_then (place_past count) (value_at f.entries (codes "edges_vertices")))) vertices
      ∙ ap (option_and_then (place_past (length points))) pairs) ∙ here in
      none_past (length points) edges
      (no_position (λ pair. is_past (length points) pair.0 || is_past (length points) pair.1) edges none)

  pub within : All (λ edge. (edge.0 < length points) × (edge.1 < length points)) edges
  within = all_at (IsWithin (length points)) edges each_within

  -- as many letters as edges
  pub lettered : length (letters_in (length edges) (value_at f.entries (codes "edges_assignment")))
      ≡ length edges
  lettered = at (value_at f.entries (codes "edges_assignment")) refl
    where
      uneven : AllByRecursion (λ key. other_length f.entries (length edges) key ≡ None) (lists_of Edges)
      uneven =
          let each = none_each (uneven_of f.entries) (Vertices ∷ Edges ∷ Faces ∷ []) parts.0 in
          none_each (other_length f.entries (length edges)) (lists_of Edges)
          (sym (ap (option_and_then (λ count. first_of (other_length f.entries count) (lists_of Edges))) edge_count)
          ∙ each.1.0)

      otherwise : Option Value → Option (List ℕ × ℕ)
      otherwise o =
          option_and_then {U = List ℕ × ℕ}
          (λ n. if n == length edges then None else Some (named n))
          (option_and_then length_of o)

      same : (n : ℕ) → (if n == length edges then None else Some (named n)) ≡ None
          → n ≡ length edges
      same n h = by (n == length edges) refl h
        where
          by : (b : Bool) → (n == length edges) ≡ b
              → (if b then None else Some (named n)) ≡ None → n ≡ length edges
          by true e h = eqb-true n (length edges) e
          by false e h = cc

      at : (o : Option Value) → value_at f.entries (codes "edges_assignment") ≡ o
          → length (letters_in (length edges) o) ≡ length edges
      at None e = length-replicate (length edges) Unassigned
      at (Some (values.Letters letters)) e =
          same (length letters)
          (sym (ap otherwise e) ∙ uneven.1.1.0)
      at (Some value) e = length-replicate (length edges) Unassigned

-- ---- lines

module _ (points : List (List (List ℕ))) (edges : List (ℕ × ℕ)) (letters : List Letter)
    (same : length letters ≡ length edges) where
  zipped : length (zip edges letters) ≡ length edges
  zipped = omega (arith, length-zip edges letters, same)

  pub line_more : (i : ℕ) (d : (ℕ × ℕ) × Letter) (lines pushed : List CpLine) (line : CpLine)
      → lines ≡ map (line_of points) (take i (zip edges letters)) → pushed ≡ lines ++ line ∷ []
      → i < length edges → line ≡ line_of points (get_or edges i d.0, get_or letters i d.1)
      → pushed ≡ map (line_of points) (take (i + 1) (zip edges letters))
  line_more i d lines pushed line before push within is =
      let zs = zip edges letters in
      let inside : i < length zs = omega (arith, zipped, within) in
      let there : i < length letters = omega (arith, same, within) in
      push ∙ (λ j. before j ++ (is ∙ ap (line_of points) (sym (get_or-zip edges letters i d within there))) j ∷ [])
      ∙ sym (ap (map (line_of points)) (take_more zs i d inside)
      ∙ map-append (line_of points) (take i zs) (get_or zs i d ∷ []))

  pub all_lines : (i : ℕ) (lines : List CpLine)
      → lines ≡ map (line_of points) (take i (zip edges letters)) → length edges ≤ i
      → lines ≡ map (line_of points) (zip edges letters)
  all_lines i lines before over =
      before ∙ ap (map (line_of points)) (take_all i (zip edges letters) (omega (arith, zipped, over)))

few_kinds : (letter : Letter) → kind_of letter ≤ 4
few_kinds Border = omega arith
few_kinds Cut = omega arith
few_kinds Mountain = omega arith
few_kinds Valley = omega arith
few_kinds Flat = omega arith
few_kinds Unassigned = omega arith
few_kinds Join = omega arith

each_kind : (points : List (List (List ℕ))) (zs : List ((ℕ × ℕ) × Letter))
    → AllByRecursion (λ line. line.kind ≤ 4) (map (line_of points) zs)
each_kind points [] = tt
each_kind points (z ∷ zs) = (few_kinds z.1, each_kind points zs)

pub kinds : (points : List (List (List ℕ))) (zs : List ((ℕ × ℕ) × Letter)) (lines : List CpLine)
    → lines ≡ map (line_of points) zs → All (λ line. line.kind ≤ 4) lines
kinds points zs lines is =
    subst (All (λ line. line.kind ≤ 4)) (sym is)
    (all_at (λ line. line.kind ≤ 4) (map (line_of points) zs) (each_kind points zs))

pub has_lines : (entries : List Entry) (points : List (List (List ℕ))) (edges : List (ℕ × ℕ))
    (letters : List Letter) (lines : List CpLine)
    → value_at entries (codes "vertices_coords") ≡ Some (values.Coords points)
    → value_at entries (codes "edges_vertices") ≡ Some (values.Pairs edges)
    → letters ≡ letters_in (length edges) (value_at entries (codes "edges_assignment"))
    → position (λ point. not (is_flat point)) points ≡ None
    → lines ≡ map (line_of points) (zip edges letters) → HasLines entries lines
has_lines entries points edges letters lines coords pairs lettered flat is = (
  ap₂ (λ a b. or_else (if is_some a then None else Some (codes "vertices_coords"))
      (or_else (if is_some b then None else Some (codes "edges_vertices")) None)) coords pairs,
  ap (λ o. position (λ point. not (is_flat point)) (points_in o)) coords ∙ flat,
  is ∙ (λ i. map (line_of (points_in (sym coords i))) (zip (edges_in (sym pairs i))
      (letters_is i))),
)
  where
    letters_is : letters ≡ letters_of entries
    letters_is =
        lettered ∙ ap (λ o. letters_in (length (edges_in o)) (value_at entries (codes "edges_assignment"))) (sym pairs)
