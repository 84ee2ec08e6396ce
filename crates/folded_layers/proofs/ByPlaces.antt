-- The corners of a face and its directed pieces by their places in its list.
use Rattle.std.proofs.Common.{◌≡◌, ◌∙◌, ap, sym, refl, ℕ, List, [], ◌∷◌, length, map, Some, None, arith}
use Rattle.std.specs.Prelude.{Option, slice_get, slice_index_or}
use Rattle.std.specs.List.{range_with_len}
use Rattle.std.specs.Option.{option_map}
use Rattle.std.proofs.lemmas.List.{ext_get_or, get_or-map, length-map}
use Rattle.std.proofs.lemmas.List.FromFn.{get_or-map-range_with_len, length-map-range_with_len}
use Rattle.std.proofs.lemmas.Option.{slice_get-map}
use Rattle.scaled_plane.specs.Walks.{pieces_on_to, pieces_round}

-- what a list of numbers names, place by place
pub by_places : {X : Type 0} (g : ℕ → X) (ys : List ℕ) (n : ℕ) → length ys ≡ n → map g ys ≡ map (λ (j : ℕ). g (slice_index_or ys j 0)) (range_with_len 0 n)
by_places {X} g ys n long =
    let h : ℕ → X = λ j. g (slice_index_or ys j 0) in
    ext_get_or (g 0) (map g ys) (map h (range_with_len 0 n)) (length-map ys g ∙ long ∙ sym (length-map-range_with_len h 0 n)) (λ i l.
    let l_mapped : length (map g ys) ≡ length ys = length-map ys g in
    get_or-map g ys i 0 (g 0) (omega (arith, l, l_mapped)) ∙ sym (get_or-map-range_with_len h 0 n i i (g 0) (omega (arith, l, l_mapped, long)) (omega arith)))

abbrev pub both_by : {X : Type 0} → (ℕ → X) → ℕ × ℕ → X × X
both_by g p = (g p.0, g p.1)

pieces_named_to : (g : ℕ → ℕ) (first : ℕ) (js : List ℕ) → pieces_on_to (g first) (map g js) ≡ map (both_by g) (pieces_on_to first js)
pieces_named_to g first [] = refl
pieces_named_to g first (i ∷ []) = refl
pieces_named_to g first (i ∷ (j ∷ rest)) = ap (λ (ps : List (ℕ × ℕ)). (g i, g j) ∷ ps) (pieces_named_to g first (j ∷ rest))

-- the pieces of what the numbers name
pub pieces_named : (g : ℕ → ℕ) (js : List ℕ) → pieces_round (map g js) ≡ map (both_by g) (pieces_round js)
pieces_named g [] = refl
pieces_named g (j ∷ rest) = pieces_named_to g j (j ∷ rest)

-- an element of a mapped list is that of the list, mapped
pub mapped_at : {X Y : Type 0} (g : X → Y) (xs : List X) (i : ℕ) (y : Y) → slice_get (map g xs) i ≡ Some y → (x : X) × (slice_get xs i ≡ Some x) × (g x ≡ y)
mapped_at {X} {Y} g xs i y e = at (slice_get xs i) refl
  where
    at : (o : Option X) → slice_get xs i ≡ o → (x : X) × (slice_get xs i ≡ Some x) × (g x ≡ y)
    at (Some x) is = (
      x,
      is,
      (let mapped : slice_get (map g xs) i ≡ Some (g x) = slice_get-map g xs i ∙ ap (option_map g) is in
          let same : Some (g x) ≡ Some y = sym mapped ∙ e in
          cc),
    )
    at None is = absurd (let mapped : slice_get (map g xs) i ≡ None = slice_get-map g xs i ∙ ap (option_map g) is in let no : None ≡ Some y = sym mapped ∙ e in cc)
