-- The cells of a table, row by row.
use Rattle.std.proofs.Common.{◌≡◌, ◌∙◌, ap, sym, subst, ◌⊎◌, inl, inr, refl, ℕ, ◌<◌, ◌≤◌, ◌+◌, ◌*◌, ◌^◌, ◌/◌, ◌%◌, List, length, Bool, true, false, Some, arith}
use Rattle.std.specs.Prelude.{◌↔◌, slice_get, slice_index_or, slice_set, replicate}
use Rattle.std.proofs.lemmas.Bool.{cases_lt}
use Rattle.std.proofs.lemmas.Nat.{div-mul-add, mod-mul-add}
use Rattle.std.proofs.lemmas.List.{get_or-replicate, length-replicate, get_or-set_same, get_or-set_other, length-set}
use Rattle.std.proofs.lemmas.Option.{get_or_from_slice_get, slice_get-get_or, slice_get_within}
use Rattle.std.proofs.Math.Nat.{mul-le-mul_right, mul-le-mul_left}
use Rattle.layer_judge.specs.Rankings.{IsMarked}

pub cell_within : (n f g : ℕ) → f < n → g < n → f * n + g < n * n
cell_within n f g hf hg = let most : (f + 1) * n ≤ n * n = mul-le-mul_right n (omega arith) in let row : (f + 1) * n ≡ f * n + n = grind arith in omega arith

pub square_fits : (n : ℕ) → n < 2 ^ 32 → n * n < 2 ^ 64
square_fits n h =
    let wide : n * n ≤ 4294967295 * n = mul-le-mul_right n (omega arith) in
    omega arith

same_row : (n f g h k : ℕ) → g < n → k < n → f * n + g ≡ h * n + k → f ≡ h
same_row n f g h k hg hk e = sym (div-mul-add f n g hg) ∙ ap (λ x. x / n) e ∙ div-mul-add h n k hk

same_column : (n f g h k : ℕ) → g < n → k < n → f * n + g ≡ h * n + k → g ≡ k
same_column n f g h k hg hk e = sym (mod-mul-add f n g hg) ∙ ap (λ x. x % n) e ∙ mod-mul-add h n k hk

same_or_not : (m n : ℕ) → (m ≡ n) ⊎ ¬ (m ≡ n)
same_or_not m n =
    elim (cases_lt m n) [ inl less ↦ inr (λ e. omega arith) | inr more ↦ elim (cases_lt n m) [ inl less ↦ inr (λ e. omega arith) | inr other ↦ inl (omega arith) ] ]

-- a cell is marked where its value is true
pub marked_as_read : (n : ℕ) (cells : List Bool) (f g : ℕ) (d : Bool) → length cells ≡ n * n → f < n → g < n → slice_index_or cells (f * n + g) d ≡ true → IsMarked n cells f g
marked_as_read n cells f g d sized hf hg e = record {
  row_within = hf;
  column_within = hg;
  marked = slice_get-get_or cells (f * n + g) d (let inside = cell_within n f g hf hg in omega arith) ∙ ap Some e;
}

pub read_as_marked : (n : ℕ) (cells : List Bool) (f g : ℕ) (d : Bool) → IsMarked n cells f g → slice_index_or cells (f * n + g) d ≡ true
read_as_marked n cells f g d m = get_or_from_slice_get cells (f * n + g) true d m.marked

pub none_marked : (n size : ℕ) (f g : ℕ) → ¬ IsMarked n (replicate size false) f g
none_marked n size f g m =
    let inside : f * n + g < size = subst (λ x. f * n + g < x) (length-replicate size false) (slice_get_within (replicate size false) (f * n + g) true m.marked) in
    let read = read_as_marked n (replicate size false) f g false m in
    let clear = get_or-replicate size (f * n + g) false false inside in
    cc

-- one cell more is marked
module _ (n : ℕ) (cells : List Bool) (sized : length cells ≡ n * n) (u l : ℕ) (hu : u < n) (hl : l < n) where
  abbrev marked_now : List Bool
  marked_now = slice_set cells (u * n + l) true

  sized_now : length marked_now ≡ n * n
  sized_now = length-set cells (u * n + l) true ∙ sized

  there : (f g : ℕ) → IsMarked n marked_now f g → (f * n + g ≡ u * n + l) ⊎ ¬ (f * n + g ≡ u * n + l) → IsMarked n cells f g ⊎ (f ≡ u) × (g ≡ l)
  there f g m (inl e) = inr (same_row n f g u l m.column_within hl e, same_column n f g u l m.column_within hl e)
  there f g m (inr e) = inl (marked_as_read n cells f g false sized m.row_within m.column_within (sym (get_or-set_other cells (u * n + l) (f * n + g) true false e) ∙ read_as_marked n marked_now f g false m))

  kept : (f g : ℕ) → IsMarked n cells f g → (f * n + g ≡ u * n + l) ⊎ ¬ (f * n + g ≡ u * n + l) → slice_index_or marked_now (f * n + g) false ≡ true
  kept f g m (inl e) = ap (λ i. slice_index_or marked_now i false) e ∙ get_or-set_same cells (u * n + l) true false (let inside = cell_within n u l hu hl in omega arith)
  kept f g m (inr e) = get_or-set_other cells (u * n + l) (f * n + g) true false e ∙ read_as_marked n cells f g false m

  back : (f g : ℕ) → IsMarked n cells f g ⊎ (f ≡ u) × (g ≡ l) → IsMarked n marked_now f g
  back f g (inl m) = marked_as_read n marked_now f g false sized_now m.row_within m.column_within (kept f g m (same_or_not (f * n + g) (u * n + l)))
  back f g (inr p) =
      subst (λ x. IsMarked n marked_now x g) (sym p.0)
      (subst (λ x. IsMarked n marked_now u x) (sym p.1)
      (marked_as_read n marked_now u l false sized_now hu hl (get_or-set_same cells (u * n + l) true false (let inside = cell_within n u l hu hl in omega arith))))

  pub one_more_marked : (f g : ℕ) → IsMarked n marked_now f g ↔ (IsMarked n cells f g ⊎ (f ≡ u) × (g ≡ l))
  one_more_marked f g = ((λ m. there f g m (same_or_not (f * n + g) (u * n + l))), back f g)
