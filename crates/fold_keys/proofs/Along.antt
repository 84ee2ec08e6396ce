-- the first answer along two lists one after the other
use Rattle.std.proofs.Common.{◌≡◌, ℕ, suc, ◌+◌, List, [], ◌∷◌, ◌++◌, length, refl, sym, ◌∙◌, ap, Option, Some, None, arith}
use Rattle.fold_keys.specs.Along.{or_else, first_along}

module _ {A B : Type 0} (f : ℕ → A → Option B) where
  -- nothing along the front: what follows decides
  pub along_front : (from : ℕ) (xs ys : List A) → first_along f from xs ≡ None
      → first_along f from (xs ++ ys) ≡ first_along f (from + length xs) ys
  along_front from [] ys none = ap (λ n. first_along f n ys) (omega arith)
  along_front from (x ∷ xs) ys none = at (f from x) refl (along_front (suc from) xs ys)
    where
      at : (o : Option B) → f from x ≡ o
          → (first_along f (suc from) xs ≡ None
          → first_along f (suc from) (xs ++ ys) ≡ first_along f (suc from + length xs) ys)
          → first_along f from ((x ∷ xs) ++ ys) ≡ first_along f (from + length (x ∷ xs)) ys
      at None e later =
          let rest : first_along f (suc from) xs ≡ None =
          ap (λ r. or_else r (first_along f (suc from) xs)) (sym e) ∙ none in
          ap (λ r. or_else r (first_along f (suc from) (xs ++ ys))) e ∙ later rest
          ∙ ap (λ n. first_along f n ys) (omega arith)
      at (Some b) e later =
          let clash : Some b ≡ None =
          ap (λ r. or_else r (first_along f (suc from) xs)) (sym e) ∙ none in cc

  -- the first answer comes after a front that has none
  pub along_here : (xs : List A) (x : A) (ys : List A) (b : B) → first_along f 0 xs ≡ None
      → f (length xs) x ≡ Some b → first_along f 0 (xs ++ x ∷ ys) ≡ Some b
  along_here xs x ys b none here =
      along_front 0 xs (x ∷ ys) none ∙ ap (λ n. first_along f n (x ∷ ys)) (omega arith)
      ∙ ap (λ r. or_else r (first_along f (suc (length xs)) ys)) here

  -- one more without an answer
  pub along_more : (xs : List A) (x : A) → first_along f 0 xs ≡ None → f (length xs) x ≡ None
      → first_along f 0 (xs ++ x ∷ []) ≡ None
  along_more xs x none here =
      along_front 0 xs (x ∷ []) none ∙ ap (λ n. first_along f n (x ∷ [])) (omega arith)
      ∙ ap (λ r. or_else r (first_along f (suc (length xs)) [])) here

module _ {A B : Type 0} (f : ℕ → A → Option B) where
  pub along_here_from : (from : ℕ) (xs : List A) (x : A) (ys : List A) (b : B)
      → first_along f from xs ≡ None → f (from + length xs) x ≡ Some b
      → first_along f from (xs ++ x ∷ ys) ≡ Some b
  along_here_from from xs x ys b none here =
      along_front f from xs (x ∷ ys) none
      ∙ ap (λ r. or_else r (first_along f (suc (from + length xs)) ys)) here

  pub along_more_from : (from : ℕ) (xs : List A) (x : A) → first_along f from xs ≡ None
      → f (from + length xs) x ≡ None → first_along f from (xs ++ x ∷ []) ≡ None
  along_more_from from xs x none here =
      along_front f from xs (x ∷ []) none
      ∙ ap (λ r. or_else r (first_along f (suc (from + length xs)) [])) here

-- there is no answer where no element has one
pub none_along : {A B : Type 0} (from : ℕ) (xs : List A)
    → first_along {A = A} {B = B} (λ place x. None) from xs ≡ None
none_along from [] = refl
none_along from (x ∷ xs) = none_along (suc from) xs
