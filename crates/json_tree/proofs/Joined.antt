-- what a loop has put out that puts a comma before each element but the first
use Rattle.std.proofs.Common.{◌≡◌, ℕ, suc, ◌+◌, ◌<◌, List, [], ◌∷◌, ◌++◌, length, map, take, get_or, refl, sym, ◌∙◌, ap, subst, append_assoc, arith, length-take}
use Rattle.std.specs.List.{join_with_byte, flat_map, AllByRecursion}
use Rattle.std.proofs.lemmas.Grind.{flat_map-append}
use Rattle.std.proofs.lemmas.List.{append-nil, map-append, length-map, take_more}
use Rattle.std.proofs.lemmas.Bool.Decides.{nat_tests}
use Rattle.json_tree.specs.PrintedForm.{comma_before}

pub joined : (x : List ℕ) (xs : List (List ℕ)) → join_with_byte 44 (x ∷ xs) ≡ x ++ flat_map (λ y. 44 ∷ y) xs
joined x [] = sym (append-nil x)
joined x (y ∷ xs) = ap (λ t. x ++ (44 ∷ t)) (joined y xs)

comma : (n : ℕ) → comma_before (suc n) ≡ 44 ∷ []
comma n = grind (arith, nat_tests)

joined_last : (xs : List (List ℕ)) (y : List ℕ) → join_with_byte 44 (xs ++ y ∷ []) ≡ join_with_byte 44 xs ++ comma_before (length xs) ++ y
joined_last [] y = refl
joined_last (x ∷ xs) y =
    joined x (xs ++ y ∷ []) ∙ ap (λ t. x ++ t) (flat_map-append (λ y. 44 ∷ y) xs (y ∷ []))
    ∙ (rw (joined x xs, comma (length xs)) (simp (append_assoc, append-nil)))

pub with_last : {X : Type 0} (P : X → Type 0) (xs : List X) (x : X) → AllByRecursion P xs → P x → AllByRecursion P (xs ++ x ∷ [])
with_last P [] x all p = (p, tt)
with_last P (y ∷ ys) x all p = (all.0, with_last P ys x all.1 p)

module _ {X : Type 0} (xs : List X) (i : ℕ) (x : X) (less : i < length xs) (is : x ≡ get_or xs i x) where
  taken : take (i + 1) xs ≡ take i xs ++ x ∷ []
  taken = take_more xs i x less ∙ ap (λ y. take i xs ++ y ∷ []) (sym is)

  pub joined_more : (f : X → List ℕ) (start before between after : List ℕ) → before ≡ start ++ join_with_byte 44 (map f (take i xs))
      → between ≡ before ++ comma_before i → after ≡ between ++ f x → after ≡ start ++ join_with_byte 44 (map f (take (i + 1) xs))
  joined_more f start before between after b m a =
      let count : length (map f (take i xs)) ≡ i = length-map (take i xs) f ∙ (let e = length-take i xs in omega arith) in
      let all : join_with_byte 44 (map f (take (i + 1) xs)) ≡ join_with_byte 44 (map f (take i xs)) ++ comma_before i ++ f x =
      ap (λ l. join_with_byte 44 (map f l)) taken ∙ ap (join_with_byte 44) (map-append f (take i xs) (x ∷ [])) ∙ joined_last (map f (take i xs)) (f x)
      ∙ ap (λ n. join_with_byte 44 (map f (take i xs)) ++ comma_before n ++ f x) count in
      rw (a, m, b, all) (simp append_assoc)

  pub all_more : (P : X → Type 0) → P x → AllByRecursion P (take i xs) → AllByRecursion P (take (i + 1) xs)
  all_more P p all = subst (AllByRecursion P) (sym taken) (with_last P (take i xs) x all p)
