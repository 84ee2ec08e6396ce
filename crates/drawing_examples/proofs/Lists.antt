-- Tests over the elements of a list, and what they decide.
use mathlib.Core.Path.{◌≡◌, refl, sym, ap, subst}
use mathlib.Core.Bool.{Bool, true, false}
use mathlib.Core.List.{List, [], ◌∷◌, ◌++◌}
use mathlib.Core.Logic.{◌⊎◌, inl, inr}
use Prim.Native.Nat.{ℕ, zero, suc, ◌<◌}
use Rattle.std.proofs.Common.{arith}
use Rattle.std.proofs.lemmas.List.Elements.{All-nil, All-cons}
use Rattle.std.specs.Bool.{Decides}
use Rattle.std.specs.Prelude.{◌&&◌, ◌||◌, Contains, All, length, slice_index_or, not}
use Rattle.plane.proofs.Members.{in_cons, in_head, in_tail, in_nil}

pub or_either : (a b : Bool) → (a || b) ≡ true → (a ≡ true) ⊎ (b ≡ true)
or_either true b h = inl refl
or_either false b h = inr h

pub and_first : (a b : Bool) → (a && b) ≡ true → a ≡ true
and_first true b h = refl
and_first false b h = absurd (cc)

pub and_second : (a b : Bool) → (a && b) ≡ true → b ≡ true
and_second true b h = h
and_second false b h = absurd (cc)

pub yes : {P : Type 0} (b : Bool) → Decides b P → b ≡ true → P
yes b d h = d.0 h

module _ {X : Type 0} (f : X → Bool) where
  abbrev pub some : List X → Bool
  some [] = false
  some (x ∷ xs) = f x || some xs

  abbrev pub every : List X → Bool
  every [] = true
  every (x ∷ xs) = f x && every xs

  module _ (P : X → Type 0) where
    pub some_decides : (xs : List X) → ((x : X) → Contains xs x → Decides (f x) (P x)) → Decides (some xs) ((x : X) × Contains xs x × P x)
    some_decides [] each = (λ h. absurd (cc), λ h. absurd (in_nil h.0 h.1))
    some_decides (x ∷ xs) each =
        let here = each x (in_head x xs) in
        let later = some_decides xs (λ y i. each y (in_tail x xs y i)) in (
          λ h. elim (or_either (f x) (some xs) h) [
            | inl e ↦ (x, in_head x xs, here.0 e)
            | inr e ↦ let t = later.0 e in (t.0, in_tail x xs t.0 t.1, t.2)
          ],
          λ h. elim (in_cons x xs h.0 h.1) [
            | inl e ↦ or_true_left (f x) (some xs) (here.1 (subst P (sym e) h.2))
            | inr i ↦ or_true_right (f x) (some xs) (later.1 (h.0, i, h.2))
          ],
        )
      where
        or_true_left : (a b : Bool) → a ≡ true → (a || b) ≡ true
        or_true_left true b h = refl
        or_true_left false b h = absurd (cc)

        or_true_right : (a b : Bool) → b ≡ true → (a || b) ≡ true
        or_true_right true b h = refl
        or_true_right false b h = h

    pub every_decides : (xs : List X) → ((x : X) → Contains xs x → Decides (f x) (P x)) → Decides (every xs) ((x : X) → Contains xs x → P x)
    every_decides [] each = (λ h x i. absurd (in_nil x i), λ h. refl)
    every_decides (x ∷ xs) each =
        let here = each x (in_head x xs) in
        let later = every_decides xs (λ y i. each y (in_tail x xs y i)) in (
          λ h y i. elim (in_cons x xs y i) [
            | inl e ↦ subst P e (here.0 (and_first (f x) (every xs) h))
            | inr j ↦ later.0 (and_second (f x) (every xs) h) y j
          ],
          λ h. both_true (f x) (every xs) (here.1 (h x (in_head x xs))) (later.1 (λ y j. h y (in_tail x xs y j))),
        )
      where
        both_true : (a b : Bool) → a ≡ true → b ≡ true → (a && b) ≡ true
        both_true true b h k = k
        both_true false b h k = absurd (cc)

  pub every_of : (xs : List X) → every xs ≡ true → (x : X) → Contains xs x → f x ≡ true
  every_of xs h = (every_decides (λ x. f x ≡ true) xs (λ x i. (λ e. e, λ e. e))).0 h

  pub some_of : (xs : List X) → some xs ≡ true → (x : X) × Contains xs x × (f x ≡ true)
  some_of xs h = (some_decides (λ x. f x ≡ true) xs (λ x i. (λ e. e, λ e. e))).0 h

  -- the first element that passes the test passes another
  module _ (g : X → Bool) where
    abbrev pub first : List X → Bool
    first [] = false
    first (x ∷ xs) = (f x && g x) || (not (f x) && first xs)

    pub record IsFirst (xs : List X) : Type 0 where
      pub before : List X
      pub after : List X
      pub found : X
      pub is : xs ≡ before ++ found ∷ after
      pub passes : f found ≡ true
      pub none_before : All (λ x. f x ≡ false) before
      pub also : g found ≡ true

    pub first_is : (xs : List X) → first xs ≡ true → IsFirst xs
    first_is [] h = absurd (cc)
    first_is (x ∷ xs) h = elim (or_either (f x && g x) (not (f x) && first xs) h) [
      | inl e ↦ record {
        before = [];
        after = xs;
        found = x;
        is = refl;
        passes = and_first (f x) (g x) e;
        none_before = All-nil (λ x. f x ≡ false);
        also = and_second (f x) (g x) e;
      }
      | inr e ↦ let r = first_is xs (and_second (not (f x)) (first xs) e) in record {
        before = x ∷ r.before;
        after = r.after;
        found = r.found;
        is = ap (λ ys. x ∷ ys) r.is;
        passes = r.passes;
        none_before = All-cons (λ x. f x ≡ false) x r.before (not_true (f x) (and_first (not (f x)) (first xs) e)) r.none_before;
        also = r.also;
      }
    ]
      where
        not_true : (b : Bool) → not b ≡ true → b ≡ false
        not_true true h = absurd (cc)
        not_true false h = refl

-- a test at each number below another
abbrev pub below : (ℕ → Bool) → ℕ → Bool
below f zero = true
below f (suc n) = f n && below f n

pub below_of : (f : ℕ → Bool) (n : ℕ) → below f n ≡ true → (k : ℕ) → k < n → f k ≡ true
below_of f zero h k l = absurd (omega (arith, l))
below_of f (suc n) h k l = elim (less_or_equal k n l) [
  | inl e ↦ subst (λ m. f m ≡ true) (sym e) (and_first (f n) (below f n) h)
  | inr m ↦ below_of f n (and_second (f n) (below f n) h) k m
]
  where
    less_or_equal : (k n : ℕ) → k < suc n → (k ≡ n) ⊎ (k < n)
    less_or_equal zero zero l = inl refl
    less_or_equal zero (suc n) l = inr (omega arith)
    less_or_equal (suc k) zero l = absurd (omega (arith, l))
    less_or_equal (suc k) (suc n) l = elim (less_or_equal k n (omega (arith, l))) [ inl e ↦ inl (ap suc e) | inr m ↦ inr (omega (arith, m)) ]

-- what stands at a place
pub at_place : {X : Type 0} (xs : List X) (d : X) (v : ℕ) → v < length xs → Contains xs (slice_index_or xs v d)
at_place [] d v l = absurd (omega (arith, l))
at_place (x ∷ xs) d zero l = in_head x xs
at_place (x ∷ xs) d (suc v) l = in_tail x xs (slice_index_or xs v d) (at_place xs d v (omega (arith, l)))
