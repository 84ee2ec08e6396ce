-- Answers that have exactly the places that meet a condition, and loops over conditions.
use Rattle.std.proofs.Common.{◌≡◌, ℕ, ◌+◌, List, length, Option, Some, None, slice_get, ◌↔◌, subst, sym, refl, IsSome, arith}
use Rattle.std.specs.List.{All, AllWithin}
use Rattle.std.proofs.lemmas.Option.{slice_get_within, get_or_from_slice_get}
use Rattle.std.proofs.lemmas.List.Elements.{AllWithin-none, AllWithin-more, AllWithin-from_all, AllWithin-upto, All-from_all_within}
use Rattle.algebra.specs.OrderedRing.{OrderedRing}
use Rattle.half_planes.specs.Bounds.{Place, IsPlace, Leaves}

-- what holds of all elements holds of one that was read
pub all_at : {X : Type 0} (P : X → Type 0) (xs : List X) (k : ℕ) (x : X) → All P xs → slice_get xs k ≡ Some x → P x
all_at P xs k x all read = subst P (get_or_from_slice_get xs k x x read) (all k x (slice_get_within xs k x read))

module _ {A : Type 0} (K : OrderedRing A) {X : Type 0} (places : X → Place A → Type 0) where
  pub leaves_same : (c d : Place A → Type 0) → ((p : Place A) → IsPlace K p → (c p ↔ d p)) → (answer : Option X) → Leaves K places c answer → Leaves K places d answer
  leaves_same c d same None leaves = λ p h meets. leaves p h ((same p h).1 meets)
  leaves_same c d same (Some x) leaves = λ p h. (λ lies. (same p h).0 ((leaves p h).0 lies), λ meets. (leaves p h).1 ((same p h).1 meets))

  -- where each answer has a place, there's an answer exactly where some place meets the condition
  pub some_iff : (c : Place A → Type 0) (o : Option X) → ((x : X) → (p : Place A) × IsPlace K p × places x p) → Leaves K places c o
      → (IsSome o ↔ ((p : Place A) × IsPlace K p × c p))
  some_iff c None some leaves = (λ h. absurd (cc), λ s. absurd (leaves s.0 s.1 s.2))
  some_iff c (Some x) some leaves = (λ h. ((some x).0, (some x).1, (leaves (some x).0 (some x).1).0 (some x).2), λ s. refl)

  module _ {Y : Type 0} (meets : Y → Place A → Type 0) (ys : List Y) (first : X) where
    -- after n of the conditions
    abbrev pub After : ℕ → X → Type 0
    After n x = (p : Place A) → IsPlace K p → (places x p ↔ (places first p × AllWithin (λ y. meets y p) ys 0 n))

    pub after_none : After 0 first
    after_none p h = (λ lies. (lies, AllWithin-none (λ y. meets y p) ys 0), λ both. both.0)

    one_more : (n : ℕ) (y : Y) (p : Place A) → slice_get ys n ≡ Some y → AllWithin (λ z. meets z p) ys 0 n → meets y p → AllWithin (λ z. meets z p) ys 0 (n + 1)
    one_more n y p read before here =
        AllWithin-more (λ z. meets z p) ys 0 n before
        (λ d. subst (λ z. meets z p) (sym (get_or_from_slice_get ys n y d read)) here)

    pub after_more : (n : ℕ) (x : X) (y : Y) → After n x → slice_get ys n ≡ Some y → (next : X) → Leaves K places (λ p. places x p × meets y p) (Some next) → After (n + 1) next
    after_more n x y before read next leaves p h = (
      λ lies. (
        ((before p h).0 ((leaves p h).0 lies).0).0,
        one_more n y p read ((before p h).0 ((leaves p h).0 lies).0).1 ((leaves p h).0 lies).1,
      ),
      λ both. (leaves p h).1 (
        (before p h).1 (both.0, AllWithin-upto (λ z. meets z p) ys 0 (n + 1) n (omega arith) both.1),
        subst (λ z. meets z p) (get_or_from_slice_get ys n y y read) (both.1 n y (omega arith) (omega arith)),
      ),
    )

    pub none_after : (n : ℕ) (x : X) (y : Y) → After n x → slice_get ys n ≡ Some y → Leaves K places (λ p. places x p × meets y p) None
        → (p : Place A) → IsPlace K p → ¬ (places first p × All (λ z. meets z p) ys)
    none_after n x y before read leaves p h both =
        leaves p h (
          (before p h).1 (
            both.0,
            AllWithin-upto (λ z. meets z p) ys 0 (length ys) n (omega (arith, slice_get_within ys n y read)) (AllWithin-from_all (λ z. meets z p) ys both.1),
          ),
          all_at (λ z. meets z p) ys n y both.1 read,
        )

    pub after_all : (n : ℕ) (x : X) → n ≡ length ys → After n x → Leaves K places (λ p. places first p × All (λ z. meets z p) ys) (Some x)
    after_all n x over before p h = (
      λ lies. (
        ((before p h).0 lies).0,
        All-from_all_within (λ z. meets z p) ys (AllWithin-upto (λ z. meets z p) ys 0 n (length ys) (omega (arith, over)) ((before p h).0 lies).1),
      ),
      λ both. (before p h).1 (
        both.0,
        AllWithin-upto (λ z. meets z p) ys 0 (length ys) n (omega (arith, over)) (AllWithin-from_all (λ z. meets z p) ys both.1),
      ),
    )
