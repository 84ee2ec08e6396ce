-- Which signs a number may have, as far as they are known, and those of sums, products and squares.
use mathlib.Core.Path.{◌≡◌, refl}
use mathlib.Core.List.{List, [], ◌∷◌}
use mathlib.Core.Bool.{Bool, true, false, not, ◌&&◌, ◌||◌}
use Rattle.std.specs.Prelude.{IsTrue}
use Rattle.std.specs.declared.cmp.Ordering.{Ordering}
use Rattle.std.specs.declared.cmp.Ordering.TheVariants.{Less, Equal, Greater}
use Rattle.std.specs.Ordering.{ordering_reverse, is_ge, is_le}
use Rattle.std.proofs.lemmas.Bool.{or_left, or_right}
use Rattle.std.specs.Cmp.Derive.{both_true}
use Rattle.algebra.specs.Order.{product_sign}

pub record PossibleSigns : Type 0 where
  pub less : Bool
  pub equal : Bool
  pub greater : Bool

abbrev pub allows : PossibleSigns → Ordering → Bool
allows p Less = p.less
allows p Equal = p.equal
allows p Greater = p.greater

abbrev pub only : Ordering → PossibleSigns
only Less = record { less = true; equal = false; greater = false }
only Equal = record { less = false; equal = true; greater = false }
only Greater = record { less = false; equal = false; greater = true }

abbrev pub every_sign : PossibleSigns
every_sign = record { less = true; equal = true; greater = true }

abbrev pub opposite_signs : PossibleSigns → PossibleSigns
opposite_signs p = record { less = p.greater; equal = p.equal; greater = p.less }

abbrev pub sum_signs : PossibleSigns → PossibleSigns → PossibleSigns
sum_signs p q = record {
  less = p.less || q.less;
  equal = (p.equal && q.equal) || ((p.less && q.greater) || (p.greater && q.less));
  greater = p.greater || q.greater;
}

abbrev pub product_signs : PossibleSigns → PossibleSigns → PossibleSigns
product_signs p q = record {
  less = (p.less && q.greater) || (p.greater && q.less);
  equal = p.equal || q.equal;
  greater = (p.less && q.less) || (p.greater && q.greater);
}

abbrev pub square_signs : PossibleSigns → PossibleSigns
square_signs p = record { less = false; equal = p.equal; greater = p.less || p.greater }

-- ---- what is said of a sign

pub data Claim : Type 0 where
  positive negative at_zero not_negative not_positive not_zero any_sign : Claim

abbrev pub Has : Claim → Ordering → Type 0
Has positive s = s ≡ Greater
Has negative s = s ≡ Less
Has at_zero s = s ≡ Equal
Has not_negative s = IsTrue (is_ge s)
Has not_positive s = IsTrue (is_le s)
Has not_zero s = ¬ (s ≡ Equal)
Has any_sign s = Unit {0}

abbrev pub claimed : Claim → PossibleSigns
claimed positive = only Greater
claimed negative = only Less
claimed at_zero = only Equal
claimed not_negative = record { less = false; equal = true; greater = true }
claimed not_positive = record { less = true; equal = true; greater = false }
claimed not_zero = record { less = true; equal = false; greater = true }
claimed any_sign = every_sign

-- no other signs are possible than those that are claimed
abbrev pub settles : Claim → PossibleSigns → Bool
settles positive p = not (p.less || p.equal)
settles negative p = not (p.equal || p.greater)
settles at_zero p = not (p.less || p.greater)
settles not_negative p = not p.less
settles not_positive p = not p.greater
settles not_zero p = not p.equal
settles any_sign p = true

abbrev listed_if : Bool → Ordering → List Ordering → List Ordering
listed_if true s rest = s ∷ rest
listed_if false s rest = rest

abbrev pub possible : PossibleSigns → List Ordering
possible p = listed_if p.less Less (listed_if p.equal Equal (listed_if p.greater Greater []))

-- no possible signs are left undecided: a refusal names those that are
pub data Undecided : List Ordering → Type 0 where

abbrev decided_by : Bool → PossibleSigns → Type 0
decided_by true p = Unit {0}
decided_by false p = Undecided (possible p)

abbrev pub Settles : Claim → PossibleSigns → Type 0
Settles c p = decided_by (settles c p) p

-- ---- soundness

pub allows_only : (s : Ordering) → IsTrue (allows (only s) s)
allows_only Less = refl
allows_only Equal = refl
allows_only Greater = refl

pub allows_every : (s : Ordering) → IsTrue (allows every_sign s)
allows_every Less = refl
allows_every Equal = refl
allows_every Greater = refl

pub allows_opposite : (p : PossibleSigns) (s : Ordering) → IsTrue (allows p s) → IsTrue (allows (opposite_signs p) (ordering_reverse s))
allows_opposite p Less h = h
allows_opposite p Equal h = h
allows_opposite p Greater h = h

pub allows_square : (p : PossibleSigns) (s : Ordering) → IsTrue (allows p s) → IsTrue (allows (square_signs p) (product_sign s s))
allows_square p Less h = or_left p.less p.greater h
allows_square p Equal h = h
allows_square p Greater h = or_right p.less p.greater h

-- r may be the sign of a sum of numbers with the signs s and t
abbrev pub MaySum : Ordering → Ordering → Ordering → Type 0
MaySum Less Less r = r ≡ Less
MaySum Less Equal r = r ≡ Less
MaySum Less Greater r = Unit {0}
MaySum Equal t r = r ≡ t
MaySum Greater Less r = Unit {0}
MaySum Greater Equal r = r ≡ Greater
MaySum Greater Greater r = r ≡ Greater

module _ (p q : PossibleSigns) where
  pub allows_product : (s t : Ordering) → IsTrue (allows p s) → IsTrue (allows q t) → IsTrue (allows (product_signs p q) (product_sign s t))
  allows_product Less Less h k = or_left (p.less && q.less) (p.greater && q.greater) (both_true h k)
  allows_product Less Equal h k = or_right p.equal q.equal k
  allows_product Less Greater h k = or_left (p.less && q.greater) (p.greater && q.less) (both_true h k)
  allows_product Equal t h k = or_left p.equal q.equal h
  allows_product Greater Less h k = or_right (p.less && q.greater) (p.greater && q.less) (both_true h k)
  allows_product Greater Equal h k = or_right p.equal q.equal k
  allows_product Greater Greater h k = or_right (p.less && q.less) (p.greater && q.greater) (both_true h k)

  pub allows_sum : (s t r : Ordering) → MaySum s t r → IsTrue (allows p s) → IsTrue (allows q t) → IsTrue (allows (sum_signs p q) r)
  allows_sum Less Less r e h k = rw e (or_left p.less q.less h)
  allows_sum Less Equal r e h k = rw e (or_left p.less q.less h)
  allows_sum Less Greater Less e h k = or_left p.less q.less h
  allows_sum Less Greater Equal e h k =
      or_right (p.equal && q.equal) ((p.less && q.greater) || (p.greater && q.less)) (or_left (p.less && q.greater) (p.greater && q.less) (both_true h k))
  allows_sum Less Greater Greater e h k = or_right p.greater q.greater k
  allows_sum Equal Less r e h k = rw e (or_right p.less q.less k)
  allows_sum Equal Equal r e h k = rw e (or_left (p.equal && q.equal) ((p.less && q.greater) || (p.greater && q.less)) (both_true h k))
  allows_sum Equal Greater r e h k = rw e (or_right p.greater q.greater k)
  allows_sum Greater Less Less e h k = or_right p.less q.less k
  allows_sum Greater Less Equal e h k =
      or_right (p.equal && q.equal) ((p.less && q.greater) || (p.greater && q.less)) (or_right (p.less && q.greater) (p.greater && q.less) (both_true h k))
  allows_sum Greater Less Greater e h k = or_left p.greater q.greater h
  allows_sum Greater Equal r e h k = rw e (or_left p.greater q.greater h)
  allows_sum Greater Greater r e h k = rw e (or_left p.greater q.greater h)

pub allows_claimed : (c : Claim) (s : Ordering) → Has c s → IsTrue (allows (claimed c) s)
allows_claimed positive s h = rw h refl
allows_claimed negative s h = rw h refl
allows_claimed at_zero s h = rw h refl
allows_claimed not_negative Less h = h
allows_claimed not_negative Equal h = refl
allows_claimed not_negative Greater h = refl
allows_claimed not_positive Less h = refl
allows_claimed not_positive Equal h = refl
allows_claimed not_positive Greater h = h
allows_claimed not_zero Less h = refl
allows_claimed not_zero Equal h = absurd (h refl)
allows_claimed not_zero Greater h = refl
allows_claimed any_sign s h = allows_every s

neither : (a b : Bool) → IsTrue (not (a || b)) → (a ≡ false) × (b ≡ false)
neither true b h = absurd (cc)
neither false true h = absurd (cc)
neither false false h = (refl, refl)

not_true : (a : Bool) → IsTrue (not a) → a ≡ false
not_true true h = absurd (cc)
not_true false h = refl

clash : {B : Type 0} (b : Bool) → b ≡ false → IsTrue b → B
clash b h k = absurd (cc)

test_of_settled : (b : Bool) (p : PossibleSigns) → decided_by b p → IsTrue b
test_of_settled true p h = refl
test_of_settled false p h = elim h [ ]

has_by_test : (c : Claim) (p : PossibleSigns) (s : Ordering) → IsTrue (settles c p) → IsTrue (allows p s) → Has c s
has_by_test positive p Less h k = clash p.less (neither p.less p.equal h).0 k
has_by_test positive p Equal h k = clash p.equal (neither p.less p.equal h).1 k
has_by_test positive p Greater h k = refl
has_by_test negative p Less h k = refl
has_by_test negative p Equal h k = clash p.equal (neither p.equal p.greater h).0 k
has_by_test negative p Greater h k = clash p.greater (neither p.equal p.greater h).1 k
has_by_test at_zero p Less h k = clash p.less (neither p.less p.greater h).0 k
has_by_test at_zero p Equal h k = refl
has_by_test at_zero p Greater h k = clash p.greater (neither p.less p.greater h).1 k
has_by_test not_negative p Less h k = clash p.less (not_true p.less h) k
has_by_test not_negative p Equal h k = refl
has_by_test not_negative p Greater h k = refl
has_by_test not_positive p Less h k = refl
has_by_test not_positive p Equal h k = refl
has_by_test not_positive p Greater h k = clash p.greater (not_true p.greater h) k
has_by_test not_zero p Less h k = λ e. cc
has_by_test not_zero p Equal h k = clash p.equal (not_true p.equal h) k
has_by_test not_zero p Greater h k = λ e. cc
has_by_test any_sign p s h k = tt

pub has_settled : (c : Claim) (p : PossibleSigns) (s : Ordering) → Settles c p → IsTrue (allows p s) → Has c s
has_settled c p s h k = has_by_test c p s (test_of_settled (settles c p) p h) k
