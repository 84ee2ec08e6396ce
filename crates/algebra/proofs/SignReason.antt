-- Why a number has its sign: it is a sum, a product or the like of numbers with known signs.
use Prim.Native.Nat.{ℕ, zero, suc}
use mathlib.Core.List.{List}
use mathlib.Core.Path.{◌≡◌, refl, sym, ap, ◌∙◌}
use lib.IntN.{ℤ, pos, negsuc}
use Rattle.std.specs.Prelude.{IsTrue}
use Rattle.std.specs.declared.cmp.Ordering.{Ordering}
use Rattle.std.specs.declared.cmp.Ordering.TheVariants.{Less, Equal, Greater}
use Rattle.std.specs.Ordering.{ordering_reverse}
use Rattle.algebra.specs.Order.{int_sign, product_sign}
use Rattle.algebra.specs.OrderedRing.{OrderedRing}
use Rattle.algebra.proofs.Expression.{Expression, constant, plus, times, opposite, value_of, nth_value}
use Rattle.algebra.proofs.RingLaws.{zero_add, neg_one_mul}
use Rattle.algebra.proofs.Reading.{Reading, expression_of, value_of_reading}
use Rattle.algebra.proofs.PossibleSigns.{PossibleSigns, Claim, Has, claimed, allows, only, every_sign, opposite_signs, sum_signs, product_signs, square_signs, MaySum, allows_only, allows_every, allows_opposite, allows_sum, allows_product, allows_square, allows_claimed}

-- the known signs, in the order in which a reason counts them
pub data KnownSigns {A : Type 0} (K : OrderedRing A) (xs : List A) : Type 0 where
  no_sign : KnownSigns K xs
  known : (c : Claim) {a : A} → Reading K.ops xs a → Has c (K.sign a) → KnownSigns K xs → KnownSigns K xs

pub data Reason : Type 0 where
  -- the known sign with this number, counted from 0
  given : ℕ → Reason
  -- an expression of which nothing is known
  unknown : Expression → Reason
  number : ℤ → Reason
  negated : Reason → Reason
  sum : Reason → Reason → Reason
  product : Reason → Reason → Reason
  square : Reason → Reason

pub record Fact : Type 0 where
  pub expression : Expression
  pub signs : PossibleSigns

module _ {A : Type 0} {K : OrderedRing A} {xs : List A} where
  abbrev pub nth_fact : KnownSigns K xs → ℕ → Fact
  nth_fact no_sign i = record { expression = constant (pos 0); signs = only Equal }
  nth_fact (known c r h rest) zero = record { expression = expression_of r; signs = claimed c }
  nth_fact (known c r h rest) (suc i) = nth_fact rest i

  -- the number of which a reason speaks, and the signs that it leaves possible
  abbrev pub fact_of : KnownSigns K xs → Reason → Fact
  fact_of facts (given i) = nth_fact facts i
  fact_of facts (unknown e) = record { expression = e; signs = every_sign }
  fact_of facts (number n) = record { expression = constant n; signs = only (int_sign n) }
  fact_of facts (negated r) = record { expression = opposite (fact_of facts r).expression; signs = opposite_signs (fact_of facts r).signs }
  fact_of facts (sum r s) = record {
    expression = plus (fact_of facts r).expression (fact_of facts s).expression;
    signs = sum_signs (fact_of facts r).signs (fact_of facts s).signs;
  }
  fact_of facts (product r s) = record {
    expression = times (fact_of facts r).expression (fact_of facts s).expression;
    signs = product_signs (fact_of facts r).signs (fact_of facts s).signs;
  }
  fact_of facts (square r) = record { expression = times (fact_of facts r).expression (fact_of facts r).expression; signs = square_signs (fact_of facts r).signs }

module _ {A : Type 0} (K : OrderedRing A) where
  pub sign_neg : (a : A) → K.sign (K.neg a) ≡ ordering_reverse (K.sign a)
  sign_neg a =
      ap K.sign (sym (neg_one_mul K.ops K.laws a)) ∙ K.sign_mul (K.int (negsuc 0)) a ∙ ap (λ s. product_sign s (K.sign a)) (K.sign_int (negsuc 0))

  left_alone : (a b : A) → K.sign b ≡ Equal → K.sign (K.add a b) ≡ K.sign a
  left_alone a b h = ap K.sign (ap (K.add a) (K.sign_zero b h) ∙ K.add_zero a)

  right_alone : (a b : A) → K.sign a ≡ Equal → K.sign (K.add a b) ≡ K.sign b
  right_alone a b h = ap K.sign (ap (λ t. K.add t b) (K.sign_zero a h) ∙ zero_add K.ops K.laws b)

  may_sum : (a b : A) (s t : Ordering) → K.sign a ≡ s → K.sign b ≡ t → MaySum s t (K.sign (K.add a b))
  may_sum a b Less Less h k = K.sign_add Less a b h k
  may_sum a b Less Equal h k = left_alone a b k ∙ h
  may_sum a b Less Greater h k = tt
  may_sum a b Equal t h k = right_alone a b h ∙ k
  may_sum a b Greater Less h k = tt
  may_sum a b Greater Equal h k = left_alone a b k ∙ h
  may_sum a b Greater Greater h k = K.sign_add Greater a b h k

  module _ (xs : List A) where
    -- the fact allows the sign that its number has
    abbrev pub Holds : Fact → Type 0
    Holds f = IsTrue (allows f.signs (K.sign (value_of K.ops (nth_value K.ops xs) f.expression)))

    nth_fact_holds : (facts : KnownSigns K xs) (i : ℕ) → Holds (nth_fact facts i)
    nth_fact_holds no_sign i = rw (K.sign_int (pos 0)) refl
    nth_fact_holds (known c {a} r h rest) zero = rw (value_of_reading r) (allows_claimed c (K.sign a) h)
    nth_fact_holds (known c r h rest) (suc i) = nth_fact_holds rest i

    pub fact_holds : (facts : KnownSigns K xs) (r : Reason) → Holds (fact_of facts r)
    fact_holds facts (given i) = nth_fact_holds facts i
    fact_holds facts (unknown e) = allows_every (K.sign (value_of K.ops (nth_value K.ops xs) e))
    fact_holds facts (number n) = rw (K.sign_int n) (allows_only (int_sign n))
    fact_holds facts (negated r) =
        let a : A = value_of K.ops (nth_value K.ops xs) (fact_of facts r).expression in
        rw (sign_neg a) (allows_opposite (fact_of facts r).signs (K.sign a) (fact_holds facts r))
    fact_holds facts (sum r s) =
        let a : A = value_of K.ops (nth_value K.ops xs) (fact_of facts r).expression in
        let b : A = value_of K.ops (nth_value K.ops xs) (fact_of facts s).expression in
        allows_sum (fact_of facts r).signs (fact_of facts s).signs (K.sign a) (K.sign b) (K.sign (K.add a b)) (may_sum a b (K.sign a) (K.sign b) refl refl)
        (fact_holds facts r) (fact_holds facts s)
    fact_holds facts (product r s) =
        let a : A = value_of K.ops (nth_value K.ops xs) (fact_of facts r).expression in
        let b : A = value_of K.ops (nth_value K.ops xs) (fact_of facts s).expression in
        rw (K.sign_mul a b) (allows_product (fact_of facts r).signs (fact_of facts s).signs (K.sign a) (K.sign b) (fact_holds facts r) (fact_holds facts s))
    fact_holds facts (square r) =
        let a : A = value_of K.ops (nth_value K.ops xs) (fact_of facts r).expression in
        rw (K.sign_mul a a) (allows_square (fact_of facts r).signs (K.sign a) (fact_holds facts r))
