-- The fractions over an ordered ring are an ordered field.
use mathlib.Core.Path.{◌≡◌, refl, sym, ap, ◌∙◌}
use mathlib.Core.List.{[], ◌∷◌}
use lib.IntN.{pos, negsuc}
use Rattle.std.specs.declared.cmp.Ordering.{Ordering}
use Rattle.std.specs.declared.cmp.Ordering.TheVariants.{Less, Equal, Greater}
use Rattle.algebra.specs.Order.{product_sign}
use Rattle.algebra.specs.OrderedRing.{OrderedRing}
use Rattle.algebra.specs.Fraction.{Fraction, Same, sum, difference, product, minus, whole, fraction_ops, fraction_sign, inverse, inverse_at}
use Rattle.algebra.specs.OrderedField.{IsEquality, Respects, IsFieldUpTo, IsOrderedUpTo, OrderedFieldUpTo}
use Rattle.algebra.proofs.Solvers.{reads, ring, ring_from, multiple, no_equation}

after_greater : (s t u : Ordering) → s ≡ Greater → product_sign s t ≡ u → t ≡ u
after_greater Less t u p h = absurd (cc)
after_greater Equal t u p h = absurd (cc)
after_greater Greater t u p h = h

times_greater : (s t : Ordering) → t ≡ Greater → product_sign s t ≡ s
times_greater Less t h = cc
times_greater Equal t h = refl
times_greater Greater t h = h

module _ {A : Type 0} (K : OrderedRing A) where
  -- a positive factor is cancelled
  pub cancel_positive : (d a b : A) → K.sign d ≡ Greater → K.mul d (K.sub a b) ≡ K.int (pos 0) → a ≡ b
  cancel_positive d a b p h =
      let zero_product : K.sign (K.mul d (K.sub a b)) ≡ Equal = ap K.sign h ∙ K.sign_int (pos 0) in
      let zero : K.sub a b ≡ K.int (pos 0)
      = K.sign_zero (K.sub a b) (after_greater (K.sign d) (K.sign (K.sub a b)) Equal p (sym (K.sign_mul d (K.sub a b)) ∙ zero_product)) in
      ring_from K (a ∷ b ∷ [])
      (multiple (K.int (pos 1)) (search reads depth 40 fits 50000) (search reads depth 40 fits 50000) (search reads depth 40 fits 50000) zero no_equation)
      (search reads depth 40 fits 50000) (search reads depth 40 fits 50000) tt

  -- ---- one number

  symmetric : (x y : Fraction K) → Same K x y → Same K y x
  symmetric x y h = sym h

  transitive : (x y z : Fraction K) → Same K x y → Same K y z → Same K x z
  transitive x y z h j =
      cancel_positive y.denominator (K.mul x.numerator z.denominator) (K.mul z.numerator x.denominator) y.positive
      (ring_from K (x.numerator ∷ x.denominator ∷ y.numerator ∷ y.denominator ∷ z.numerator ∷ z.denominator ∷ [])
      (multiple z.denominator (search reads depth 40 fits 50000) (search reads depth 40 fits 50000) (search reads depth 40 fits 50000) h
      (multiple x.denominator (search reads depth 40 fits 50000) (search reads depth 40 fits 50000) (search reads depth 40 fits 50000) j no_equation))
      (search reads depth 40 fits 50000) (search reads depth 40 fits 50000) tt)

  same_add : (x y z w : Fraction K) → Same K x y → Same K z w → Same K (sum K x z) (sum K y w)
  same_add x y z w h j =
      ring_from K (x.numerator ∷ x.denominator ∷ y.numerator ∷ y.denominator ∷ z.numerator ∷ z.denominator ∷ w.numerator ∷ w.denominator ∷ [])
      (multiple (K.mul z.denominator w.denominator) (search reads depth 40 fits 50000) (search reads depth 40 fits 50000) (search reads depth 40 fits 50000) h
      (multiple (K.mul x.denominator y.denominator) (search reads depth 40 fits 50000) (search reads depth 40 fits 50000) (search reads depth 40 fits 50000) j no_equation))
      (search reads depth 40 fits 50000) (search reads depth 40 fits 50000) tt

  same_sub : (x y z w : Fraction K) → Same K x y → Same K z w → Same K (difference K x z) (difference K y w)
  same_sub x y z w h j =
      ring_from K (x.numerator ∷ x.denominator ∷ y.numerator ∷ y.denominator ∷ z.numerator ∷ z.denominator ∷ w.numerator ∷ w.denominator ∷ [])
      (multiple (K.mul z.denominator w.denominator) (search reads depth 40 fits 50000) (search reads depth 40 fits 50000) (search reads depth 40 fits 50000) h
      (multiple (K.neg (K.mul x.denominator y.denominator)) (search reads depth 40 fits 50000) (search reads depth 40 fits 50000) (search reads depth 40 fits 50000) j no_equation))
      (search reads depth 40 fits 50000) (search reads depth 40 fits 50000) tt

  same_mul : (x y z w : Fraction K) → Same K x y → Same K z w → Same K (product K x z) (product K y w)
  same_mul x y z w h j =
      ring_from K (x.numerator ∷ x.denominator ∷ y.numerator ∷ y.denominator ∷ z.numerator ∷ z.denominator ∷ w.numerator ∷ w.denominator ∷ [])
      (multiple (K.mul z.numerator w.denominator) (search reads depth 40 fits 50000) (search reads depth 40 fits 50000) (search reads depth 40 fits 50000) h
      (multiple (K.mul y.numerator x.denominator) (search reads depth 40 fits 50000) (search reads depth 40 fits 50000) (search reads depth 40 fits 50000) j no_equation))
      (search reads depth 40 fits 50000) (search reads depth 40 fits 50000) tt

  same_neg : (x y : Fraction K) → Same K x y → Same K (minus K x) (minus K y)
  same_neg x y h =
      ring_from K (x.numerator ∷ x.denominator ∷ y.numerator ∷ y.denominator ∷ [])
      (multiple (K.int (negsuc 0)) (search reads depth 40 fits 50000) (search reads depth 40 fits 50000) (search reads depth 40 fits 50000) h no_equation)
      (search reads depth 40 fits 50000) (search reads depth 40 fits 50000) tt

  same_sign : (x y : Fraction K) → Same K x y → K.sign x.numerator ≡ K.sign y.numerator
  same_sign x y h =
      sym (times_greater (K.sign x.numerator) (K.sign y.denominator) y.positive)
      ∙ sym (K.sign_mul x.numerator y.denominator) ∙ ap K.sign h ∙ K.sign_mul y.numerator x.denominator
      ∙ times_greater (K.sign y.numerator) (K.sign x.denominator) x.positive

  same_inverse_at : (x y : Fraction K) (s t : Ordering) (p : K.sign x.numerator ≡ s) (q : K.sign y.numerator ≡ t) → s ≡ t → Same K x y → Same K (inverse_at K x s p) (inverse_at K y t q)
  same_inverse_at x y Equal Equal p q e h = h
  same_inverse_at x y Greater Greater p q e h = K.mul_comm x.denominator y.numerator ∙ sym h ∙ K.mul_comm x.numerator y.denominator
  same_inverse_at x y Less Less p q e h =
      ring_from K (x.numerator ∷ x.denominator ∷ y.numerator ∷ y.denominator ∷ [])
      (multiple (K.int (negsuc 0)) (search reads depth 40 fits 50000) (search reads depth 40 fits 50000) (search reads depth 40 fits 50000) h no_equation)
      (search reads depth 40 fits 50000) (search reads depth 40 fits 50000) tt
  same_inverse_at x y Less Equal p q e h = absurd (cc)
  same_inverse_at x y Less Greater p q e h = absurd (cc)
  same_inverse_at x y Equal Less p q e h = absurd (cc)
  same_inverse_at x y Equal Greater p q e h = absurd (cc)
  same_inverse_at x y Greater Less p q e h = absurd (cc)
  same_inverse_at x y Greater Equal p q e h = absurd (cc)

  same_inverse : (x y : Fraction K) → Same K x y → Same K (inverse K x) (inverse K y)
  same_inverse x y h = same_inverse_at x y (K.sign x.numerator) (K.sign y.numerator) refl refl (same_sign x y h) h

  -- ---- the laws of a field

  add_assoc : (x y z : Fraction K) → Same K (sum K (sum K x y) z) (sum K x (sum K y z))
  add_assoc x y z =
      ring K (x.numerator ∷ x.denominator ∷ y.numerator ∷ y.denominator ∷ z.numerator ∷ z.denominator ∷ [])
      (search reads depth 40 fits 50000) (search reads depth 40 fits 50000) tt

  add_comm : (x y : Fraction K) → Same K (sum K x y) (sum K y x)
  add_comm x y =
      ring K (x.numerator ∷ x.denominator ∷ y.numerator ∷ y.denominator ∷ [])
      (search reads depth 40 fits 50000) (search reads depth 40 fits 50000) tt

  add_zero : (x : Fraction K) → Same K (sum K x (whole K (K.int (pos 0)))) x
  add_zero x = ring K (x.numerator ∷ x.denominator ∷ []) (search reads depth 40 fits 50000) (search reads depth 40 fits 50000) tt

  add_neg : (x : Fraction K) → Same K (sum K x (minus K x)) (whole K (K.int (pos 0)))
  add_neg x = ring K (x.numerator ∷ x.denominator ∷ []) (search reads depth 40 fits 50000) (search reads depth 40 fits 50000) tt

  sub_is : (x y : Fraction K) → Same K (difference K x y) (sum K x (minus K y))
  sub_is x y =
      ring K (x.numerator ∷ x.denominator ∷ y.numerator ∷ y.denominator ∷ [])
      (search reads depth 40 fits 50000) (search reads depth 40 fits 50000) tt

  mul_assoc : (x y z : Fraction K) → Same K (product K (product K x y) z) (product K x (product K y z))
  mul_assoc x y z =
      ring K (x.numerator ∷ x.denominator ∷ y.numerator ∷ y.denominator ∷ z.numerator ∷ z.denominator ∷ [])
      (search reads depth 40 fits 50000) (search reads depth 40 fits 50000) tt

  mul_comm : (x y : Fraction K) → Same K (product K x y) (product K y x)
  mul_comm x y =
      ring K (x.numerator ∷ x.denominator ∷ y.numerator ∷ y.denominator ∷ [])
      (search reads depth 40 fits 50000) (search reads depth 40 fits 50000) tt

  mul_one : (x : Fraction K) → Same K (product K x (whole K (K.int (pos 1)))) x
  mul_one x = ring K (x.numerator ∷ x.denominator ∷ []) (search reads depth 40 fits 50000) (search reads depth 40 fits 50000) tt

  mul_add : (x y z : Fraction K) → Same K (product K x (sum K y z)) (sum K (product K x y) (product K x z))
  mul_add x y z =
      ring K (x.numerator ∷ x.denominator ∷ y.numerator ∷ y.denominator ∷ z.numerator ∷ z.denominator ∷ [])
      (search reads depth 40 fits 50000) (search reads depth 40 fits 50000) tt

  -- numbers of the ring add and multiply as fractions over one
  whole_sum : (a b : A) → Same K (whole K (K.add a b)) (sum K (whole K a) (whole K b))
  whole_sum a b = ring K (a ∷ b ∷ []) (search reads depth 40 fits 50000) (search reads depth 40 fits 50000) tt

  whole_product : (a b : A) → Same K (whole K (K.mul a b)) (product K (whole K a) (whole K b))
  whole_product a b = ring K (a ∷ b ∷ []) (search reads depth 40 fits 50000) (search reads depth 40 fits 50000) tt

  mul_inverse_at : (x : Fraction K) (s : Ordering) (e : K.sign x.numerator ≡ s) → ¬ (s ≡ Equal) → Same K (product K x (inverse_at K x s e)) (whole K (K.int (pos 1)))
  mul_inverse_at x Less e n =
      ring K (x.numerator ∷ x.denominator ∷ []) (search reads depth 40 fits 50000) (search reads depth 40 fits 50000) tt
  mul_inverse_at x Equal e n = absurd (n refl)
  mul_inverse_at x Greater e n =
      ring K (x.numerator ∷ x.denominator ∷ []) (search reads depth 40 fits 50000) (search reads depth 40 fits 50000) tt

  -- ---- the laws of the order

  sign_zero : (x : Fraction K) → K.sign x.numerator ≡ Equal → Same K x (whole K (K.int (pos 0)))
  sign_zero x e =
      ap (λ t. K.mul t (K.int (pos 1))) (K.sign_zero x.numerator e)
      ∙ ring K (x.denominator ∷ []) (search reads depth 40 fits 50000) (search reads depth 40 fits 50000) tt

  sign_add : (s : Ordering) (x y : Fraction K) → K.sign x.numerator ≡ s → K.sign y.numerator ≡ s → K.sign (sum K x y).numerator ≡ s
  sign_add s x y p q =
      K.sign_add s (K.mul x.numerator y.denominator) (K.mul y.numerator x.denominator)
      (K.sign_mul x.numerator y.denominator ∙ times_greater (K.sign x.numerator) (K.sign y.denominator) y.positive ∙ p)
      (K.sign_mul y.numerator x.denominator ∙ times_greater (K.sign y.numerator) (K.sign x.denominator) x.positive ∙ q)

  pub fraction_equality : IsEquality (Same K)
  fraction_equality = record { reflexive = λ x. refl; symmetric = symmetric; transitive = transitive }

  pub fraction_respects : Respects (Same K) (fraction_ops K) (inverse K) (fraction_sign K)
  fraction_respects = record {
    same_add = same_add;
    same_sub = same_sub;
    same_mul = same_mul;
    same_neg = same_neg;
    same_inverse = same_inverse;
    same_sign = same_sign;
  }

  pub fraction_field : IsFieldUpTo (Same K) (fraction_ops K) (inverse K) (fraction_sign K)
  fraction_field = record {
    add_assoc = add_assoc;
    add_comm = add_comm;
    add_zero = add_zero;
    add_neg = add_neg;
    sub_is = sub_is;
    mul_assoc = mul_assoc;
    mul_comm = mul_comm;
    mul_one = mul_one;
    mul_add = mul_add;
    int_add = λ m n. ap (λ t. K.mul t (K.mul (K.int (pos 1)) (K.int (pos 1)))) (K.int_add m n) ∙ whole_sum (K.int m) (K.int n);
    int_mul = λ m n. ap (λ t. K.mul t (K.mul (K.int (pos 1)) (K.int (pos 1)))) (K.int_mul m n) ∙ whole_product (K.int m) (K.int n);
    mul_inverse = λ x. mul_inverse_at x (K.sign x.numerator) refl;
  }

  pub fraction_order : IsOrderedUpTo (Same K) (fraction_ops K) (fraction_sign K)
  fraction_order = record {
    sign_int = K.sign_int;
    sign_zero = sign_zero;
    sign_mul = λ x y. K.sign_mul x.numerator y.numerator;
    sign_add = sign_add;
  }

  -- the fractions, as one thing
  abbrev pub fractions : OrderedFieldUpTo (Same K)
  fractions = record {
    ops = fraction_ops K;
    inverse = inverse K;
    sign = fraction_sign K;
    equality = fraction_equality;
    respects = fraction_respects;
    laws = fraction_field;
    order = fraction_order;
  }
