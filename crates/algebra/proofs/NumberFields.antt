-- The numbers (a + b√k) / q in lowest terms are an ordered field, by equations.
use Prim.Native.Nat.{ℕ}
use mathlib.Core.Path.{◌≡◌, refl, sym, ap, subst, ◌∙◌}
use mathlib.Core.List.{[], ◌∷◌}
use lib.IntN.{ℤ, pos, ◌-ℤ◌, ◌*ℤ◌, neg_ℤ}
use lib.Signed.{◌<ℤ◌}
use Rattle.std.specs.declared.cmp.Ordering.{Ordering}
use Rattle.std.specs.declared.cmp.Ordering.TheVariants.{Less, Equal, Greater}
use Rattle.algebra.specs.Ring.{Operations}
use Rattle.algebra.specs.OrderedRing.{OrderedRing}
use Rattle.algebra.specs.OrderedField.{OrderedField, OrderedFieldUpTo}
use Rattle.algebra.specs.Fraction.{Fraction, Same}
use Rattle.algebra.specs.LowestTerms.{Parts, StandForOne, IsReduced, IsNumber}
use Rattle.algebra.specs.NumberField.{HoldsNumbers, NumberField}
use Rattle.algebra.specs.NumberFormulas.{whole_parts, opposite, sum, difference, product, quotient, parts_sign}
use Rattle.algebra.proofs.Solvers.{reads, ring_from, multiple, no_equation}
use Rattle.algebra.proofs.Fractions.{fractions}
use Rattle.algebra.proofs.LowestForms.{reduced, reduced_is, lowest_once}
use Rattle.algebra.proofs.NumberParts.{equal_of_zero, whole_lowest, opposite_lowest, stand_alike, product_positive, reduced_rational, quotient_positive, sum_rational, difference_rational, product_rational, quotient_rational}
use Rattle.algebra.proofs.NumberValues.{int_sub, with_root, value, one_value, whole_value, sum_value, difference_value, product_value, opposite_value, quotient_value}
use Rattle.algebra.proofs.Faithful.{IsFaithful, faithful_ring, faithful_order}

-- an ordered ring with a root of k, over which a + b√k is zero only where both parts are, and has the sign of parts
pub record HasRoot {A : Type 0} (K : OrderedRing A) (k : ℕ) : Type 0 where
  pub root : A
  pub square : K.mul root root ≡ K.int (pos k)
  pub apart : (a b : ℤ) → (k ≡ 1 → b ≡ pos 0) → K.add (K.int a) (K.mul (K.int b) root) ≡ K.int (pos 0) → (a ≡ pos 0) × (b ≡ pos 0)
  pub root_sign : (p : Parts) → (k ≡ 1 → p.b ≡ pos 0) → parts_sign k p ≡ K.sign (K.add (K.int p.a) (K.mul (K.int p.b) root))

module _ {A C : Type 0} (K : OrderedRing A) (k : ℕ) (R : HasRoot K k) (parts : C → Parts) (H : HoldsNumbers k parts) where
  -- ---- the operations

  -- the number for which p stands
  number : (p : Parts) → pos 0 <ℤ p.q → (k ≡ 1 → p.b ≡ pos 0) → C
  number p h r =
      H.make (reduced p) (record { lowest = (reduced_is p h).lowest; rational = λ e. reduced_rational p (reduced p) h (reduced_is p h).same (r e) })

  number_is : (p : Parts) (h : pos 0 <ℤ p.q) (r : k ≡ 1 → p.b ≡ pos 0) → IsReduced p (parts (number p h r))
  unfolding number
  number_is p h r =
      subst (IsReduced p)
      (sym (H.parts_make (reduced p) (record { lowest = (reduced_is p h).lowest; rational = λ e. reduced_rational p (reduced p) h (reduced_is p h).same (r e) })))
      (reduced_is p h)

  abbrev above : (x : C) → pos 0 <ℤ (parts x).q
  above x = (H.is_number x).lowest.positive

  abbrev both_above : (x y : C) → pos 0 <ℤ ((parts x).q *ℤ (parts y).q)
  both_above x y = product_positive (parts x).q (parts y).q (above x) (above y)

  abbrev sign : C → Ordering
  sign x = parts_sign k (parts x)

  abbrev whole_is : (n : ℤ) → IsNumber k (whole_parts n)
  whole_is n = record { lowest = whole_lowest n; rational = λ e. refl }

  opposite_is : (x : C) → IsNumber k (opposite (parts x))
  opposite_is x = record { lowest = opposite_lowest (parts x) (H.is_number x).lowest; rational = λ e. ap neg_ℤ ((H.is_number x).rational e) }

  add : C → C → C
  add x y = number (sum (parts x) (parts y)) (both_above x y) (sum_rational k (parts x) (parts y) (H.is_number x) (H.is_number y))

  sub : C → C → C
  sub x y = number (difference (parts x) (parts y)) (both_above x y) (difference_rational k (parts x) (parts y) (H.is_number x) (H.is_number y))

  mul : C → C → C
  mul x y = number (product k (parts x) (parts y)) (both_above x y) (product_rational k (parts x) (parts y) (H.is_number x) (H.is_number y))

  abbrev ops : Operations C
  ops = record { int = λ n. H.make (whole_parts n) (whole_is n); add = add; sub = sub; mul = mul; neg = λ x. H.make (opposite (parts x)) (opposite_is x) }

  quotient_above : (x y : C) → ¬ (sign y ≡ Equal) → pos 0 <ℤ (quotient k (parts x) (parts y)).q
  quotient_above x y = quotient_positive k (parts x) (parts y) (above x)

  divided : (x y : C) → ¬ (sign y ≡ Equal) → C
  divided x y n =
      number (quotient k (parts x) (parts y)) (quotient_above x y n) (quotient_rational k (parts x) (parts y) (H.is_number x) (H.is_number y))

  div_at : (x y : C) (s : Ordering) → sign y ≡ s → C
  div_at x y Less e = divided x y (λ h. let f : Less ≡ Equal = sym e ∙ h in cc)
  div_at x y Equal e = x
  div_at x y Greater e = divided x y (λ h. let f : Greater ≡ Equal = sym e ∙ h in cc)

  -- ---- their values

  abbrev F : OrderedFieldUpTo (Same K)
  F = fractions K

  abbrev at : (p : Parts) → pos 0 <ℤ p.q → Fraction K
  at = value K k R.root R.square

  abbrev val : C → Fraction K
  val x = at (parts x) (above x)

  reduced_value : (p : Parts) (h : pos 0 <ℤ p.q) (x : C) → IsReduced p (parts x) → Same K (val x) (at p h)
  reduced_value p h x e = F.symmetric (at p h) (val x) (one_value K k R.root R.square p (parts x) h (above x) e.same)

  add_is : (x y : C) → IsReduced (sum (parts x) (parts y)) (parts (add x y))
  unfolding add
  add_is x y = number_is (sum (parts x) (parts y)) (both_above x y) (sum_rational k (parts x) (parts y) (H.is_number x) (H.is_number y))

  sub_is : (x y : C) → IsReduced (difference (parts x) (parts y)) (parts (sub x y))
  unfolding sub
  sub_is x y = number_is (difference (parts x) (parts y)) (both_above x y) (difference_rational k (parts x) (parts y) (H.is_number x) (H.is_number y))

  mul_is : (x y : C) → IsReduced (product k (parts x) (parts y)) (parts (mul x y))
  unfolding mul
  mul_is x y = number_is (product k (parts x) (parts y)) (both_above x y) (product_rational k (parts x) (parts y) (H.is_number x) (H.is_number y))

  divided_is : (x y : C) (n : ¬ (sign y ≡ Equal)) → IsReduced (quotient k (parts x) (parts y)) (parts (divided x y n))
  unfolding divided
  divided_is x y n =
      number_is (quotient k (parts x) (parts y)) (quotient_above x y n) (quotient_rational k (parts x) (parts y) (H.is_number x) (H.is_number y))

  -- parts are in a proportion where their values are one fraction
  no_difference : (a b q c d r : A) → K.mul (with_root K k R.root R.square a b) r ≡ K.mul (with_root K k R.root R.square c d) q
      → K.add (K.sub (K.mul a r) (K.mul c q)) (K.mul (K.sub (K.mul b r) (K.mul d q)) R.root) ≡ K.int (pos 0)
  no_difference a b q c d r e =
      ring_from K (a ∷ b ∷ q ∷ c ∷ d ∷ r ∷ R.root ∷ [])
      (multiple (K.int (pos 1)) (search reads depth 40 fits 50000) (search reads depth 40 fits 50000) (search reads depth 40 fits 50000) e no_equation)
      (search reads depth 40 fits 50000) (search reads depth 40 fits 50000) tt

  stand_for_one : (x y : C) → Same K (val x) (val y) → StandForOne (parts x) (parts y)
  stand_for_one x y e =
      let p : Parts = parts x in
      let r : Parts = parts y in
      let zero : K.add (K.int (p.a *ℤ r.q -ℤ r.a *ℤ p.q)) (K.mul (K.int (p.b *ℤ r.q -ℤ r.b *ℤ p.q)) R.root) ≡ K.int (pos 0)
      = simp (int_sub K, K.int_mul) (no_difference (K.int p.a) (K.int p.b) (K.int p.q) (K.int r.a) (K.int r.b) (K.int r.q) e) in
      let both = R.apart (p.a *ℤ r.q -ℤ r.a *ℤ p.q) (p.b *ℤ r.q -ℤ r.b *ℤ p.q) (difference_rational k p r (H.is_number x) (H.is_number y)) zero in
      record { rational = equal_of_zero (p.a *ℤ r.q) (r.a *ℤ p.q) both.0; irrational = equal_of_zero (p.b *ℤ r.q) (r.b *ℤ p.q) both.1 }

  val_once : (x y : C) → Same K (val x) (val y) → x ≡ y
  val_once x y e = H.once x y (lowest_once (parts x) (parts y) (H.is_number x).lowest (H.is_number y).lowest (stand_for_one x y e))

  made_value : (p : Parts) (is : IsNumber k p) → Same K (val (H.make p is)) (at p is.lowest.positive)
  made_value p is =
      one_value K k R.root R.square (parts (H.make p is)) p (above (H.make p is)) is.lowest.positive
      (stand_alike (parts (H.make p is)) p (H.parts_make p is))

  int_value : (n : ℤ) → Same K (val (ops.int n)) (F.int n)
  int_value n =
      F.transitive (val (ops.int n)) (at (whole_parts n) (whole_is n).lowest.positive) (F.int n)
      (made_value (whole_parts n) (whole_is n)) (whole_value K k R.root R.square n (whole_is n).lowest.positive)

  add_value : (x y : C) → Same K (val (add x y)) (F.add (val x) (val y))
  add_value x y =
      F.transitive (val (add x y)) (at (sum (parts x) (parts y)) (both_above x y)) (F.add (val x) (val y))
      (reduced_value (sum (parts x) (parts y)) (both_above x y) (add x y) (add_is x y))
      (sum_value K k R.root R.square (parts x) (parts y) (above x) (above y) (both_above x y))

  sub_value : (x y : C) → Same K (val (sub x y)) (F.sub (val x) (val y))
  sub_value x y =
      F.transitive (val (sub x y)) (at (difference (parts x) (parts y)) (both_above x y)) (F.sub (val x) (val y))
      (reduced_value (difference (parts x) (parts y)) (both_above x y) (sub x y) (sub_is x y))
      (difference_value K k R.root R.square (parts x) (parts y) (above x) (above y) (both_above x y))

  mul_value : (x y : C) → Same K (val (mul x y)) (F.mul (val x) (val y))
  mul_value x y =
      F.transitive (val (mul x y)) (at (product k (parts x) (parts y)) (both_above x y)) (F.mul (val x) (val y))
      (reduced_value (product k (parts x) (parts y)) (both_above x y) (mul x y) (mul_is x y))
      (product_value K k R.root R.square (parts x) (parts y) (above x) (above y) (both_above x y))

  neg_value : (x : C) → Same K (val (ops.neg x)) (F.neg (val x))
  neg_value x =
      F.transitive (val (ops.neg x)) (at (opposite (parts x)) (opposite_is x).lowest.positive) (F.neg (val x))
      (made_value (opposite (parts x)) (opposite_is x)) (opposite_value K k R.root R.square (parts x) (above x))

  faithful : IsFaithful (Same K) F val ops sign
  faithful = record {
    once = val_once;
    int_is = int_value;
    add_is = add_value;
    sub_is = sub_value;
    mul_is = mul_value;
    neg_is = neg_value;
    sign_is = λ x. R.root_sign (parts x) (H.is_number x).rational;
  }

  divided_back : (x y : C) (n : ¬ (sign y ≡ Equal)) → mul (divided x y n) y ≡ x
  divided_back x y n =
      let q : Parts = quotient k (parts x) (parts y) in
      val_once (mul (divided x y n) y) x
      (F.transitive (val (mul (divided x y n) y)) (F.mul (val (divided x y n)) (val y)) (val x) (mul_value (divided x y n) y)
      (F.transitive (F.mul (val (divided x y n)) (val y)) (F.mul (at q (quotient_above x y n)) (val y)) (val x)
      (F.same_mul (val (divided x y n)) (at q (quotient_above x y n)) (val y) (val y)
      (reduced_value q (quotient_above x y n) (divided x y n) (divided_is x y n)) (F.reflexive (val y)))
      (quotient_value K k R.root R.square (parts x) (parts y) (above x) (above y) (quotient_above x y n))))

  div_at_back : (x y : C) (s : Ordering) (e : sign y ≡ s) → ¬ (sign y ≡ Equal) → mul (div_at x y s e) y ≡ x
  unfolding div_at
  div_at_back x y Less e n = divided_back x y (λ h. let f : Less ≡ Equal = sym e ∙ h in cc)
  div_at_back x y Equal e n = absurd (n e)
  div_at_back x y Greater e n = divided_back x y (λ h. let f : Greater ≡ Equal = sym e ∙ h in cc)

  div_at_is : (x y : C) (s : Ordering) (e : sign y ≡ s) → ¬ (sign y ≡ Equal) → IsReduced (quotient k (parts x) (parts y)) (parts (div_at x y s e))
  unfolding div_at
  div_at_is x y Less e n = divided_is x y (λ h. let f : Less ≡ Equal = sym e ∙ h in cc)
  div_at_is x y Equal e n = absurd (n e)
  div_at_is x y Greater e n = divided_is x y (λ h. let f : Greater ≡ Equal = sym e ∙ h in cc)

  abbrev field : OrderedField C
  field = record {
    ring = record {
      ops = ops;
      laws = faithful_ring (Same K) F val ops sign faithful;
      sign = sign;
      order = faithful_order (Same K) F val ops sign faithful;
    };
    div = λ x y. div_at x y (sign y) refl;
    div_mul = λ x y. div_at_back x y (sign y) refl;
  }

  pub number_field : NumberField k parts
  number_field = record {
    field = field;
    whole_is = λ n. H.parts_make (whole_parts n) (whole_is n);
    sum_is = add_is;
    difference_is = sub_is;
    product_is = mul_is;
    opposite_is = λ x. H.parts_make (opposite (parts x)) (opposite_is x);
    quotient_is = λ x y. div_at_is x y (sign y) refl;
    sign_is = λ x. refl;
  }
