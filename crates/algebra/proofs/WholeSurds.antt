-- A type that holds each number a + b√k once is an ordered ring.
use Prim.Native.Nat.{ℕ}
use mathlib.Core.Path.{◌≡◌, refl, ap, ap₂, ◌∙◌}
use mathlib.Core.List.{[], ◌∷◌}
use lib.IntN.{ℤ, pos, ◌+ℤ◌, ◌-ℤ◌, ◌*ℤ◌, neg_ℤ}
use Rattle.std.specs.declared.cmp.Ordering.{Ordering}
use Rattle.algebra.specs.Ring.{Operations}
use Rattle.algebra.specs.Order.{int_sign}
use Rattle.algebra.specs.OrderedRing.{OrderedRing}
use Rattle.algebra.specs.OrderedField.{OrderedFieldUpTo}
use Rattle.algebra.specs.Integers.{int_ops}
use Rattle.algebra.specs.Surd.{Surd, surd_int, surd_add, surd_sub, surd_mul, surd_neg, surd_sign}
use Rattle.algebra.specs.Fraction.{Fraction, Same, whole, sum, difference, product, minus}
use Rattle.algebra.specs.WholeSurds.{HoldsSurds, SurdNumbers}
use Rattle.algebra.proofs.Integers.{integers}
use Rattle.algebra.proofs.Solvers.{reads, ring, ring_from, multiple, no_equation}
use Rattle.algebra.proofs.SurdRing.{surd_path}
use Rattle.algebra.proofs.Fractions.{fractions}
use Rattle.algebra.proofs.NumberParts.{equal_of_zero, zero_sum}
use Rattle.algebra.proofs.NumberValues.{int_neg, int_sub}
use Rattle.algebra.proofs.NumberFields.{HasRoot}
use Rattle.algebra.proofs.Faithful.{IsFaithful, faithful_ring, faithful_order}

module _ {A C : Type 0} (K : OrderedRing A) (k : ℕ) (R : HasRoot K k) (surd : C → Surd ℤ) (H : HoldsSurds k surd) where
  -- ---- the operations

  abbrev product_rational : (x y : C) → k ≡ 1 → (surd_mul int_ops (pos k) (surd x) (surd y)).b ≡ pos 0
  product_rational x y e =
      ap (λ t. t +ℤ (surd x).b *ℤ (surd y).a) (integers.mul_comm (surd x).a (surd y).b)
      ∙ zero_sum (surd y).b (surd x).b (surd x).a (surd y).a (H.rational y e) (H.rational x e)

  sum_rational : (x y : C) → k ≡ 1 → (surd_add int_ops (pos k) (surd x) (surd y)).b ≡ pos 0
  sum_rational x y e = ap₂ (λ s t. s +ℤ t) (H.rational x e) (H.rational y e)

  difference_rational : (x y : C) → k ≡ 1 → (surd_sub int_ops (pos k) (surd x) (surd y)).b ≡ pos 0
  difference_rational x y e = ap₂ (λ s t. s -ℤ t) (H.rational x e) (H.rational y e)

  opposite_rational : (x : C) → k ≡ 1 → (surd_neg int_ops (pos k) (surd x)).b ≡ pos 0
  opposite_rational x e = ap neg_ℤ (H.rational x e)

  abbrev ops : Operations C
  ops = record {
    int = λ n. H.make (surd_int int_ops (pos k) n) (λ e. refl);
    add = λ x y. H.make (surd_add int_ops (pos k) (surd x) (surd y)) (sum_rational x y);
    sub = λ x y. H.make (surd_sub int_ops (pos k) (surd x) (surd y)) (difference_rational x y);
    mul = λ x y. H.make (surd_mul int_ops (pos k) (surd x) (surd y)) (product_rational x y);
    neg = λ x. H.make (surd_neg int_ops (pos k) (surd x)) (opposite_rational x);
  }

  abbrev sign : C → Ordering
  sign x = surd_sign int_ops (pos k) int_sign (surd x)

  -- ---- their values

  abbrev F : OrderedFieldUpTo (Same K)
  F = fractions K

  abbrev with_root : A → A → A
  with_root a b = K.add a (K.mul b R.root)

  abbrev at : Surd ℤ → Fraction K
  at x = whole K (with_root (K.int x.a) (K.int x.b))

  abbrev val : C → Fraction K
  val x = at (surd x)

  made_value : (x : Surd ℤ) (h : k ≡ 1 → x.b ≡ pos 0) (y : Fraction K) → Same K (at x) y → Same K (val (H.make x h)) y
  made_value x h y e = ap (λ t. K.mul (at t).numerator y.denominator) (H.surd_make x h) ∙ e

  no_difference : (a b c d : A) → K.mul (with_root a b) (K.int (pos 1)) ≡ K.mul (with_root c d) (K.int (pos 1))
      → with_root (K.sub a c) (K.sub b d) ≡ K.int (pos 0)
  no_difference a b c d e =
      ring_from K (a ∷ b ∷ c ∷ d ∷ R.root ∷ [])
      (multiple (K.int (pos 1)) (search reads depth 40 fits 50000) (search reads depth 40 fits 50000) (search reads depth 40 fits 50000) e no_equation)
      (search reads depth 40 fits 50000) (search reads depth 40 fits 50000) tt

  val_once : (x y : C) → Same K (val x) (val y) → x ≡ y
  val_once x y e =
      let v : Surd ℤ = surd x in
      let w : Surd ℤ = surd y in
      let zero : with_root (K.int (v.a -ℤ w.a)) (K.int (v.b -ℤ w.b)) ≡ K.int (pos 0)
      = simp (int_sub K) (no_difference (K.int v.a) (K.int v.b) (K.int w.a) (K.int w.b) e) in
      let both = R.apart (v.a -ℤ w.a) (v.b -ℤ w.b) (difference_rational x y) zero in
      H.once x y (surd_path v w (equal_of_zero v.a w.a both.0) (equal_of_zero v.b w.b both.1))

  int_of : (a : A) → Same K (whole K (with_root a (K.int (pos 0)))) (whole K a)
  int_of a = ring K (a ∷ R.root ∷ []) (search reads depth 40 fits 50000) (search reads depth 40 fits 50000) tt

  sum_of : (a b c d : A) → Same K (whole K (with_root (K.add a c) (K.add b d))) (sum K (whole K (with_root a b)) (whole K (with_root c d)))
  sum_of a b c d = ring K (a ∷ b ∷ c ∷ d ∷ R.root ∷ []) (search reads depth 40 fits 50000) (search reads depth 40 fits 50000) tt

  difference_of : (a b c d : A) → Same K (whole K (with_root (K.sub a c) (K.sub b d))) (difference K (whole K (with_root a b)) (whole K (with_root c d)))
  difference_of a b c d = ring K (a ∷ b ∷ c ∷ d ∷ R.root ∷ []) (search reads depth 40 fits 50000) (search reads depth 40 fits 50000) tt

  opposite_of : (a b : A) → Same K (whole K (with_root (K.neg a) (K.neg b))) (minus K (whole K (with_root a b)))
  opposite_of a b = ring K (a ∷ b ∷ R.root ∷ []) (search reads depth 40 fits 50000) (search reads depth 40 fits 50000) tt

  product_of : (m a b c d : A) → K.mul R.root R.root ≡ m
      → Same K (whole K (with_root (K.add (K.mul a c) (K.mul m (K.mul b d))) (K.add (K.mul a d) (K.mul b c)))) (product K (whole K (with_root a b)) (whole K (with_root c d)))
  product_of m a b c d e =
      ring_from K (m ∷ a ∷ b ∷ c ∷ d ∷ R.root ∷ [])
      (multiple (K.neg (K.mul b d)) (search reads depth 40 fits 50000) (search reads depth 40 fits 50000) (search reads depth 40 fits 50000) e no_equation)
      (search reads depth 40 fits 50000) (search reads depth 40 fits 50000) tt

  faithful : IsFaithful (Same K) F val ops sign
  faithful = record {
    once = val_once;
    int_is = λ n. made_value (surd_int int_ops (pos k) n) (λ e. refl) (F.int n) (int_of (K.int n));
    add_is = λ x y.
        made_value (surd_add int_ops (pos k) (surd x) (surd y)) (sum_rational x y) (F.add (val x) (val y))
        (simp K.int_add (sum_of (K.int (surd x).a) (K.int (surd x).b) (K.int (surd y).a) (K.int (surd y).b)));
    sub_is = λ x y.
        made_value (surd_sub int_ops (pos k) (surd x) (surd y)) (difference_rational x y) (F.sub (val x) (val y))
        (simp (int_sub K) (difference_of (K.int (surd x).a) (K.int (surd x).b) (K.int (surd y).a) (K.int (surd y).b)));
    mul_is = λ x y.
        made_value (surd_mul int_ops (pos k) (surd x) (surd y)) (product_rational x y) (F.mul (val x) (val y))
        (simp (K.int_add, K.int_mul) (product_of (K.int (pos k)) (K.int (surd x).a) (K.int (surd x).b) (K.int (surd y).a) (K.int (surd y).b) R.square));
    neg_is = λ x.
        made_value (surd_neg int_ops (pos k) (surd x)) (opposite_rational x) (F.neg (val x))
        (simp (int_neg K) (opposite_of (K.int (surd x).a) (K.int (surd x).b)));
    sign_is = λ x. R.root_sign (record { a = (surd x).a; b = (surd x).b; q = pos 1 }) (H.rational x);
  }

  pub surd_numbers : SurdNumbers k surd
  surd_numbers = record {
    ring = record {
      ops = ops;
      laws = faithful_ring (Same K) F val ops sign faithful;
      sign = sign;
      order = faithful_order (Same K) F val ops sign faithful;
    };
    whole_is = λ n. H.surd_make (surd_int int_ops (pos k) n) (λ e. refl);
    sum_is = λ x y. H.surd_make (surd_add int_ops (pos k) (surd x) (surd y)) (sum_rational x y);
    difference_is = λ x y. H.surd_make (surd_sub int_ops (pos k) (surd x) (surd y)) (difference_rational x y);
    product_is = λ x y. H.surd_make (surd_mul int_ops (pos k) (surd x) (surd y)) (product_rational x y);
    opposite_is = λ x. H.surd_make (surd_neg int_ops (pos k) (surd x)) (opposite_rational x);
    sign_is = λ x. refl;
  }
