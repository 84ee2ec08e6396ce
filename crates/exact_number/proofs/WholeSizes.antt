-- |a| + 2 |b| is a size of the numbers a + b√k, where k is at most 3, and bounds all that an operation forms.
use Prim.Native.Nat.{ℕ, ◌+◌, ◌*◌, ◌≤◌, ◌<◌, ◌^◌}
use Rattle.std.proofs.Common.{sym, subst, arith}
use Rattle.std.proofs.Math.Nat.{mul-le-mul_right}
use lib.IntN.{ℤ, pos, ◌+ℤ◌, ◌-ℤ◌, ◌*ℤ◌}
use Rattle.std.specs.Prelude.{unsigned_abs}
use Rattle.std.specs.Int.{w128}
use Rattle.std.proofs.lemmas.Int.{ints, unsigned_abs-mul, fits_signed_from_abs}
use Rattle.algebra.specs.Size.{IsSize}
use Rattle.algebra.specs.Surd.{Surd}
use Rattle.algebra.specs.SurdSize.{surd_size}
use Rattle.algebra.specs.WholeSurds.{SurdNumbers}
use Rattle.algebra.proofs.SurdBound.{surd_sized}
use Rattle.exact_number.specs.WideForms.{AllFit, whole_sum, whole_difference, whole_product}

sum_size : (a b : ℤ) → unsigned_abs (a +ℤ b) ≤ unsigned_abs a + unsigned_abs b
sum_size a b = omega (arith, ints)

difference_size : (a b : ℤ) → unsigned_abs (a -ℤ b) ≤ unsigned_abs a + unsigned_abs b
difference_size a b = omega (arith, ints)

pub sum_fits : (x y : Surd ℤ) → surd_size 2 x + surd_size 2 y < 2 ^ 127 → AllFit (whole_sum x y)
sum_fits x y h = (
  fits_signed_from_abs w128 (x.a +ℤ y.a) (omega (arith, h, sum_size x.a y.a)),
  (fits_signed_from_abs w128 (x.b +ℤ y.b) (omega (arith, h, sum_size x.b y.b)), tt),
)

pub difference_fits : (x y : Surd ℤ) → surd_size 2 x + surd_size 2 y < 2 ^ 127 → AllFit (whole_difference x y)
difference_fits x y h = (
  fits_signed_from_abs w128 (x.a -ℤ y.a) (omega (arith, h, difference_size x.a y.a)),
  (fits_signed_from_abs w128 (x.b -ℤ y.b) (omega (arith, h, difference_size x.b y.b)), tt),
)

module _ (k : ℕ) (k_at_most : k ≤ 3) (x y : Surd ℤ) (h : surd_size 2 x * surd_size 2 y < 2 ^ 127) where
  irrational_size : unsigned_abs (pos k *ℤ (x.b *ℤ y.b)) ≤ 4 * (unsigned_abs x.b * unsigned_abs y.b)
  irrational_size =
      omega (
        arith,
        unsigned_abs-mul (pos k) (x.b *ℤ y.b),
        unsigned_abs-mul x.b y.b,
        mul-le-mul_right (unsigned_abs (x.b *ℤ y.b)) k_at_most,
      )

  pub product_fits : AllFit (whole_product k x y)
  product_fits = (
    fits_signed_from_abs w128 (x.a *ℤ y.a) (omega (arith, h, unsigned_abs-mul x.a y.a)),
    (
      fits_signed_from_abs w128 (x.b *ℤ y.b) (omega (arith, h, unsigned_abs-mul x.b y.b)),
      (
        fits_signed_from_abs w128 (pos k *ℤ (x.b *ℤ y.b)) (omega (arith, h, irrational_size)),
        (
          fits_signed_from_abs w128 (x.a *ℤ y.a +ℤ pos k *ℤ (x.b *ℤ y.b))
              (omega (arith, h, irrational_size, unsigned_abs-mul x.a y.a, sum_size (x.a *ℤ y.a) (pos k *ℤ (x.b *ℤ y.b)))),
          (
            fits_signed_from_abs w128 (x.a *ℤ y.b) (omega (arith, h, unsigned_abs-mul x.a y.b)),
            (
              fits_signed_from_abs w128 (x.b *ℤ y.a) (omega (arith, h, unsigned_abs-mul x.b y.a)),
              (
                fits_signed_from_abs w128 (x.a *ℤ y.b +ℤ x.b *ℤ y.a)
                    (omega (arith, h, unsigned_abs-mul x.a y.b, unsigned_abs-mul x.b y.a, sum_size (x.a *ℤ y.b) (x.b *ℤ y.a))),
                tt,
              ),
            ),
          ),
        ),
      ),
    ),
  )

module _ {C : Type 0} (k : ℕ) (pair : C → Surd ℤ) (N : SurdNumbers k pair) (k_at_most : k ≤ 3) where
  at_most_four : k ≤ 2 * 2
  at_most_four = omega (arith, k_at_most)

  pub whole_sized : IsSize N.ops (λ x. surd_size 2 (pair x))
  whole_sized =
      let S = surd_sized k 2 at_most_four in
      record {
        size_int = λ n. subst (λ (s : Surd ℤ). surd_size 2 s ≤ unsigned_abs n) (sym (N.whole_is n)) (S.size_int n);
        size_neg = λ x. subst (λ (s : Surd ℤ). surd_size 2 s ≤ surd_size 2 (pair x)) (sym (N.opposite_is x)) (S.size_neg (pair x));
        size_add = λ x y. subst (λ (s : Surd ℤ). surd_size 2 s ≤ surd_size 2 (pair x) + surd_size 2 (pair y)) (sym (N.sum_is x y)) (S.size_add (pair x) (pair y));
        size_sub = λ x y. subst (λ (s : Surd ℤ). surd_size 2 s ≤ surd_size 2 (pair x) + surd_size 2 (pair y)) (sym (N.difference_is x y)) (S.size_sub (pair x) (pair y));
        size_mul = λ x y. subst (λ (s : Surd ℤ). surd_size 2 s ≤ surd_size 2 (pair x) * surd_size 2 (pair y)) (sym (N.product_is x y)) (S.size_mul (pair x) (pair y));
      }
