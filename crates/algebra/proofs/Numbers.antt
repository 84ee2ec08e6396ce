-- The fields of numbers over √k: the rationals for k = 1, and (a + b√k) / q for each k that is no square.
use Prim.Native.Nat.{ℕ}
use mathlib.Core.Path.{◌≡◌, refl, sym, ap, subst, ◌∙◌}
use mathlib.Core.Logic.{inl, inr}
use native.Mathlib.Omega.{arith}
use borrow.Author.Differences.{ints}
use mathlib.Core.HLevel.{is_prop→PathP}
use lib.IntN.{ℤ, pos, ◌+ℤ◌, ◌-ℤ◌, ◌*ℤ◌}
use lib.Signed.{◌<ℤ◌}
use Rattle.std.proofs.Props.{props}
use Rattle.std.specs.declared.cmp.Ordering.{Ordering}
use Rattle.std.specs.declared.cmp.Ordering.TheVariants.{Less, Equal, Greater}
use Rattle.algebra.specs.Order.{int_sign, product_sign}
use Rattle.algebra.specs.OrderedRing.{OrderedRing}
use Rattle.algebra.specs.Integers.{int_ops}
use Rattle.algebra.specs.Surd.{Surd, IsNonsquare, by_norm, surd_int, surd_sign}
use Rattle.algebra.specs.LowestTerms.{Parts, IsReduced, IsNumber}
use Rattle.algebra.specs.NumberField.{IsRadicand, Number, HoldsNumbers, NumberField}
use Rattle.algebra.specs.NumberFormulas.{parts_sign}
use Rattle.algebra.specs.WholeSurds.{HoldsSurds, SurdNumbers}
use Rattle.algebra.proofs.Integers.{integers}
use Rattle.algebra.proofs.SurdRing.{surd_path}
use Rattle.algebra.proofs.Surds.{surds}
use Rattle.algebra.proofs.LowestByGcd.{reduced_once}
use Rattle.algebra.proofs.WholeSurds.{surd_numbers}
use Rattle.algebra.proofs.NumberFields.{HasRoot, number_field}

-- ---- the root of 1 among the whole numbers

rational_apart : (a b : ℤ) → b ≡ pos 0 → a +ℤ b *ℤ pos 1 ≡ pos 0 → (a ≡ pos 0) × (b ≡ pos 0)
rational_apart a b z e = (omega (arith, ints), z)

rational_value : (a b : ℤ) → b ≡ pos 0 → a ≡ a +ℤ b *ℤ pos 1
rational_value a b z = omega (arith, ints)

square_sign : (s t : Ordering) → by_norm (product_sign s s) s t ≡ s
square_sign Less t = refl
square_sign Equal t = refl
square_sign Greater t = refl

pub rational_sign : (p : Parts) → p.b ≡ pos 0 → parts_sign 1 p ≡ int_sign p.a
rational_sign p z =
    let square : p.a *ℤ p.a -ℤ pos 1 *ℤ (p.b *ℤ p.b) ≡ p.a *ℤ p.a = ap (λ t. p.a *ℤ p.a -ℤ pos 1 *ℤ (t *ℤ t)) z ∙ omega (arith, ints) in
    ap (λ t. by_norm (int_sign t) (int_sign p.a) (int_sign p.b)) square ∙ ap (λ s. by_norm s (int_sign p.a) (int_sign p.b)) (integers.sign_mul p.a p.a)
    ∙ square_sign (int_sign p.a) (int_sign p.b)

root_of_one : HasRoot integers 1
root_of_one = record {
  root = pos 1;
  square = refl;
  apart = λ a b r. rational_apart a b (r refl);
  root_sign = λ p r. rational_sign p (r refl) ∙ ap int_sign (rational_value p.a p.b (r refl));
}

-- ---- √k among the surds

module _ (k : ℕ) (h : IsNonsquare k) where
  abbrev root : Surd ℤ
  root = record { a = pos 0; b = pos 1 }

  abbrev K : OrderedRing (Surd ℤ)
  K = surds k h

  surd_of_parts : (a b : ℤ) → K.add (K.int a) (K.mul (K.int b) root) ≡ record { a = a; b = b }
  surd_of_parts a b = surd_path (K.add (K.int a) (K.mul (K.int b) root)) (record { a = a; b = b }) (omega (arith, ints)) (omega (arith, ints))

  root_of_nonsquare : HasRoot (surds k h) k
  root_of_nonsquare = record {
    root = root;
    square = surd_path (K.mul root root) (K.int (pos k)) (omega (arith, ints)) (omega (arith, ints));
    apart = λ a b r e. let s = sym (surd_of_parts a b) ∙ e in (ap (λ (x : Surd ℤ). x.a) s, ap (λ (x : Surd ℤ). x.b) s);
    root_sign = λ p r. ap (surd_sign int_ops (pos k) int_sign) (sym (surd_of_parts p.a p.b));
  }

-- ---- types that hold the numbers once

-- in lowest terms they are an ordered field
pub numbers : {C : Type 0} (k : ℕ) (parts : C → Parts) → IsRadicand k → HoldsNumbers k parts → NumberField k parts
numbers k parts (inl e) H = number_field integers k (subst (HasRoot integers) (sym e) root_of_one) parts H
numbers k parts (inr h) H = number_field (surds k h) k (root_of_nonsquare k h) parts H

-- what a formula gives in lowest terms is one number
pub number_once : {C : Type 0} (k : ℕ) (parts : C → Parts) (p : Parts) (x y : C) → HoldsNumbers k parts → pos 0 <ℤ p.q → IsReduced p (parts x) → IsReduced p (parts y) → x ≡ y
number_once k parts p x y H h e f = H.once x y (reduced_once p (parts x) (parts y) h e f)

-- with whole parts they are an ordered ring
pub whole_surds : {C : Type 0} (k : ℕ) (surd : C → Surd ℤ) → IsRadicand k → HoldsSurds k surd → SurdNumbers k surd
whole_surds k surd (inl e) H = surd_numbers integers k (subst (HasRoot integers) (sym e) root_of_one) surd H
whole_surds k surd (inr h) H = surd_numbers (surds k h) k (root_of_nonsquare k h) surd H

-- ---- the numbers themselves

pub is_number_prop : (k : ℕ) (p : Parts) → IsProp (IsNumber k p)
is_number_prop k p = hlevel props

pub holds_numbers : (k : ℕ) → HoldsNumbers k (λ (x : Number k). x.parts)
holds_numbers k = record {
  make = λ p is. record { parts = p; is = is };
  parts_make = λ p is. refl;
  is_number = λ x. x.is;
  once = λ x y e. λ i. record { parts = e i; is = is_prop→PathP (λ j. IsNumber k (e j)) (λ j. is_number_prop k (e j)) x.is y.is i };
}

pub holds_whole_numbers : HoldsSurds 1 (λ (n : ℤ). surd_int int_ops (pos 1) n)
holds_whole_numbers = record {
  make = λ x h. x.a;
  surd_make = λ x h. surd_path (surd_int int_ops (pos 1) x.a) x refl (sym (h refl));
  rational = λ n e. refl;
  once = λ m n e. ap (λ (x : Surd ℤ). x.a) e;
}

pub holds_surds : (k : ℕ) → ¬ (k ≡ 1) → HoldsSurds k (λ (x : Surd ℤ). x)
holds_surds k n = record { make = λ x h. x; surd_make = λ x h. refl; rational = λ x e. absurd (n e); once = λ x y e. e }
