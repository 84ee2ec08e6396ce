-- The numbers a + b√k over a commutative ring are a commutative ring.
use mathlib.Core.Path.{◌≡◌, sym, ◌∙◌}
use mathlib.Core.List.{[], ◌∷◌}
use lib.IntN.{ℤ, pos, ◌+ℤ◌, ◌*ℤ◌}
use Rattle.algebra.specs.Ring.{Operations, IsRing}
use Rattle.algebra.specs.Surd.{Surd, surd_ops}
use Rattle.algebra.proofs.Reading.{reads}
use Rattle.algebra.proofs.Identity.{ring_by_laws}

pub surd_path : {A : Type 0} (x y : Surd A) → x.a ≡ y.a → x.b ≡ y.b → x ≡ y
surd_path x y p q = λ i. record { a = p i; b = q i }

module _ {A : Type 0} (ops : Operations A) (laws : IsRing ops) (k : A) where
  abbrev S : Operations (Surd A)
  S = surd_ops ops k

  mul_assoc : (x y z : Surd A) → S.mul (S.mul x y) z ≡ S.mul x (S.mul y z)
  mul_assoc x y z =
      surd_path (S.mul (S.mul x y) z) (S.mul x (S.mul y z))
      (ring_by_laws ops laws (k ∷ x.a ∷ x.b ∷ y.a ∷ y.b ∷ z.a ∷ z.b ∷ []) (search reads depth 20) (search reads depth 20) tt)
      (ring_by_laws ops laws (k ∷ x.a ∷ x.b ∷ y.a ∷ y.b ∷ z.a ∷ z.b ∷ []) (search reads depth 20) (search reads depth 20) tt)

  mul_comm : (x y : Surd A) → S.mul x y ≡ S.mul y x
  mul_comm x y =
      surd_path (S.mul x y) (S.mul y x)
      (ring_by_laws ops laws (k ∷ x.a ∷ x.b ∷ y.a ∷ y.b ∷ []) (search reads depth 20) (search reads depth 20) tt)
      (ring_by_laws ops laws (k ∷ x.a ∷ x.b ∷ y.a ∷ y.b ∷ []) (search reads depth 20) (search reads depth 20) tt)

  mul_add : (x y z : Surd A) → S.mul x (S.add y z) ≡ S.add (S.mul x y) (S.mul x z)
  mul_add x y z =
      surd_path (S.mul x (S.add y z)) (S.add (S.mul x y) (S.mul x z))
      (ring_by_laws ops laws (k ∷ x.a ∷ x.b ∷ y.a ∷ y.b ∷ z.a ∷ z.b ∷ []) (search reads depth 20) (search reads depth 20) tt)
      (ring_by_laws ops laws (k ∷ x.a ∷ x.b ∷ y.a ∷ y.b ∷ z.a ∷ z.b ∷ []) (search reads depth 20) (search reads depth 20) tt)

  mul_one : (x : Surd A) → S.mul x (S.int (pos 1)) ≡ x
  mul_one x =
      surd_path (S.mul x (S.int (pos 1))) x
      (ring_by_laws ops laws (k ∷ x.a ∷ x.b ∷ []) (search reads depth 20) (search reads depth 20) tt)
      (ring_by_laws ops laws (k ∷ x.a ∷ x.b ∷ []) (search reads depth 20) (search reads depth 20) tt)

  int_add : (m n : ℤ) → S.int (m +ℤ n) ≡ S.add (S.int m) (S.int n)
  int_add m n = surd_path (S.int (m +ℤ n)) (S.add (S.int m) (S.int n)) (laws.int_add m n) (sym (laws.add_zero (ops.int (pos 0))))

  whole_product : (m n : A) → ops.mul m n ≡ ops.add (ops.mul m n) (ops.mul k (ops.mul (ops.int (pos 0)) (ops.int (pos 0))))
  whole_product m n = ring_by_laws ops laws (k ∷ m ∷ n ∷ []) (search reads depth 20) (search reads depth 20) tt

  no_root : (m n : A) → ops.int (pos 0) ≡ ops.add (ops.mul m (ops.int (pos 0))) (ops.mul (ops.int (pos 0)) n)
  no_root m n = ring_by_laws ops laws (m ∷ n ∷ []) (search reads depth 20) (search reads depth 20) tt

  int_mul : (m n : ℤ) → S.int (m *ℤ n) ≡ S.mul (S.int m) (S.int n)
  int_mul m n = surd_path (S.int (m *ℤ n)) (S.mul (S.int m) (S.int n)) (laws.int_mul m n ∙ whole_product (ops.int m) (ops.int n)) (no_root (ops.int m) (ops.int n))

  pub surd_ring : IsRing (surd_ops ops k)
  surd_ring = record {
    add_assoc = λ x y z. surd_path (S.add (S.add x y) z) (S.add x (S.add y z)) (laws.add_assoc x.a y.a z.a) (laws.add_assoc x.b y.b z.b);
    add_comm = λ x y. surd_path (S.add x y) (S.add y x) (laws.add_comm x.a y.a) (laws.add_comm x.b y.b);
    add_zero = λ x. surd_path (S.add x (S.int (pos 0))) x (laws.add_zero x.a) (laws.add_zero x.b);
    add_neg = λ x. surd_path (S.add x (S.neg x)) (S.int (pos 0)) (laws.add_neg x.a) (laws.add_neg x.b);
    sub_is = λ x y. surd_path (S.sub x y) (S.add x (S.neg y)) (laws.sub_is x.a y.a) (laws.sub_is x.b y.b);
    mul_assoc = mul_assoc;
    mul_comm = mul_comm;
    mul_one = mul_one;
    mul_add = mul_add;
    int_add = int_add;
    int_mul = int_mul;
  }
