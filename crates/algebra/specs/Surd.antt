-- The numbers a + b√k over a ring, with their sign.
use Rattle.std.specs.declared.cmp.Ordering.{Ordering}
use Rattle.std.specs.declared.cmp.Ordering.TheVariants.{Less, Equal, Greater}
use Prim.Native.Nat.{ℕ, ◌+◌, ◌*◌, ◌<◌}
use lib.IntN.{ℤ, pos}
use Rattle.algebra.specs.Ring.{Operations}

pub record Surd (A : Type 0) : Type 0 where
  pub a : A
  pub b : A

-- k stands between two neighbouring squares, and so is no square itself
pub record IsNonsquare (k : ℕ) : Type 0 where
  pub floor : ℕ
  pub above : floor * floor < k
  pub below : k < (floor + 1) * (floor + 1)

-- the sign of a + b√k by that of a² - k b²: the sign of a where a² is greater, that of b where k b² is
abbrev pub by_norm : Ordering → Ordering → Ordering → Ordering
by_norm Less a b = b
by_norm Equal a b = Equal
by_norm Greater a b = a

module _ {A : Type 0} (O : Operations A) (k : A) where
  abbrev pub surd_add : Surd A → Surd A → Surd A
  surd_add x y = record { a = O.add x.a y.a; b = O.add x.b y.b }

  abbrev pub surd_sub : Surd A → Surd A → Surd A
  surd_sub x y = record { a = O.sub x.a y.a; b = O.sub x.b y.b }

  abbrev pub surd_neg : Surd A → Surd A
  surd_neg x = record { a = O.neg x.a; b = O.neg x.b }

  abbrev pub surd_mul : Surd A → Surd A → Surd A
  surd_mul x y = record { a = O.add (O.mul x.a y.a) (O.mul k (O.mul x.b y.b)); b = O.add (O.mul x.a y.b) (O.mul x.b y.a) }

  abbrev pub surd_int : ℤ → Surd A
  surd_int n = record { a = O.int n; b = O.int (pos 0) }

  abbrev pub surd_ops : Operations (Surd A)
  surd_ops = record { int = surd_int; add = surd_add; sub = surd_sub; mul = surd_mul; neg = surd_neg }

  -- a² - k b²
  abbrev pub surd_norm : Surd A → A
  surd_norm x = O.sub (O.mul x.a x.a) (O.mul k (O.mul x.b x.b))

  abbrev pub surd_sign : (A → Ordering) → Surd A → Ordering
  surd_sign sign x = by_norm (sign (surd_norm x)) (sign x.a) (sign x.b)
