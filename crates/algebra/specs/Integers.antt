-- The whole numbers, by their operations.
use lib.IntN.{ℤ, ◌+ℤ◌, ◌-ℤ◌, ◌*ℤ◌, neg_ℤ}
use Rattle.algebra.specs.Ring.{Operations}

abbrev pub int_ops : Operations ℤ
int_ops = record { int = λ n. n; add = ◌+ℤ◌; sub = ◌-ℤ◌; mul = ◌*ℤ◌; neg = neg_ℤ }
