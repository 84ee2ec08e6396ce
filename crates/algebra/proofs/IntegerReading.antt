-- Readings of whole numbers, in their own operators: a numeral is `pos n` or `negsuc n`.
use mathlib.Core.List.{List}
use Prim.Native.Nat.{ℕ}
use lib.IntN.{ℤ, pos, negsuc, ◌+ℤ◌, ◌-ℤ◌, ◌*ℤ◌, neg_ℤ}
use Rattle.algebra.specs.Integers.{int_ops}
use Rattle.algebra.proofs.Reading.{Reading, read_variable, here, there, read_int, read_add, read_sub, read_mul, read_neg}

module _ {xs : List ℤ} where
  abbrev pub read_pos : (n : ℕ) → Reading int_ops xs (pos n)
  read_pos n = read_int (pos n)

  abbrev pub read_negsuc : (n : ℕ) → Reading int_ops xs (negsuc n)
  read_negsuc n = read_int (negsuc n)

  abbrev pub read_int_add : {a b : ℤ} → Reading int_ops xs a → Reading int_ops xs b → Reading int_ops xs (a +ℤ b)
  read_int_add r s = read_add r s

  abbrev pub read_int_sub : {a b : ℤ} → Reading int_ops xs a → Reading int_ops xs b → Reading int_ops xs (a -ℤ b)
  read_int_sub r s = read_sub r s

  abbrev pub read_int_mul : {a b : ℤ} → Reading int_ops xs a → Reading int_ops xs b → Reading int_ops xs (a *ℤ b)
  read_int_mul r s = read_mul r s

  abbrev pub read_int_neg : {a : ℤ} → Reading int_ops xs a → Reading int_ops xs (neg_ℤ a)
  read_int_neg r = read_neg r

-- what `search` reads whole numbers by: a difference before a sum, since it is one
pub ruleset reads_integers = (read_variable, here, there, read_pos, read_negsuc, read_int_sub, read_int_add, read_int_mul, read_int_neg)
