use Prim.Native.Nat.{ℕ, zero, suc, ◌≤◌}
use Rattle.std.proofs.Common.{◌≡◌, refl, arith, inl, inr}
use Rattle.std.specs.Prelude.{◌⊎◌}
use Rattle.algebra.specs.NumberField.{IsRadicand}
use Rattle.exact_number.proofs.laws.root_laws.Goals as goal

-- 0 lies between no two neighbouring squares
one_to_three : (k : ℕ) → IsRadicand k → k ≤ 3 → (k ≡ 1) ⊎ ((k ≡ 2) ⊎ (k ≡ 3))
one_to_three k (inl e) h = inl e
one_to_three zero (inr n) h = absurd (omega arith)
one_to_three (suc zero) (inr n) h = inl refl
one_to_three (suc (suc zero)) (inr n) h = inr (inl refl)
one_to_three (suc (suc (suc zero))) (inr n) h = inr (inr refl)
one_to_three (suc (suc (suc (suc k)))) (inr n) h = absurd (omega arith)

pub returns-clause-numbers : goal.returns-clause-numbers
returns-clause-numbers g c = one_to_three g.N.Exact.ROOT g.met.N.Exact.radicand g.met.N.Exact.at_most_three

pub returns-clause-whole : goal.returns-clause-whole
returns-clause-whole g c = one_to_three g.W.Whole.ROOT g.met.W.Whole.radicand g.met.W.Whole.at_most_three
