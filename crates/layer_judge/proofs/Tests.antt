-- Tests that are turned round, or that tell something else than what they look at.
use Rattle.std.proofs.Common.{◌⊎◌, inl, inr, refl, IsTrue, Bool, true, false, not}
use Rattle.std.specs.Prelude.{◌↔◌}

pub not_test : (b : Bool) (P : Type 0) → IsTrue b ↔ P → IsTrue (not b) ↔ (¬ P)
not_test true P h = ((λ t p. cc), (λ n. absurd (n (h.0 refl))))
not_test false P h = ((λ t p. let a = h.1 p in cc), (λ n. refl))

-- what can be told is told by a test of what it can't but agree with
pub told : (r : Bool) (M A : Type 0) → IsTrue r ↔ M → ¬ (¬ (M ↔ A)) → A ⊎ ¬ A → IsTrue r ↔ A
told true M A same agree (inl a) = ((λ t. a), (λ b. refl))
told true M A same agree (inr n) = ((λ t. absurd (agree (λ e. n (e.0 (same.0 refl))))), (λ a. absurd (n a)))
told false M A same agree either = ((λ t. cc), (λ a. absurd (agree (λ e. let m = same.1 (e.1 a) in cc))))
