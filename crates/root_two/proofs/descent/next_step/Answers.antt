use Rattle.std.proofs.Common.{◌≡◌, ◌⊎◌, ℕ, sym, ◌∙◌, subst, inl, inr}
use Rattle.root_two.specs.Descent.{Tells}
use Rattle.root_two.proofs.descent.next_step.Goals as goal

other : {k : ℕ} → (k ≡ 2) ⊎ (k ≡ 3) → ¬ (k ≡ 2) → k ≡ 3
other (inl e) h = absurd (h e)
other (inr e) h = e

pub returns-else-K-eq2 : goal.returns-else-K-eq2
returns-else-K-eq2 g c =
    let is_three : g.R.Radicand.K ≡ 3 = other g.R.Radicand.two_or_three (λ e. c.if-K-eq2.false (c.K.ensures ∙ e)) in
    subst (λ k. Tells k c.args.x c.args.y c.step_of_three.result) (sym is_three) c.step_of_three.ensures
