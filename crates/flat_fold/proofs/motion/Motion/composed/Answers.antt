use Rattle.std.proofs.Common.{◌≡◌, refl, Bool, true, false, not, if◌then◌else◌}
use Rattle.flat_fold.specs.Operations.{composing}
use Rattle.flat_fold.proofs.Chains.{ends, came_to, first_overflows, rest_overflows, refused, comes_to, to_value, from_value}
use mathlib.Core.Bool.{beq}
use Rattle.flat_fold.specs.Computed.{exact}
use Rattle.flat_fold.proofs.OperationLaws.{placing-value, composing-value}
use Rattle.flat_fold.proofs.motion.Motion.composed.Goals as goal

turns : (t u : Bool) → not (beq t u) ≡ (if t then not u else u)
turns false false = refl
turns false true = refl
turns true false = refl
turns true true = refl

pub returns-in_err-way : goal.returns-in_err-way
unfolding composing
returns-in_err-way g c =
    comes_to _ (composing (exact g.N.Exact.numbers) c.args.self c.args.inner) (composing-value (exact g.N.Exact.numbers) c.args.self c.args.inner)
    (refused c.from_residual.result _ c.from_residual.ensures.0 (first_overflows _ _ c.in_err-way.ensures))

pub returns-in_err-at : goal.returns-in_err-at
unfolding composing
returns-in_err-at g c =
    comes_to _ (composing (exact g.N.Exact.numbers) c.args.self c.args.inner) (composing-value (exact g.N.Exact.numbers) c.args.self c.args.inner)
    (refused c.from_residual-in_err-at.result _ c.from_residual-in_err-at.ensures.0 (rest_overflows _ _ c.in_ok-way.ensures (first_overflows _ _ c.in_err-at.ensures)))

pub returns : goal.returns
unfolding composing
returns g c =
    to_value (composing (exact g.N.Exact.numbers) c.args.self c.args.inner) (composing-value (exact g.N.Exact.numbers) c.args.self c.args.inner)
    (came_to _ _ c.in_ok-way.ensures
    (came_to _ _ (from_value _ (placing-value (exact g.N.Exact.numbers) c.args.self _) c.in_ok-at.ensures)
    (ends (λ i. record { c = c.in_ok-way.way.x; s = c.in_ok-way.way.y; p = c.in_ok-at.at.x; r = c.in_ok-at.at.y; turned = turns c.args.self.turned c.args.inner.turned i }))))
