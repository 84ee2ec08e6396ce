use Rattle.std.proofs.Common.{◌≡◌, ◌-◌, ◌*◌, arith, subst, ℕ}
use Rattle.root_two.specs.Descent.{IsTurned}
use Rattle.root_two.proofs.Descents.{settles_greater, settles_less, turns}
use Rattle.root_two.proofs.descent.step_of_two.Goals as goal

pub returns-then-rest-y : goal.returns-then-rest-y
returns-then-rest-y c = settles_greater c.args.x c.args.y (omega arith)

pub returns-then-rest-y-2 : goal.returns-then-rest-y-2
returns-then-rest-y-2 c = settles_less c.args.x c.args.y (omega arith) (omega arith)

pub returns : goal.returns
returns c =
    let rest = c.saturating_sub-rest.result in
    let smaller : 2 * c.args.y - c.args.x ≡ c.args.y - rest = omega arith in
    let same : c.args.x - c.args.y ≡ rest = omega arith in
    subst (λ (t : ℕ). IsTurned 2 c.args.x c.args.y (c.args.y - rest) t) same
    (subst (λ (s : ℕ). IsTurned 2 c.args.x c.args.y s (c.args.x - c.args.y)) smaller (turns c.args.x c.args.y c.requires (omega arith) (omega arith)))
