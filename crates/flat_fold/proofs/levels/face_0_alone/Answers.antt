use Rattle.std.proofs.Common.{◌≡◌, ◌∙◌, ap, sym, subst, ℕ, List, [], ◌∷◌, ◌++◌, ◌<◌, ◌≤◌, ◌+◌, Some, Option, arith, rules}
use Rattle.flat_fold.specs.declared.motion.Motion.{Motion}
use Rattle.flat_fold.specs.declared.levels.Reached.{Reached}
use Rattle.flat_fold.specs.Rounds.{IsStart}
use Rattle.flat_fold.proofs.RoundLaws.{pushed_none, started}
use Rattle.flat_fold.proofs.levels.face_0_alone.Goals as goal

pub returns-in_err-push : goal.returns-in_err-push
returns-in_err-push g c = search rules

pub returns-in_err-push-2 : goal.returns-in_err-push-2
returns-in_err-push-2 g c = search rules

pub loop-init : goal.loop-init
loop-init g c =
    let F = g.N.Exact.numbers.field in
    let first : Motion g.row.N.Denot → Option (Reached g.row.N.Denot) = λ m. Some (record { level = 0; map = Some m }) in
    started F c.push.new.self.items
    (c.in_ok-push.ensures.items ∙ ap (λ (xs : List (Option (Reached g.row.N.Denot))). xs ++ first c.identity.result ∷ []) c.new-reached.ensures.items
    ∙ ap (λ (m : Motion g.row.N.Denot). first m ∷ []) c.identity.ensures)

pub loop-preserved : goal.loop-preserved
loop-preserved g c =
    let F = g.N.Exact.numbers.field in
    subst (IsStart F (c.loop.counter + 1)) (sym c.in_ok-push-2.ensures.items) (pushed_none F c.loop.counter c.loop.reached.items c.loop.invariant)

pub returns : goal.returns
returns g c =
    let positive : 0 < c.args.count = c.requires in
    let most : 1 ≤ c.args.count → c.loop.counter ≤ c.args.count = c.loop.auto.counter-end in
    let least : c.args.count ≤ c.loop.counter = c.loop-test.false in
    let same : c.loop.counter ≡ c.args.count = omega (arith, most, least, positive) in
    subst (λ (n : ℕ). IsStart g.N.Exact.numbers.field n c.loop.reached.items) same c.loop.invariant
