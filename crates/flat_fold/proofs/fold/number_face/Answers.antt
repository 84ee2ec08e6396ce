use Rattle.std.proofs.Common.{◌≡◌, ◌∙◌, ap, sym, subst, ℕ, List, [], ◌∷◌, ◌++◌, ◌<◌, ◌≤◌, ◌+◌, length, arith}
use Rattle.std.specs.BTreeMap.{get}
use Rattle.flat_fold.specs.Making.{AreNumbersBy}
use Rattle.flat_fold.specs.Places.{laid_order}
use Rattle.flat_fold.proofs.FoldLaws.{more_numbers}
use Rattle.flat_fold.proofs.fold.number_face.Goals as goal

pub loop-corner-init : goal.loop-corner-init
loop-corner-init c = record { long = ap (λ (s : List ℕ). length s) c.new-by_numbers.ensures; each = λ k less. absurd (omega (arith, less)) }

pub loop-corner-preserved : goal.loop-corner-preserved
loop-corner-preserved c =
    subst (λ (s : List ℕ). AreNumbersBy (get laid_order c.args.numbers.now) c.args.face c.args.corners.now (c.loop-corner.corner-index + 1) s) (sym c.in_ok-push.ensures.ok)
    (more_numbers (get laid_order c.args.numbers.now) c.args.face c.args.corners.now c.loop-corner.corner-index c.loop-corner.by_numbers c.number_at.result c.number_at.ensures c.loop-corner.invariant)

pub returns : goal.returns
returns c =
    let most : c.loop-corner.corner-index ≤ length c.args.corners.now = c.loop-corner.auto.corner-index-end in
    let least : length c.args.corners.now ≤ c.loop-corner.corner-index = c.loop-corner-test.false in
    let same : c.loop-corner.corner-index ≡ length c.args.corners.now = omega (arith, most, least) in
    subst (λ (n : ℕ). AreNumbersBy (get laid_order c.args.numbers.now) c.args.face c.args.corners.now n c.loop-corner.by_numbers) same c.loop-corner.invariant
