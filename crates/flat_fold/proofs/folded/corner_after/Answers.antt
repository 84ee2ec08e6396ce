use Rattle.std.proofs.Common.{◌≡◌, ◌∙◌, ap, sym, subst, ℕ, suc, ◌<◌, ◌≤◌, ◌+◌, length, arith, add-one}
use Rattle.std.specs.Prelude.{slice_index_or}
use Rattle.flat_fold.proofs.EdgeLaws.{corner-next}
use Rattle.flat_fold.proofs.folded.corner_after.Goals as goal

pub returns-then-next-corners-clause-next : goal.returns-then-next-corners-clause-next
returns-then-next-corners-clause-next c u v e =
    let after = corner-next c.args.corners.now c.args.corner u v e in
    let less : suc c.args.corner < length c.args.corners.now = omega arith in
    ap (λ (k : ℕ). slice_index_or c.args.corners.now k 0) (add-one c.args.corner) ∙ after.0 less

pub returns-else-next-corners-clause-next : goal.returns-else-next-corners-clause-next
returns-else-next-corners-clause-next c u v e =
    let after = corner-next c.args.corners.now c.args.corner u v e in
    let last : suc c.args.corner ≡ length c.args.corners.now = (let inside : c.args.corner < length c.args.corners.now = c.requires.corner in omega arith) in
    after.1 last
