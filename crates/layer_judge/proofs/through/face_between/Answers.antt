use Rattle.std.proofs.Common.{arith}
use borrow.Author.Count.{below_more}
use Rattle.layer_judge.proofs.Below.{face_below}
use Rattle.layer_judge.proofs.through.face_between.Goals as goal

pub loop-face-preserved : goal.loop-face-preserved
loop-face-preserved g c = below_more _ _ c.loop-face.invariant (λ r. let a = c.enters_between.ensures.1 r in let b = c.if-enters_between.false in cc)

pub returns : goal.returns
returns g c k r = let below = face_below r.0.in_face in c.loop-face.invariant k (omega (arith, c.face_count-face-end.ensures.count)) r
