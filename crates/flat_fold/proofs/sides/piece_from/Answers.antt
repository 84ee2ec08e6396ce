use Rattle.flat_fold.proofs.SideLaws.{piece-comes_back, piece-goes_on}
use Rattle.flat_fold.proofs.sides.piece_from.Goals as goal

pub returns-then-next-corners : goal.returns-then-next-corners
returns-then-next-corners c = piece-goes_on c.args.corners.now c.args.k 0 0 c.if-next-corners.true

pub returns-else-next-corners : goal.returns-else-next-corners
returns-else-next-corners c = piece-comes_back c.args.corners.now c.args.k 0 0 c.requires c.if-next-corners.false
