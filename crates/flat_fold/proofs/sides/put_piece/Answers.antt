use Rattle.std.proofs.Common.{refl}
use Rattle.flat_fold.proofs.SideLaws.{piece-put}
use Rattle.flat_fold.proofs.sides.put_piece.Goals as goal

pub returns : goal.returns
returns c =
    piece-put c.args.faces.now c.args.f c.args.k c.args.piece.0 c.args.piece.1 (record { face = c.args.f; corner = c.args.k }) c.args.pieces.now c.insert.new.self
    c.requires.before c.requires.begins refl refl c.in_ok-insert.ensures.updates
