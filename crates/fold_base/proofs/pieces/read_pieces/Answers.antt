use Rattle.std.proofs.Common.{◌≤◌, length, take, arith, sym, ◌∙◌}
use Rattle.std.proofs.lemmas.List.{length-take, length-take-le}
use Rattle.std.proofs.lemmas.Result.{err_from_is_err_and}
use Rattle.fold_base.proofs.Moved.{gives_more}
use Rattle.fold_base.proofs.pieces.read_pieces.Goals as goal

pub returns-then-taken-count-clause-taken : goal.returns-then-taken-count-clause-taken
returns-then-taken-count-clause-taken g c =
    let before = c.loop-taken.invariant.taken in
    let piece = take c.in-Ok.taken c.take.new.room in
    let within : c.in-Ok.taken ≤ length c.take.new.room = c.in-Ok.ensures.within in
    let size = length-take-le c.in-Ok.taken c.take.new.room within in
    (before.0, piece, gives_more _ _ _ before.0 piece before.1 c.in-Ok.ensures.bytes, (omega (arith, before.2, c.loop-taken.invariant.small), omega (arith, size, before.2, c.take.auto.room, length-take c.min-want.result c.loop-taken.room)), λ _. (before.3, c.loop-taken.invariant.counted ∙ sym before.2))

-- the piece was taken, and not handed on
pub returns-in_err-take_piece-clause-taken : goal.returns-in_err-take_piece-clause-taken
returns-in_err-take_piece-clause-taken g c =
    let before = c.loop-taken.invariant.taken in
    let piece = take c.in-Ok.taken c.take.new.room in
    let within : c.in-Ok.taken ≤ length c.take.new.room = c.in-Ok.ensures.within in
    let size = length-take-le c.in-Ok.taken c.take.new.room within in
    let p = err_from_is_err_and c.from_residual.result c.from_residual.ensures.1 in
    rw (p.1, p.2) (before.0, piece, gives_more _ _ _ before.0 piece before.1 c.in-Ok.ensures.bytes, omega (arith, size, before.2), λ h. absurd h)
