use Rattle.std.proofs.Common.{rules}
use Rattle.face_walks.proofs.CycleLists.{id_in}
use Rattle.face_walks.proofs.cycles.face_of.Goals as goal

pub piece-from-requires : goal.piece-from-requires
piece-from-requires c = c.requires _ (id_in c.args.cycle.now c.loop-half.half-index (record { 0 = 0 }) (search rules))
