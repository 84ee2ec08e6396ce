use Rattle.std.proofs.Common.{◌-◌, length}
use Rattle.half_edges.specs.Halves.{IsArena, count, next_of}
use Rattle.half_edges.specs.Cycles.{ids}
use Rattle.half_edges.proofs.Paths.{Path}
use Rattle.half_edges.proofs.arena.Arena.walk.Given as goal

abbrev pub invariant-loop-at : goal.invariant-loop-at
invariant-loop-at g l = IsArena l.self × Path (next_of l.self) (count l.self) l.h.0 (ids l.cycle) l.at.0

abbrev pub decreases-loop-at : goal.decreases-loop-at
decreases-loop-at g l = count l.self - length l.cycle
