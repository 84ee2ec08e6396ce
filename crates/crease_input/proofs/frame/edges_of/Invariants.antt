use Rattle.std.proofs.Common.{◌≡◌, map, take}
use Rattle.std.specs.Prelude.{zip}
use Rattle.crease_input.specs.Frames.{edge_of}
use Rattle.crease_input.proofs.frame.edges_of.Given as goal

abbrev pub invariant-loop-place : goal.invariant-loop-place
invariant-loop-place l = l.edges ≡ map edge_of (take l.place (zip l.pairs l.letters))
