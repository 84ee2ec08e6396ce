use Rattle.std.proofs.Common.{◌≡◌, map, take}
use Rattle.std.specs.Prelude.{zip}
use Rattle.frame_lines.specs.Lines.{line_of}
use Rattle.frame_lines.proofs.lines.lines_of.Given as goal

abbrev pub invariant-loop-place : goal.invariant-loop-place
invariant-loop-place l = l.lines ≡ map (line_of l.points) (take l.place (zip l.edges l.letters))
