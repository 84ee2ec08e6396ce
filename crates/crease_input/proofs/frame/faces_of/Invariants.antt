use Rattle.std.proofs.Common.{◌≡◌, map, take}
use Rattle.crease_input.specs.Frames.{face_of}
use Rattle.crease_input.proofs.frame.faces_of.Given as goal

abbrev pub invariant-loop-ids : goal.invariant-loop-ids
invariant-loop-ids l = l.faces ≡ map face_of (take l.ids-index l.lists)
