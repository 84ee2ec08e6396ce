use Rattle.std.proofs.Common.{◌≡◌, map, take, Some}
use Rattle.crease_input.proofs.file.corner_lists.Given as goal

abbrev pub invariant-loop-face : goal.invariant-loop-face
invariant-loop-face l = l.lists ≡ map (λ face. map Some face.corners) (take l.face-index l.faces)
