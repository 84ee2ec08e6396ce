use Rattle.std.proofs.Common.{◌≡◌, take}
use Rattle.form_file.proofs.file.faces_by_images.Given as goal

abbrev pub invariant-loop-face : goal.invariant-loop-face
invariant-loop-face g l = l.by_images ≡ take l.face l.folded.corners
