use Rattle.std.proofs.Common.{◌≡◌, take}
use Rattle.flat_fold.specs.Faces.{corners_at}
use Rattle.form_file.proofs.file.face_images.Given as goal

abbrev pub invariant-loop-corner : goal.invariant-loop-corner
invariant-loop-corner g l = l.corners ≡ take l.corner (corners_at l.folded.corners l.face)
