use Rattle.crease_input.proofs.StripFiles.{fileable_strip}
use Rattle.crease_input.proofs.strips.make_strips.Goals as goal

pub drawing_file-requires : goal.drawing_file-requires
drawing_file-requires c =
    rw (c.in_ok-coords_of_strip.ensures, c.in_ok-edges_of_strip.ensures, c.in_ok-faces.ensures, c.in_ok-orders.ensures)
    (fileable_strip c.args.n c.requires.some c.requires.few)
