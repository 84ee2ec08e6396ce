-- what is open, after one more and one fewer
use Rattle.std.proofs.Common.{◌≡◌, List, [], ◌∷◌, ◌++◌, length, ap, ◌∙◌}
use Rattle.std.specs.Prelude.{map, reverse}
use Rattle.std.proofs.lemmas.List.{reverse-append, length-reverse, length-map}
use Rattle.json_read.specs.Frames.{frame_of}
use Rattle.json_read.specs.declared.frame.Frame.{Frame}

pub around_more : (outer : List Frame) (frame : Frame) → map frame_of (reverse (outer ++ frame ∷ [])) ≡ frame_of frame ∷ map frame_of (reverse outer)
around_more outer frame = ap (map frame_of) (reverse-append outer (frame ∷ []))

pub length_around : (outer : List Frame) → length (map frame_of (reverse outer)) ≡ length outer
length_around outer = length-map (reverse outer) frame_of ∙ length-reverse outer
