use Rattle.std.proofs.Common.{ap}
use Rattle.scaled_plane.specs.declared.drawing.Face.{Face}
use Rattle.crease_input.proofs.strips.square.Goals as goal

pub returns : goal.returns
returns c = λ i. record { corners = c.in_ok-corners.ensures i }
