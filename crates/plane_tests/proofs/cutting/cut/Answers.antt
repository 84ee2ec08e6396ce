use Rattle.std.proofs.lemmas.List.Elements.{All-contains}
use Rattle.scaled_plane.specs.Drawn.{IsScaledSegment}
use Rattle.plane_tests.proofs.cutting.cut.Goals as goal

pub pieces-requires : goal.pieces-requires
pieces-requires g c = λ s there. All-contains (IsScaledSegment g.W.Whole.numbers) c.args.segments.now s c.requires.scaled there
