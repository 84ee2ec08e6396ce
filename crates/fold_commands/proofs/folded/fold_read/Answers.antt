use Rattle.std.specs.Option.{option_copied}
use Rattle.fold_commands.proofs.Ordered.{of_drawing}
use Rattle.fold_commands.proofs.folded.fold_read.Goals as goal

pub fold_drawing-requires-clause-orders : goal.fold_drawing-requires-clause-orders
fold_drawing-requires-clause-orders g c =
    of_drawing g.N.Exact.ROOT g.N.Exact.parts c.args.rule.now.row c.args.frame.now.entries c.in_ok-drawing.drawing (option_copied c.args.orders)
    c.in_ok-drawing.ensures.drawing c.requires.of_faces
