use Rattle.fold_commands.proofs.Fileable.{fileable}
use Rattle.fold_commands.proofs.Repairing.{drawing_goes}
use Rattle.fold_commands.proofs.repair.drawing_of.Goals as goal

pub returns-in-Ok-clause-drawing : goal.returns-in-Ok-clause-drawing
returns-in-Ok-clause-drawing g c =
    drawing_goes g.N.Exact.ROOT g.N.Exact.parts g.N.Ring.Whole.numbers c.args.options.now c.args.ends.now c.faces_for-faces.result c.faces_for-faces.ensures _
    c.in-Ok.ensures.repaired c.in-Ok.ensures.regions

pub returns-in-Ok-clause-fileable : goal.returns-in-Ok-clause-fileable
returns-in-Ok-clause-fileable g c =
    fileable g.N.Exact.parts g.N.Ring.Whole.numbers c.args.options.now.flat c.args.ends.now _ _ c.in-Ok.ensures.repaired
    c.in-Ok.ensures.within
