use Rattle.half_planes.proofs.SheetEdges.{convex_at}
use Rattle.half_planes.proofs.sheet_face.SheetFace.new.Goals as goal

pub returns-clause-convex : goal.returns-clause-convex
returns-clause-convex g c =
    convex_at g.S.Ring.Whole.numbers.ring (g.S.SheetView.sheet c.args.sheet.now) c.face_count-count.ensures.folded c.args.place c.requires
