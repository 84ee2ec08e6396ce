use Rattle.std.proofs.Common.{◌≡◌, ◌↔◌, IsTrue, sym}
use Rattle.half_planes.specs.Faces.{EntersFace}
use Rattle.half_planes.specs.Views.{face_at}
use Rattle.half_planes.proofs.SheetEdges.{enters}
use Rattle.half_planes.proofs.sheet_edge.edge_enters.Goals as goal

pub returns : goal.returns
returns g c =
    let K = g.S.Ring.Whole.numbers.ring in
    let sheet = g.S.SheetView.sheet c.args.sheet.now in
    let face : face_at (g.S.SheetView.sheet c.new.result.sheet.now) c.new.result.place ≡ face_at sheet c.args.face = cc in
    let found : IsTrue c.segment_enters_face.result ↔ EntersFace K c.edge_ends-from.result.0 c.edge_ends-from.result.1 (face_at sheet c.args.face) = rw (sym face) c.segment_enters_face.ensures in
    let same = enters K sheet c.args.edge c.args.face c.edge_ends-from.result.0 c.edge_ends-from.result.1 c.edge_ends-from.ensures.lies c.requires.face in
    (λ h. same.0 (found.0 h), λ e. found.1 (same.1 e))
