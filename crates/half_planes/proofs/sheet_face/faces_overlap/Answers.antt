use Rattle.std.proofs.Common.{◌≡◌, ◌↔◌, IsTrue, sym}
use Rattle.half_planes.specs.Faces.{InsidesMeet}
use Rattle.half_planes.specs.Views.{face_at}
use Rattle.half_planes.proofs.SheetFaces.{two_overlap}
use Rattle.half_planes.proofs.sheet_face.faces_overlap.Goals as goal

pub lie_apart-requires-clause-first : goal.lie_apart-requires-clause-first
lie_apart-requires-clause-first g c =
    let face : face_at (g.S.SheetView.sheet c.new-first.result.sheet.now) c.new-first.result.place ≡ face_at (g.S.SheetView.sheet c.args.sheet.now) c.args.first = cc in
    rw face c.new-first.ensures.convex

pub lie_apart-requires-clause-second : goal.lie_apart-requires-clause-second
lie_apart-requires-clause-second g c =
    let face : face_at (g.S.SheetView.sheet c.new-second.result.sheet.now) c.new-second.result.place ≡ face_at (g.S.SheetView.sheet c.args.sheet.now) c.args.second = cc in
    rw face c.new-second.ensures.convex

pub returns-then-lie_apart : goal.returns-then-lie_apart
returns-then-lie_apart g c =
    let K = g.S.Ring.Whole.numbers.ring in
    let sheet = g.S.SheetView.sheet c.args.sheet.now in
    let first : face_at (g.S.SheetView.sheet c.new-first.result.sheet.now) c.new-first.result.place ≡ face_at sheet c.args.first = cc in
    let second : face_at (g.S.SheetView.sheet c.new-second.result.sheet.now) c.new-second.result.place ≡ face_at sheet c.args.second = cc in
    let apart : ¬ InsidesMeet K (face_at sheet c.args.first) (face_at sheet c.args.second) = rw (sym first) (rw (sym second) (c.lie_apart.ensures c.if-lie_apart.true)) in
    ((λ t. absurd (cc)), (λ o. absurd (apart ((two_overlap K sheet c.args.first c.args.second c.requires.first c.requires.second).1 o))))

pub returns : goal.returns
returns g c =
    let K = g.S.Ring.Whole.numbers.ring in
    let sheet = g.S.SheetView.sheet c.args.sheet.now in
    let first : face_at (g.S.SheetView.sheet c.new-first.result.sheet.now) c.new-first.result.place ≡ face_at sheet c.args.first = cc in
    let second : face_at (g.S.SheetView.sheet c.new-second.result.sheet.now) c.new-second.result.place ≡ face_at sheet c.args.second = cc in
    let meets : IsTrue c.insides_meet.result ↔ InsidesMeet K (face_at sheet c.args.first) (face_at sheet c.args.second) = rw (sym first) (rw (sym second) c.insides_meet.ensures) in
    let same = two_overlap K sheet c.args.first c.args.second c.requires.first c.requires.second in
    (λ h. same.0 (meets.0 h), λ o. meets.1 (same.1 o))
