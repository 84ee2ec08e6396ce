use Rattle.std.proofs.Common.{◌≡◌, ◌↔◌, IsTrue, sym}
use Rattle.half_planes.specs.Faces.{InsidesMeet, ThreeInsidesMeet}
use Rattle.half_planes.specs.Views.{face_at}
use Rattle.half_planes.proofs.SheetFaces.{all_overlap}
use Rattle.half_planes.proofs.sheet_face.three_overlap.Goals as goal

pub lie_apart-requires-clause-first : goal.lie_apart-requires-clause-first
lie_apart-requires-clause-first g c =
    let face : face_at (g.S.SheetView.sheet c.new-first.result.sheet.now) c.new-first.result.place ≡ face_at (g.S.SheetView.sheet c.args.sheet.now) c.args.first = cc in
    rw face c.new-first.ensures.convex

pub lie_apart-requires-clause-second : goal.lie_apart-requires-clause-second
lie_apart-requires-clause-second g c =
    let face : face_at (g.S.SheetView.sheet c.new-second.result.sheet.now) c.new-second.result.place ≡ face_at (g.S.SheetView.sheet c.args.sheet.now) c.args.second = cc in
    rw face c.new-second.ensures.convex

pub lie_apart-requires-2-clause-first : goal.lie_apart-requires-2-clause-first
lie_apart-requires-2-clause-first g c =
    let face : face_at (g.S.SheetView.sheet c.new-second.result.sheet.now) c.new-second.result.place ≡ face_at (g.S.SheetView.sheet c.args.sheet.now) c.args.second = cc in
    rw face c.new-second.ensures.convex

pub lie_apart-requires-2-clause-second : goal.lie_apart-requires-2-clause-second
lie_apart-requires-2-clause-second g c =
    let face : face_at (g.S.SheetView.sheet c.new-third.result.sheet.now) c.new-third.result.place ≡ face_at (g.S.SheetView.sheet c.args.sheet.now) c.args.third = cc in
    rw face c.new-third.ensures.convex

pub lie_apart-requires-3-clause-first : goal.lie_apart-requires-3-clause-first
lie_apart-requires-3-clause-first g c =
    let face : face_at (g.S.SheetView.sheet c.new-third.result.sheet.now) c.new-third.result.place ≡ face_at (g.S.SheetView.sheet c.args.sheet.now) c.args.third = cc in
    rw face c.new-third.ensures.convex

pub lie_apart-requires-3-clause-second : goal.lie_apart-requires-3-clause-second
lie_apart-requires-3-clause-second g c =
    let face : face_at (g.S.SheetView.sheet c.new-first.result.sheet.now) c.new-first.result.place ≡ face_at (g.S.SheetView.sheet c.args.sheet.now) c.args.first = cc in
    rw face c.new-first.ensures.convex

pub returns-then-lie_apart : goal.returns-then-lie_apart
returns-then-lie_apart g c =
    let K = g.S.Ring.Whole.numbers.ring in
    let sheet = g.S.SheetView.sheet c.args.sheet.now in
    let first : face_at (g.S.SheetView.sheet c.new-first.result.sheet.now) c.new-first.result.place ≡ face_at sheet c.args.first = cc in
    let second : face_at (g.S.SheetView.sheet c.new-second.result.sheet.now) c.new-second.result.place ≡ face_at sheet c.args.second = cc in
    let third : face_at (g.S.SheetView.sheet c.new-third.result.sheet.now) c.new-third.result.place ≡ face_at sheet c.args.third = cc in
    let apart : ¬ InsidesMeet K (face_at sheet c.args.first) (face_at sheet c.args.second) = rw (sym first) (rw (sym second) (c.lie_apart.ensures c.if-lie_apart.true)) in
    let same = all_overlap K sheet c.args.first c.args.second c.args.third c.requires.first c.requires.second c.requires.third in
    ((λ t. absurd (cc)), (λ o. let m = same.1 o in absurd (apart (m.0, m.1, m.2, m.3))))

pub returns-then-lie_apart-2 : goal.returns-then-lie_apart-2
returns-then-lie_apart-2 g c =
    let K = g.S.Ring.Whole.numbers.ring in
    let sheet = g.S.SheetView.sheet c.args.sheet.now in
    let first : face_at (g.S.SheetView.sheet c.new-first.result.sheet.now) c.new-first.result.place ≡ face_at sheet c.args.first = cc in
    let second : face_at (g.S.SheetView.sheet c.new-second.result.sheet.now) c.new-second.result.place ≡ face_at sheet c.args.second = cc in
    let third : face_at (g.S.SheetView.sheet c.new-third.result.sheet.now) c.new-third.result.place ≡ face_at sheet c.args.third = cc in
    let apart : ¬ InsidesMeet K (face_at sheet c.args.second) (face_at sheet c.args.third) = rw (sym second) (rw (sym third) (c.lie_apart-2.ensures c.if-lie_apart-2.true)) in
    let same = all_overlap K sheet c.args.first c.args.second c.args.third c.requires.first c.requires.second c.requires.third in
    ((λ t. absurd (cc)), (λ o. let m = same.1 o in absurd (apart (m.0, m.1, m.3, m.4))))

pub returns-then-lie_apart-3 : goal.returns-then-lie_apart-3
returns-then-lie_apart-3 g c =
    let K = g.S.Ring.Whole.numbers.ring in
    let sheet = g.S.SheetView.sheet c.args.sheet.now in
    let first : face_at (g.S.SheetView.sheet c.new-first.result.sheet.now) c.new-first.result.place ≡ face_at sheet c.args.first = cc in
    let second : face_at (g.S.SheetView.sheet c.new-second.result.sheet.now) c.new-second.result.place ≡ face_at sheet c.args.second = cc in
    let third : face_at (g.S.SheetView.sheet c.new-third.result.sheet.now) c.new-third.result.place ≡ face_at sheet c.args.third = cc in
    let apart : ¬ InsidesMeet K (face_at sheet c.args.third) (face_at sheet c.args.first) = rw (sym third) (rw (sym first) (c.lie_apart-3.ensures c.if-lie_apart-3.true)) in
    let same = all_overlap K sheet c.args.first c.args.second c.args.third c.requires.first c.requires.second c.requires.third in
    ((λ t. absurd (cc)), (λ o. let m = same.1 o in absurd (apart (m.0, m.1, m.4, m.2))))

pub returns : goal.returns
returns g c =
    let K = g.S.Ring.Whole.numbers.ring in
    let sheet = g.S.SheetView.sheet c.args.sheet.now in
    let first : face_at (g.S.SheetView.sheet c.new-first.result.sheet.now) c.new-first.result.place ≡ face_at sheet c.args.first = cc in
    let second : face_at (g.S.SheetView.sheet c.new-second.result.sheet.now) c.new-second.result.place ≡ face_at sheet c.args.second = cc in
    let third : face_at (g.S.SheetView.sheet c.new-third.result.sheet.now) c.new-third.result.place ≡ face_at sheet c.args.third = cc in
    let meets : IsTrue c.three_insides_meet.result ↔ ThreeInsidesMeet K (face_at sheet c.args.first) (face_at sheet c.args.second) (face_at sheet c.args.third) = rw (sym first) (rw (sym second) (rw (sym third) c.three_insides_meet.ensures)) in
    let same = all_overlap K sheet c.args.first c.args.second c.args.third c.requires.first c.requires.second c.requires.third in
    (λ h. same.0 (meets.0 h), λ o. meets.1 (same.1 o))
