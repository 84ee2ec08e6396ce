use Rattle.std.proofs.Common.{◌∙◌, sym, ◌<◌, length, arith}
use Rattle.scaled_plane.specs.Drawn.{IsScaledPoint}
use Rattle.layers.specs.Sheets.{HasPiece}
use Rattle.half_planes.specs.Views.{face_at}
use Rattle.half_planes.proofs.Leaving.{all_at}
use Rattle.half_planes.proofs.SheetEdges.{first_face, first_corner, first_lies, piece_at, two_ends}
use Rattle.half_planes.proofs.sheet_edge.edge_ends.Goals as goal

pub corner_count-requires : goal.corner_count-requires
corner_count-requires g c =
    first_face g.S.Ring.Whole.numbers.ring (g.S.SheetView.sheet c.args.sheet.now) c.sides.ensures.folded c.sides.ensures.sided c.args.edge c.requires.within c.requires.uncut c.sides.result c.sides.ensures.sides

pub place_after-next-requires : goal.place_after-next-requires
place_after-next-requires g c =
    let within : c.sides.result.first.corner < length (face_at (g.S.SheetView.sheet c.args.sheet.now) c.sides.result.first.face).corners =
    first_corner g.S.Ring.Whole.numbers.ring (g.S.SheetView.sheet c.args.sheet.now) c.sides.ensures.folded c.sides.ensures.sided c.args.edge c.requires.within c.requires.uncut c.sides.result c.sides.ensures.sides in
    omega (arith, within, c.corner_count.ensures.count)

pub corner-requires-clause-place : goal.corner-requires-clause-place
corner-requires-clause-place g c =
    first_corner g.S.Ring.Whole.numbers.ring (g.S.SheetView.sheet c.args.sheet.now) c.sides.ensures.folded c.sides.ensures.sided c.args.edge c.requires.within c.requires.uncut c.sides.result c.sides.ensures.sides

pub returns-clause-lies : goal.returns-clause-lies
returns-clause-lies g c =
    let K = g.S.Ring.Whole.numbers.ring in
    let sheet = g.S.SheetView.sheet c.args.sheet.now in
    let first = c.sides.result.first in
    let there : first.face < length sheet.faces =
    first_face K sheet c.sides.ensures.folded c.sides.ensures.sided c.args.edge c.requires.within c.requires.uncut c.sides.result c.sides.ensures.sides in
    let piece : HasPiece K sheet first.face first.corner (record { from = c.corner.result; to = c.corner-2.result }) =
    piece_at K sheet first.face first.corner c.place_after-next.result c.corner.result c.corner-2.result there c.corner.ensures c.corner-2.ensures
    (λ e. c.place_after-next.ensures.last (e ∙ sym c.corner_count.ensures.count)) (λ h. c.place_after-next.ensures.other (omega (arith, h, c.corner_count.ensures.count))) in
    first_lies K sheet c.sides.ensures.folded c.sides.ensures.sided c.args.edge c.requires.within c.requires.uncut c.sides.result c.sides.ensures.sides
    (record { from = c.corner.result; to = c.corner-2.result }) piece

pub returns-clause-from_scaled : goal.returns-clause-from_scaled
returns-clause-from_scaled g c =
    all_at (λ p. IsScaledPoint g.S.Ring.Whole.numbers p) (face_at (g.S.SheetView.sheet c.args.sheet.now) c.sides.result.first.face).corners c.sides.result.first.corner c.corner.result
    c.corner_count.ensures.scaled c.corner.ensures

pub returns-clause-to_scaled : goal.returns-clause-to_scaled
returns-clause-to_scaled g c =
    all_at (λ p. IsScaledPoint g.S.Ring.Whole.numbers p) (face_at (g.S.SheetView.sheet c.args.sheet.now) c.sides.result.first.face).corners c.place_after-next.result c.corner-2.result
    c.corner_count.ensures.scaled c.corner-2.ensures

pub returns-clause-proper : goal.returns-clause-proper
returns-clause-proper g c =
    let K = g.S.Ring.Whole.numbers.ring in
    let sheet = g.S.SheetView.sheet c.args.sheet.now in
    let first = c.sides.result.first in
    let there : first.face < length sheet.faces =
    first_face K sheet c.sides.ensures.folded c.sides.ensures.sided c.args.edge c.requires.within c.requires.uncut c.sides.result c.sides.ensures.sides in
    two_ends K sheet c.sides.ensures.folded first.face first.corner (record { from = c.corner.result; to = c.corner-2.result })
    (piece_at K sheet first.face first.corner c.place_after-next.result c.corner.result c.corner-2.result there c.corner.ensures c.corner-2.ensures
    (λ e. c.place_after-next.ensures.last (e ∙ sym c.corner_count.ensures.count)) (λ h. c.place_after-next.ensures.other (omega (arith, h, c.corner_count.ensures.count))))
