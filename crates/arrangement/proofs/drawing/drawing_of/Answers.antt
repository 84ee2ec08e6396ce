use Rattle.std.proofs.Common.{◌≤◌, arith, length, map, subst, sym}
use Rattle.std.proofs.lemmas.List.{length-map}
use Rattle.scaled_plane.specs.Pieces.{AreLines, ArePieces}
use Rattle.scaled_plane.specs.WellSet.{IsWellSet}
use Rattle.arrangement.proofs.AllDrawn.{drawn_lines, drawn_pieces, drawn_well, has_ends}
use Rattle.arrangement.proofs.drawing.drawing_of.Goals as goal

pub cut_all-requires-clause-has : goal.cut_all-requires-clause-has
cut_all-requires-clause-has g c =
    let N = g.W.Whole.numbers in
    let P = map (λ v. v.point) c.args.vertices.now in
    has_ends N c.args.segments.now P c.requires.scaled c.requires.vertices c.requires.drawn c.requires.scaled_ends

pub returns-clause-pieces : goal.returns-clause-pieces
returns-clause-pieces g c =
    let N = g.W.Whole.numbers in
    let P = map (λ v. v.point) c.args.vertices.now in
    let short : length P ≤ 16384 = (let few = c.requires.few in let same = length-map c.args.vertices.now (λ v. v.point) in omega (arith, few, same)) in
    subst (λ ps. ArePieces N.ring c.args.segments.now ps c.in_ok-edges.edges) (sym c.in_ok-points.ensures) (drawn_pieces N c.args.segments.now P c.requires.scaled c.requires.vertices c.requires.drawn c.requires.scaled_ends c.in_ok-edges.edges c.in_ok-edges.lines c.in_ok-covers.covers c.in_ok-covers.ensures c.in_ok-edges.ensures.ordered c.in_ok-edges.ensures.edges c.in_ok-edges.ensures.lines short)

pub returns-clause-lines : goal.returns-clause-lines
returns-clause-lines g c =
    let N = g.W.Whole.numbers in
    let P = map (λ v. v.point) c.args.vertices.now in
    let short : length P ≤ 16384 = (let few = c.requires.few in let same = length-map c.args.vertices.now (λ v. v.point) in omega (arith, few, same)) in
    subst (λ ps. AreLines N.ring c.args.segments.now ps c.in_ok-edges.edges c.in_ok-edges.lines) (sym c.in_ok-points.ensures) (drawn_lines N c.args.segments.now P c.requires.scaled c.requires.vertices c.requires.drawn c.requires.scaled_ends c.in_ok-edges.edges c.in_ok-edges.lines c.in_ok-covers.covers c.in_ok-covers.ensures c.in_ok-edges.ensures.ordered c.in_ok-edges.ensures.edges c.in_ok-edges.ensures.lines short)

pub returns-clause-well_set : goal.returns-clause-well_set
returns-clause-well_set g c =
    let N = g.W.Whole.numbers in
    let P = map (λ v. v.point) c.args.vertices.now in
    let short : length P ≤ 16384 = (let few = c.requires.few in let same = length-map c.args.vertices.now (λ v. v.point) in omega (arith, few, same)) in
    subst (λ ps. IsWellSet N (record { vertices = ps; edges = c.in_ok-edges.edges; lines = c.in_ok-edges.lines })) (sym c.in_ok-points.ensures) (drawn_well N c.args.segments.now P c.requires.scaled c.requires.vertices c.requires.drawn c.requires.scaled_ends c.in_ok-edges.edges c.in_ok-edges.lines c.in_ok-covers.covers c.in_ok-covers.ensures c.in_ok-edges.ensures.ordered c.in_ok-edges.ensures.edges c.in_ok-edges.ensures.lines short)
