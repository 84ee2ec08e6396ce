use Rattle.std.proofs.Common.{rules, ◌≡◌, ◌≤◌, length, sym, arith}
use Rattle.std.specs.Option.{option_copied}
use Rattle.std.proofs.lemmas.Result.{err_from_is_err_and}
use Rattle.crease_input.specs.Frames.{vertices_in}
use Rattle.crease_input.proofs.Frames.{place_vertex, vertices_count, vertices_more, vertices_all, vertices_refused}
use Rattle.crease_input.proofs.vertices.read_vertices.Goals as goal

pub returns-in_err-number : goal.returns-in_err-number
returns-in_err-number g c =
    let p = err_from_is_err_and c.from_residual-in_err-number.result c.from_residual-in_err-number.ensures.1 in
    let points = c.args.points.now in
    let exact = option_copied c.args.exact in
    let count = vertices_count points exact c.requires.even in
    rw (p.1, p.2)
    (vertices_refused g.N.Exact.ROOT g.N.Exact.parts _ (vertices_in points exact) c.loop-vertex.vertex
    (record { point = c.index-points-vertex.result; exact = option_copied c.texts_at.result }) _ _ c.loop-vertex.coords
    (omega (arith, count, c.loop-vertex-test.true))
    (place_vertex points exact c.loop-vertex.vertex c.index-points-vertex.result (option_copied c.texts_at.result) _
    c.loop-vertex-test.true c.requires.even c.index-points-vertex.is c.texts_at.ensures)
    c.in_err-number.ensures c.loop-vertex.invariant)

pub loop-vertex-preserved : goal.loop-vertex-preserved
loop-vertex-preserved g c =
    let points = c.args.points.now in
    let exact = option_copied c.args.exact in
    let count = vertices_count points exact c.requires.even in
    vertices_more g.N.Exact.ROOT g.N.Exact.parts _ (vertices_in points exact) c.loop-vertex.vertex
    (record { point = c.index-points-vertex.result; exact = option_copied c.texts_at.result }) _ c.in_ok-number.number
    c.loop-vertex.coords c.push.new.self
    (omega (arith, count, c.loop-vertex-test.true))
    (place_vertex points exact c.loop-vertex.vertex c.index-points-vertex.result (option_copied c.texts_at.result) _
    c.loop-vertex-test.true c.requires.even c.index-points-vertex.is c.texts_at.ensures)
    c.in_ok-number.ensures (search rules) c.loop-vertex.invariant

pub returns : goal.returns
returns g c =
    let points = c.args.points.now in
    let exact = option_copied c.args.exact in
    let count = vertices_count points exact c.requires.even in
    vertices_all g.N.Exact.ROOT g.N.Exact.parts _ (vertices_in points exact) c.loop-vertex.vertex c.loop-vertex.coords
    (omega (arith, count, c.loop-vertex-test.false)) c.loop-vertex.invariant
