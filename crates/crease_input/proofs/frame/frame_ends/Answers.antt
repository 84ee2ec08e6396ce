use Rattle.std.proofs.Common.{rules, ◌≡◌, None, Ok, Err, Bool, List, ℕ, Result, sym, ◌∙◌, ap, subst, length}
use Rattle.std.specs.Option.{option_copied}
use Rattle.std.proofs.lemmas.Result.{err_from_is_err_and}
use Rattle.frame_lines.proofs.Agree.{axes_of, each_within, lettered}
use Rattle.crease_input.specs.Frames.{exact_of, vertices_in}
use Rattle.crease_input.proofs.FrameAnswers.{coords_short, frame_by_row}
use Rattle.crease_input.proofs.Frames.{AreEven}
use Rattle.crease_input.proofs.Framed.{drawn, drawn_within, even, excess_is, faces_are_within, undrawn, whole}
use Rattle.crease_input.proofs.frame.frame_ends.Goals as goal

pub returns-in-Some-clause-answer : goal.returns-in-Some-clause-answer
returns-in-Some-clause-answer g c =
    let entries = c.args.frame.now.entries in
    let points = c.in_ok-points.points.now in
    let pairs = c.in_ok-pairs.pairs.now in
    let corners = c.in_ok-corners.corners.now in (
      whole entries points pairs corners c.in_ok-points.ensures.0 c.in_ok-pairs.ensures c.args.faces c.in_ok-corners.ensures,
      excess_is entries points pairs corners c.in_ok-points.ensures.0 c.in_ok-pairs.ensures c.args.faces c.in_ok-corners.ensures
          ∙ search rules,
    )

pub returns-in-Some-clause-row : goal.returns-in-Some-clause-row
returns-in-Some-clause-row g c = returns-in-Some-clause-answer g c

pub read_vertices-requires-clause-axes : goal.read_vertices-requires-clause-axes
read_vertices-requires-clause-axes g c = axes_of c.in_ok-points.points.now c.in_ok-points.ensures.1

pub returns-in_err-coords-clause-answer : goal.returns-in_err-coords-clause-answer
returns-in_err-coords-clause-answer g c =
    let p = err_from_is_err_and c.from_residual-in_err-coords.result c.from_residual-in_err-coords.ensures.1 in
    rw (p.1, p.2)
    (undrawn c.args.frame.now.entries c.in_ok-points.points.now c.in_ok-pairs.pairs.now c.in_ok-corners.corners.now
    c.in_ok-points.ensures.0 c.in_ok-pairs.ensures g.N.Exact.ROOT g.N.Exact.parts _ c.args.faces c.in_ok-corners.ensures
    (search rules) (option_copied c.exact_of.result) c.exact_of.ensures _ c.in_err-coords.ensures)

pub returns-in_err-coords-clause-row : goal.returns-in_err-coords-clause-row
returns-in_err-coords-clause-row g c =
    frame_by_row g.N.Exact.ROOT g.N.Exact.parts c.args.rule.now.row _ c.args.faces c.args.frame.now.entries _
    (returns-in_err-coords-clause-answer g c)

pub edges_of-requires : goal.edges_of-requires
edges_of-requires g c =
    ap length (c.as_slice.ensures ∙ c.in_ok-letters.ensures)
    ∙ lettered c.args.frame.now c.in_ok-points.points.now c.in_ok-pairs.pairs.now c.requires.agree c.in_ok-points.ensures.0
    c.in_ok-pairs.ensures

pub returns-clause-answer : goal.returns-clause-answer
returns-clause-answer g c =
    drawn c.args.frame.now.entries c.in_ok-points.points.now c.in_ok-pairs.pairs.now c.in_ok-corners.corners.now
    c.in_ok-points.ensures.0 c.in_ok-pairs.ensures g.N.Exact.ROOT g.N.Exact.parts _ c.args.faces c.in_ok-corners.ensures
    (search rules) (option_copied c.exact_of.result) c.exact_of.ensures c.in_ok-coords.coords c.as_slice.result.now
    c.in_ok-edges.edges c.in_ok-faces.faces c.in_ok-coords.ensures (c.as_slice.ensures ∙ c.in_ok-letters.ensures)
    c.in_ok-edges.ensures c.in_ok-faces.ensures

pub returns-clause-row : goal.returns-clause-row
returns-clause-row g c =
    frame_by_row g.N.Exact.ROOT g.N.Exact.parts c.args.rule.now.row _ c.args.faces c.args.frame.now.entries
    (Ok (record { coords = c.in_ok-coords.coords; edges = c.in_ok-edges.edges }, c.in_ok-faces.faces)) (returns-clause-answer g c)

pub returns-clause-within : goal.returns-clause-within
returns-clause-within g c =
    let points = c.in_ok-points.points.now in
    let pairs = c.in_ok-pairs.pairs.now in
    let corners = c.in_ok-corners.corners.now in
    drawn_within c.args.frame.now.entries points pairs corners
    c.in_ok-points.ensures.0 c.in_ok-pairs.ensures g.N.Exact.ROOT g.N.Exact.parts _ c.args.faces c.in_ok-corners.ensures
    (search rules) (option_copied c.exact_of.result) c.exact_of.ensures c.in_ok-coords.coords c.as_slice.result.now
    c.in_ok-edges.edges c.in_ok-faces.faces
    (subst (AreEven points) (sym c.exact_of.ensures)
    (even c.args.frame.now points pairs c.requires.agree c.in_ok-points.ensures.0 c.in_ok-pairs.ensures))
    c.in_ok-coords.ensures c.in_ok-edges.ensures
    (ap length (c.as_slice.ensures ∙ c.in_ok-letters.ensures)
    ∙ lettered c.args.frame.now points pairs c.requires.agree c.in_ok-points.ensures.0 c.in_ok-pairs.ensures)
    c.in_ok-faces.ensures
    (each_within c.args.frame.now points pairs c.requires.agree c.in_ok-points.ensures.0 c.in_ok-pairs.ensures)
    (faces_are_within c.args.frame.now points pairs c.requires.agree c.in_ok-points.ensures.0 c.in_ok-pairs.ensures corners
    c.args.faces c.in_ok-corners.ensures)

pub returns-clause-short : goal.returns-clause-short
returns-clause-short g c =
    coords_short g.N.Exact.ROOT g.N.Exact.parts c.args.rule.now.row _ g.met.N.Exact.at_most_three
    c.args.rule.now.above_zero c.args.rule.now.at_most_a_million
    (vertices_in c.in_ok-points.points.now (option_copied c.exact_of.result)) c.in_ok-coords.coords c.in_ok-coords.ensures
