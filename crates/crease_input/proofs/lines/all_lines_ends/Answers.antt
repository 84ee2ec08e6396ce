use Rattle.std.proofs.Common.{rules, ◌≡◌, [], arith, Ok}
use Rattle.std.proofs.lemmas.List.{length-map}
use Rattle.std.proofs.lemmas.Result.{err_from_is_err_and}
use Rattle.crease_input.proofs.Gathering.{stands_none, stands_more, stands_few, stands_refused, stands_whole, stands_handed, stands_within}
use Rattle.crease_input.proofs.OneReading.{by_row}
use Rattle.crease_input.proofs.Short.{ends_short}
use Rattle.crease_input.proofs.lines.all_lines_ends.Goals as goal

pub loop-number-init : goal.loop-number-init
loop-number-init g c =
    let no_keys : c.new-corners.result.keys ≡ [] = search rules in
    rw (c.in_ok-edges.ensures, no_keys) (stands_none _ _ c.args.lines.now)

pub returns-in_err-crease-clause-ends : goal.returns-in_err-crease-clause-ends
returns-in_err-crease-clause-ends g c =
    let p = err_from_is_err_and c.from_residual-in_err-crease.result c.from_residual-in_err-crease.ensures.1 in
    rw (p.1, p.2)
    (stands_refused _ _ c.args.lines.now c.loop-number.number c.index-lines-number.result _ _ _
    c.loop-number-test.true c.index-lines-number.is c.in_err-crease.ensures c.loop-number.invariant)

pub returns-in_err-crease-clause-row : goal.returns-in_err-crease-clause-row
returns-in_err-crease-clause-row g c =
    by_row g.N.Exact.ROOT g.N.Exact.parts c.args.rule.now.row _ c.args.lines.now _ (returns-in_err-crease-clause-ends g c)

pub edge_of-requires : goal.edge_of-requires
edge_of-requires g c =
    let few = stands_few _ _ c.args.lines.now c.loop-number.number _ _ (omega (arith, c.loop-number-test.true))
    c.loop-number.invariant in
    let same = length-map c.loop-number.corners.keys (λ k. k.point) in
    record { few = omega (arith, few, same, c.loop-number-test.true, c.requires.few) }

pub loop-number-preserved : goal.loop-number-preserved
loop-number-preserved g c =
    stands_more _ _ c.args.lines.now c.loop-number.number c.index-lines-number.result c.in_ok-crease.crease _ _
    c.loop-number.edges c.push.new.self c.in_ok-edge.edge c.loop-number-test.true c.index-lines-number.is
    c.in_ok-crease.ensures c.in_ok-edge.ensures.points c.in_ok-edge.ensures.edge (search rules)
    c.loop-number.invariant

pub returns-clause-ends : goal.returns-clause-ends
returns-clause-ends g c =
    stands_whole _ _ c.args.lines.now c.loop-number.number c.in_ok-coords.coords c.loop-number.edges
    c.loop-number-test.false
    (stands_handed _ _ c.args.lines.now c.loop-number.number _ c.in_ok-coords.coords c.loop-number.edges
    c.in_ok-coords.ensures c.loop-number.invariant)

pub returns-clause-row : goal.returns-clause-row
returns-clause-row g c =
    by_row g.N.Exact.ROOT g.N.Exact.parts c.args.rule.now.row _ c.args.lines.now
    (Ok (record { coords = c.in_ok-coords.coords; edges = c.loop-number.edges })) (returns-clause-ends g c)

pub returns-clause-within : goal.returns-clause-within
returns-clause-within g c =
    stands_within _ _ c.args.lines.now c.loop-number.number c.in_ok-coords.coords c.loop-number.edges
    c.loop-number.auto.number-end c.loop-number-test.false
    (stands_handed _ _ c.args.lines.now c.loop-number.number _ c.in_ok-coords.coords c.loop-number.edges
    c.in_ok-coords.ensures c.loop-number.invariant)

pub returns-clause-short : goal.returns-clause-short
returns-clause-short g c =
    ends_short g.N.Exact.ROOT g.N.Exact.parts c.args.rule.now.row _ g.met.N.Exact.at_most_three
    c.args.rule.now.above_zero c.args.rule.now.at_most_a_million c.args.lines.now
    (record { coords = c.in_ok-coords.coords; edges = c.loop-number.edges }) (returns-clause-ends g c)
