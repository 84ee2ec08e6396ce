use Rattle.std.proofs.Common.{◌≤◌, ℕ, List, length, sym, subst, ◌∙◌}
use Rattle.std.specs.Prelude.{Contains, slice_index_or}
use Rattle.std.proofs.lemmas.List.{get_or_default, take_all}
use Rattle.sheet_check.proofs.BentLemmas.{none_more, right_at}
use Rattle.sheet_check.proofs.convex.has_right.Goals as goal

pub vertex-requires-clause-in_range : goal.vertex-requires-clause-in_range
vertex-requires-clause-in_range g c =
    let corners = c.args.corners.now in
    let i = c.loop-corner.corner-index in
    let v : ℕ = slice_index_or corners i 0 in
    c.requires.corners v (i, c.loop-corner-test.true, get_or_default corners i v 0 c.loop-corner-test.true)

pub returns-then-is_lt-clause-right : goal.returns-then-is_lt-clause-right
returns-then-is_lt-clause-right g c =
    right_at g.W.Whole.numbers.ring c.args.vertices.now c.args.corners.now c.args.b c.args.c c.loop-corner.corner-index c.loop-corner-test.true
    c.vertex-from.result c.vertex-to.result c.vertex.result c.orient.result c.vertex-from.ensures.is c.vertex-to.ensures.is c.vertex.ensures.is c.orient.ensures
    (sym c.is_lt.ensures ∙ c.if-is_lt.true)

pub loop-corner-preserved : goal.loop-corner-preserved
loop-corner-preserved g c =
    none_more g.W.Whole.numbers.ring c.args.vertices.now c.args.corners.now c.args.b c.args.c c.loop-corner.corner-index c.loop-corner-test.true
    c.vertex-from.result c.vertex-to.result c.vertex.result c.orient.result c.vertex-from.ensures.is c.vertex-to.ensures.is c.vertex.ensures.is c.orient.ensures
    (sym c.is_lt.ensures ∙ c.if-is_lt.false) c.loop-corner.invariant

pub returns-clause-none : goal.returns-clause-none
returns-clause-none g c right =
    let all : length c.args.corners.now ≤ c.loop-corner.corner-index = c.loop-corner-test.false in
    c.loop-corner.invariant right.0 (subst (λ (cs : List ℕ). Contains cs right.0) (sym (take_all c.loop-corner.corner-index c.args.corners.now all)) right.1) right.2
