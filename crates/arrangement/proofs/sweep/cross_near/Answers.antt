use Rattle.std.proofs.Common.{map, arith}
use Rattle.std.proofs.lemmas.List.{length-take}
use Rattle.std.proofs.lemmas.Result.{on_ok_weaker}
use Rattle.arrangement.proofs.Sweeping.{count_near_is, crossings_near, grows_front, seen_front}
use Rattle.arrangement.proofs.sweep.cross_near.Goals as goal

pub cross_with-requires-clause-other_ends : goal.cross_with-requires-clause-other_ends
cross_with-requires-clause-other_ends g c = λ t there.
    c.requires.other_ends t
    (seen_front g.W.Whole.numbers (λ t. t.segment) (λ t. t.left.point) (λ t. t.right.point) c.args.span.now.segment c.args.rest.now c.count_near.result t there)

pub returns-clause-grows : goal.returns-clause-grows
returns-clause-grows g c =
    grows_front g.W.Whole.numbers (λ t. t.segment) (λ t. t.left.point) (λ t. t.right.point) c.args.span.now.segment c.args.rest.now c.count_near.result
    (map (λ v. v.point) c.args.found.now.keys) (map (λ v. v.point) c.cross_with.new.found.keys) c.cross_with.ensures.grows

pub returns-clause-has : goal.returns-clause-has
returns-clause-has g c =
    on_ok_weaker c.cross_with.result
    (λ seen. crossings_near g.W.Whole.numbers (λ t. t.segment) (λ t. t.left.point) (λ t. t.right.point) c.args.span.now.segment c.args.rest.now c.count_near.result
    c.requires.span.usable c.requires.spans c.count_near.ensures.far (map (λ v. v.point) c.cross_with.new.found.keys) seen)
    c.cross_with.ensures.has

pub returns-clause-counted : goal.returns-clause-counted
returns-clause-counted g c =
    let count = count_near_is g.W.Whole.numbers (λ t. t.segment) (λ t. t.left.point) (λ t. t.right.point) c.args.span.now.segment c.args.rest.now c.count_near.result
    c.count_near.ensures.within c.count_near.ensures.near c.count_near.ensures.far in
    let size = length-take c.count_near.result c.args.rest.now in
    on_ok_weaker c.cross_with.result (λ steps. (let within = c.count_near.ensures.within in omega (arith, steps, count, size, within))) c.cross_with.ensures.counted

pub returns-clause-counted_at_most : goal.returns-clause-counted_at_most
returns-clause-counted_at_most g c =
    let count = count_near_is g.W.Whole.numbers (λ t. t.segment) (λ t. t.left.point) (λ t. t.right.point) c.args.span.now.segment c.args.rest.now c.count_near.result
    c.count_near.ensures.within c.count_near.ensures.near c.count_near.ensures.far in
    let size = length-take c.count_near.result c.args.rest.now in
    let within = c.count_near.ensures.within in
    let most = c.cross_with.ensures.counted_at_most in
    (most.0, (let last = most.1 in omega (arith, last, count, size, within)))
