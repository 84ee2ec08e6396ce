use Rattle.std.proofs.Common.{◌≡◌, true, false, sym, ◌∙◌}
use Rattle.face_walks.specs.Headings.{direction_of}
use Rattle.face_walks.proofs.Bearings.{in_order, out_of_order}
use Rattle.face_walks.proofs.headings.headings_along.Goals as goal

pub returns-then-are_alike-clause-there : goal.returns-then-are_alike-clause-there
returns-then-are_alike-clause-there g c =
    (in_order g.W.Whole.numbers.ring c.args.first c.args.second c.args.from c.args.to c.requires.from_on c.requires.to_on c.requires.line c.requires.edge
    (direction_of c.heading_between-forth.result) (direction_of c.heading_between-reverse.result) c.heading_between-forth.ensures.value c.heading_between-reverse.ensures.value
    c.compare_points.result c.compare_points-2.result c.compare_points.ensures c.compare_points-2.ensures
    (c.are_alike.ensures.0 c.if-are_alike.true)).0

pub returns-then-are_alike-clause-back : goal.returns-then-are_alike-clause-back
returns-then-are_alike-clause-back g c =
    (in_order g.W.Whole.numbers.ring c.args.first c.args.second c.args.from c.args.to c.requires.from_on c.requires.to_on c.requires.line c.requires.edge
    (direction_of c.heading_between-forth.result) (direction_of c.heading_between-reverse.result) c.heading_between-forth.ensures.value c.heading_between-reverse.ensures.value
    c.compare_points.result c.compare_points-2.result c.compare_points.ensures c.compare_points-2.ensures
    (c.are_alike.ensures.0 c.if-are_alike.true)).1

pub returns-else-are_alike-clause-there : goal.returns-else-are_alike-clause-there
returns-else-are_alike-clause-there g c =
    (out_of_order g.W.Whole.numbers.ring c.args.first c.args.second c.args.from c.args.to c.requires.from_on c.requires.to_on c.requires.line c.requires.edge
    (direction_of c.heading_between-forth.result) (direction_of c.heading_between-reverse.result) c.heading_between-forth.ensures.value c.heading_between-reverse.ensures.value
    c.compare_points.result c.compare_points-2.result c.compare_points.ensures c.compare_points-2.ensures
    (λ e. let no : true ≡ false = sym (c.are_alike.ensures.1 e) ∙ c.if-are_alike.false in cc)).0

pub returns-else-are_alike-clause-back : goal.returns-else-are_alike-clause-back
returns-else-are_alike-clause-back g c =
    (out_of_order g.W.Whole.numbers.ring c.args.first c.args.second c.args.from c.args.to c.requires.from_on c.requires.to_on c.requires.line c.requires.edge
    (direction_of c.heading_between-forth.result) (direction_of c.heading_between-reverse.result) c.heading_between-forth.ensures.value c.heading_between-reverse.ensures.value
    c.compare_points.result c.compare_points-2.result c.compare_points.ensures c.compare_points-2.ensures
    (λ e. let no : true ≡ false = sym (c.are_alike.ensures.1 e) ∙ c.if-are_alike.false in cc)).1
