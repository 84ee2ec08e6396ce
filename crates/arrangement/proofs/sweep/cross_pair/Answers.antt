use Rattle.std.proofs.Common.{map}
use Rattle.std.proofs.lemmas.Result.{on_ok_weaker}
use Rattle.segment_tests.specs.declared.answer.Meet.TheVariants.{Touches, Along}
use Rattle.arrangement.proofs.Growing.{tested, crossed_within, crossed_grows, crossed_has}
use Rattle.arrangement.proofs.sweep.cross_pair.Goals as goal

pub add_few-requires-clause-within : goal.add_few-requires-clause-within
add_few-requires-clause-within g c =
    crossed_within g.W.Whole.numbers c.args.s c.args.t c.requires.first c.requires.second g.met.W.Whole.at_most_three c.in-Crosses.point c.in-Crosses.ensures.common

pub returns-in-Touches-clause-has : goal.returns-in-Touches-clause-has
returns-in-Touches-clause-has g c =
    tested g.W.Whole.numbers c.args.s c.args.t c.requires.first c.requires.second (map (λ v. v.point) c.args.found.now.keys) (Touches c.in-Touches.field-0) c.in-Touches.ensures.common
    c.requires.first_ends c.requires.second_ends tt

pub returns-in-Along-clause-has : goal.returns-in-Along-clause-has
returns-in-Along-clause-has g c =
    tested g.W.Whole.numbers c.args.s c.args.t c.requires.first c.requires.second (map (λ v. v.point) c.args.found.now.keys) (Along c.in-Along.field-0 c.in-Along.field-1) c.in-Along.ensures.common
    c.requires.first_ends c.requires.second_ends tt

pub returns-in-Crosses-clause-grows : goal.returns-in-Crosses-clause-grows
returns-in-Crosses-clause-grows g c =
    crossed_grows g.W.Whole.numbers c.args.s c.args.t c.requires.first c.requires.second (map (λ v. v.point) c.args.found.now.keys) (map (λ v. v.point) c.add_few.new.found.keys)
    c.in-Crosses.point c.in-Crosses.ensures.common c.add_few.ensures.grows

pub returns-in-Crosses-clause-has : goal.returns-in-Crosses-clause-has
returns-in-Crosses-clause-has g c =
    on_ok_weaker c.add_few.result
    (λ seen. crossed_has g.W.Whole.numbers c.args.s c.args.t c.requires.first c.requires.second (map (λ v. v.point) c.args.found.now.keys) (map (λ v. v.point) c.add_few.new.found.keys)
    c.in-Crosses.point c.in-Crosses.ensures.common c.requires.first_ends c.requires.second_ends c.add_few.ensures.grows seen)
    c.add_few.ensures.has
