use Rattle.std.proofs.Common.{length, sym, subst, ◌<◌}
use Rattle.layer_judge.specs.Judging.{as_layer_order}
use Rattle.layer_judge.proofs.Saying.{said_within}
use Rattle.layer_judge.proofs.Taking.{contradicts_said, takes_nothing, takes_said}
use Rattle.layer_judge.proofs.reading.take_up.Goals as goal

pub is_above-requires-clause-upper : goal.is_above-requires-clause-upper
is_above-requires-clause-upper g c = subst (λ n. c.in-Some.lower < n) (sym c.requires.count) (said_within (g.S.SheetView.sheet c.args.sheet.now) (length (g.S.SheetView.sheet c.args.sheet.now).faces) c.args.order (c.in-Some.upper, c.in-Some.lower) c.requires.order c.in-Some.ensures).1

pub is_above-requires-clause-lower : goal.is_above-requires-clause-lower
is_above-requires-clause-lower g c = subst (λ n. c.in-Some.upper < n) (sym c.requires.count) (said_within (g.S.SheetView.sheet c.args.sheet.now) (length (g.S.SheetView.sheet c.args.sheet.now).faces) c.args.order (c.in-Some.upper, c.in-Some.lower) c.requires.order c.in-Some.ensures).0

pub put_above-requires-clause-upper : goal.put_above-requires-clause-upper
put_above-requires-clause-upper g c = subst (λ n. c.in-Some.upper < n) (sym c.requires.count) (said_within (g.S.SheetView.sheet c.args.sheet.now) (length (g.S.SheetView.sheet c.args.sheet.now).faces) c.args.order (c.in-Some.upper, c.in-Some.lower) c.requires.order c.in-Some.ensures).0

pub put_above-requires-clause-lower : goal.put_above-requires-clause-lower
put_above-requires-clause-lower g c = subst (λ n. c.in-Some.lower < n) (sym c.requires.count) (said_within (g.S.SheetView.sheet c.args.sheet.now) (length (g.S.SheetView.sheet c.args.sheet.now).faces) c.args.order (c.in-Some.upper, c.in-Some.lower) c.requires.order c.in-Some.ensures).1

pub returns-then-is_above-clause-refused : goal.returns-then-is_above-clause-refused
returns-then-is_above-clause-refused g c = λ n. contradicts_said (g.S.SheetView.sheet c.args.sheet.now) c.args.ranking.now.count c.args.ranking.now.cells.items (as_layer_order c.args.order) (c.in-Some.upper, c.in-Some.lower) c.in-Some.ensures (c.is_above.ensures.0 c.if-is_above.true)

pub returns-in-None-clause-taken : goal.returns-in-None-clause-taken
returns-in-None-clause-taken g c = λ t. takes_nothing (g.S.SheetView.sheet c.args.sheet.now) c.args.ranking.now.count c.args.ranking.now.cells.items (as_layer_order c.args.order) c.in-None.ensures

pub returns-else-is_above-clause-taken : goal.returns-else-is_above-clause-taken
returns-else-is_above-clause-taken g c = λ t. takes_said (g.S.SheetView.sheet c.args.sheet.now) c.args.ranking.now.count c.args.ranking.now.cells.items (as_layer_order c.args.order) (c.in-Some.upper, c.in-Some.lower) c.in-Some.ensures _ c.put_above.ensures.marks
    (λ m. let a = c.is_above.ensures.1 m in let b = c.if-is_above.false in cc)
