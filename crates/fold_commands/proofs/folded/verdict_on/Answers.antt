use Rattle.std.proofs.Common.{Some, length, subst, sym}
use Rattle.std.specs.List.{All}
use Rattle.std.proofs.lemmas.Result.{err_from_is_err_and}
use Rattle.crease_input.specs.Files.{AreOrdersWithin}
use Rattle.flat_fold.specs.Folded.{Layout}
use Rattle.folded_layers.specs.Sheets.{folded_sheet}
use Rattle.layer_judge.specs.Judging.{RefusesOrders, layer_orders}
use Rattle.fold_commands.proofs.FoldSteps.{orders_named, orders_stop}
use Rattle.fold_commands.proofs.folded.verdict_on.Goals as goal

pub judge-requires-clause-few : goal.judge-requires-clause-few
judge-requires-clause-few g c = c.requires.0

pub judge-requires-clause-named : goal.judge-requires-clause-named
judge-requires-clause-named g c =
    orders_named g.N.Ring.Whole.numbers c.new-sheet.result.folded.now c.args.orders.now
    (subst (λ (layout : Layout _ _). AreOrdersWithin (length layout.sheet.faces) (Some c.args.orders.now)) (sym c.new-sheet.ensures.view) c.requires)

pub returns-in_err-judge : goal.returns-in_err-judge
returns-in_err-judge g c =
    let p = err_from_is_err_and c.from_residual.result c.from_residual.ensures.1 in
    rw (p.1, p.2) (orders_stop g.N.Exact.ROOT g.N.Exact.parts g.N.Exact.numbers g.N.Ring.Whole.numbers c.args.orders.now c.args.folded.now _
    (subst (λ (layout : Layout _ _). RefusesOrders g.N.Ring.Whole.numbers.ring (folded_sheet g.N.Ring.Whole.numbers.ring layout) (layer_orders c.args.orders.now) c.in_err-judge.field-0.0)
    c.new-sheet.ensures.view c.in_err-judge.ensures.refused))
