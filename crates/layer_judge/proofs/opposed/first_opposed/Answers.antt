use Rattle.std.proofs.Common.{arith}
use borrow.Author.Count.{below_more}
use Rattle.layer_judge.specs.Judging.{layer_orders}
use Rattle.layer_judge.proofs.Taking.{opposed_at, order_at}
use Rattle.layer_judge.proofs.opposed.first_opposed.Goals as goal

pub returns-then-are_opposed-clause-opposed : goal.returns-then-are_opposed-clause-opposed
returns-then-are_opposed-clause-opposed g c = (opposed_at (g.S.SheetView.sheet c.args.sheet.now) (layer_orders c.args.orders.now) _ _ _ _ (order_at c.args.orders.now c.loop-first.first _ (omega arith)) (order_at c.args.orders.now c.args.second _ c.requires.second)).0 (c.are_opposed.ensures.0 c.if-are_opposed.true)

pub loop-first-preserved : goal.loop-first-preserved
loop-first-preserved g c = below_more _ _ c.loop-first.invariant (λ o. let a = c.are_opposed.ensures.1 ((opposed_at (g.S.SheetView.sheet c.args.sheet.now) (layer_orders c.args.orders.now) _ _ _ _ (order_at c.args.orders.now c.loop-first.first _ (omega arith)) (order_at c.args.orders.now c.args.second _ c.requires.second)).1 o) in let b = c.if-are_opposed.false in cc)

pub unreachable-requires : goal.unreachable-requires
unreachable-requires g c = let s = c.requires.some in c.loop-first.invariant s.0 (let before = s.1 in omega arith) s.2
