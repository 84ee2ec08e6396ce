use Rattle.std.proofs.Common.{arith, subst, sym}
use borrow.Author.Count.{below_more}
use Rattle.layers.specs.Orders.{Above}
use Rattle.layers.specs.Points.{LetterFits}
use Rattle.layer_judge.specs.Judging.{layer_orders}
use Rattle.layer_judge.proofs.Below.{edge_below}
use Rattle.layer_judge.proofs.Edges.{letter_of}
use Rattle.layer_judge.proofs.letters.first_letter.Goals.{in-Some+else-not-letter_fits, in_default}
use Rattle.layer_judge.proofs.letters.first_letter.Goals as goal

pub returns-then-not-letter_fits : goal.returns-then-not-letter_fits
returns-then-not-letter_fits g c = (
  (c.crossings_by_faces.ensures.letter g.S.Ring.Whole.numbers.ring (g.S.SheetView.sheet c.args.judged.now.sheet.now) (layer_orders c.args.judged.now.orders.now) _ _ _ c.in-Some.ensures.1.faces).1 (λ fits. let a = c.letter_fits.ensures.1 (subst (λ l. LetterFits g.S.Ring.Whole.numbers.ring (g.S.SheetView.sheet c.args.judged.now.sheet.now) (Above (g.S.SheetView.sheet c.args.judged.now.sheet.now) (layer_orders c.args.judged.now.orders.now)) l c.in-Some.faces.first c.in-Some.faces.second) (sym (letter_of g.S.Ring.Whole.numbers.ring (g.S.SheetView.sheet c.args.judged.now.sheet.now) c.in-Some.ensures.1.faces c.letter.result c.letter.ensures)) fits) in let b = c.if-not-letter_fits.true in cc),
  c.loop-edge.invariant,
)

pub loop-edge-preserved : goal.loop-edge-preserved
loop-edge-preserved g c = below_more _ _ c.loop-edge.invariant (elim c.match-faces.branch [
  | in-Some+else-not-letter_fits w ↦ λ r. (c.crossings_by_faces.ensures.letter g.S.Ring.Whole.numbers.ring (g.S.SheetView.sheet c.args.judged.now.sheet.now) (layer_orders c.args.judged.now.orders.now) _ _ _ w.in-Some.ensures.1.faces).0 r (subst (λ l. LetterFits g.S.Ring.Whole.numbers.ring (g.S.SheetView.sheet c.args.judged.now.sheet.now) (Above (g.S.SheetView.sheet c.args.judged.now.sheet.now) (layer_orders c.args.judged.now.orders.now)) l w.in-Some.faces.first w.in-Some.faces.second) (letter_of g.S.Ring.Whole.numbers.ring (g.S.SheetView.sheet c.args.judged.now.sheet.now) w.in-Some.ensures.1.faces w.letter.result w.letter.ensures) (w.letter_fits.ensures.0 w.if-not-letter_fits.false))
  | in_default w ↦ λ r. w.in_default.ensures _ _ r.faces
])

pub returns : goal.returns
returns g c e r = let below = edge_below r.faces in c.loop-edge.invariant e (omega (arith, c.edge_count-edge-end.ensures)) r
