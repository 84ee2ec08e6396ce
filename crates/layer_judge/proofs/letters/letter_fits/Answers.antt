use Rattle.std.proofs.Common.{IsTrue, true, refl, sym, subst}
use Rattle.std.specs.Prelude.{◌↔◌}
use Rattle.layers.specs.Orders.{Above}
use Rattle.layers.specs.Points.{LetterFits}
use Rattle.layer_judge.specs.Judging.{layer_orders}
use Rattle.layer_judge.proofs.letters.letter_fits.Goals as goal

pub returns-in-Border : goal.returns-in-Border
returns-in-Border g c = subst (λ l. IsTrue true ↔ LetterFits g.S.Ring.Whole.numbers.ring (g.S.SheetView.sheet c.args.judged.now.sheet.now) (Above (g.S.SheetView.sheet c.args.judged.now.sheet.now) (layer_orders c.args.judged.now.orders.now)) l c.args.first c.args.second) (sym c.in-Border.is) ((λ t. tt), (λ t. refl))

pub returns-in-Flat : goal.returns-in-Flat
returns-in-Flat g c = subst (λ l. IsTrue true ↔ LetterFits g.S.Ring.Whole.numbers.ring (g.S.SheetView.sheet c.args.judged.now.sheet.now) (Above (g.S.SheetView.sheet c.args.judged.now.sheet.now) (layer_orders c.args.judged.now.orders.now)) l c.args.first c.args.second) (sym c.in-Flat.is) ((λ t. tt), (λ t. refl))

pub returns-in-Unassigned : goal.returns-in-Unassigned
returns-in-Unassigned g c = subst (λ l. IsTrue true ↔ LetterFits g.S.Ring.Whole.numbers.ring (g.S.SheetView.sheet c.args.judged.now.sheet.now) (Above (g.S.SheetView.sheet c.args.judged.now.sheet.now) (layer_orders c.args.judged.now.orders.now)) l c.args.first c.args.second) (sym c.in-Unassigned.is) ((λ t. tt), (λ t. refl))

pub returns-in-Join : goal.returns-in-Join
returns-in-Join g c = subst (λ l. IsTrue true ↔ LetterFits g.S.Ring.Whole.numbers.ring (g.S.SheetView.sheet c.args.judged.now.sheet.now) (Above (g.S.SheetView.sheet c.args.judged.now.sheet.now) (layer_orders c.args.judged.now.orders.now)) l c.args.first c.args.second) (sym c.in-Join.is) ((λ t. tt), (λ t. refl))

pub returns-in-Cut : goal.returns-in-Cut
returns-in-Cut g c = subst (λ l. IsTrue true ↔ LetterFits g.S.Ring.Whole.numbers.ring (g.S.SheetView.sheet c.args.judged.now.sheet.now) (Above (g.S.SheetView.sheet c.args.judged.now.sheet.now) (layer_orders c.args.judged.now.orders.now)) l c.args.first c.args.second) (sym c.in-Cut.is) ((λ t. tt), (λ t. refl))

pub returns-in-Mountain : goal.returns-in-Mountain
returns-in-Mountain g c = subst (λ l. IsTrue c.mountain_fits.result ↔ LetterFits g.S.Ring.Whole.numbers.ring (g.S.SheetView.sheet c.args.judged.now.sheet.now) (Above (g.S.SheetView.sheet c.args.judged.now.sheet.now) (layer_orders c.args.judged.now.orders.now)) l c.args.first c.args.second) (sym c.in-Mountain.is) c.mountain_fits.ensures

pub returns-in-Valley : goal.returns-in-Valley
returns-in-Valley g c = subst (λ l. IsTrue c.valley_fits.result ↔ LetterFits g.S.Ring.Whole.numbers.ring (g.S.SheetView.sheet c.args.judged.now.sheet.now) (Above (g.S.SheetView.sheet c.args.judged.now.sheet.now) (layer_orders c.args.judged.now.orders.now)) l c.args.first c.args.second) (sym c.in-Valley.is) c.valley_fits.ensures
