use Rattle.std.proofs.Common.{◌∙◌, sym, ap, pos, ℤ}
use Rattle.algebra.specs.LowestTerms.{Parts}
use Rattle.algebra.specs.Surd.{Surd}
use Rattle.folded_layers.proofs.FacesLie.{faces-lie}
use Rattle.folded_layers.proofs.FoldedSheets.{has-layers}
use Rattle.folded_layers.proofs.Numbers.{AreNumbers}
use Rattle.folded_layers.proofs.laws.folded_sheets_have_layers.Goals as goal

pub returns : goal.returns
returns g c layout form folding =
    let whole : Surd ℤ → Parts = λ w. record { a = w.a; b = w.b; q = pos 1 } in
    let are : AreNumbers g.N.Exact.parts g.N.Exact.numbers.field g.N.Ring.Whole.numbers = record {
      once = g.met.N.Exact.holds.once;
      exists = c.scaling_laws.ensures.exists;
      one = g.N.Exact.numbers.whole_is (pos 1) ∙ sym (ap whole (g.N.Ring.Whole.numbers.whole_is (pos 1)));
      sum = c.scaling_laws.ensures.sum;
      difference = c.scaling_laws.ensures.difference;
      product = c.scaling_laws.ensures.product;
      sign = c.scaling_laws.ensures.sign;
      scales = c.scaling_laws.ensures.scaled;
    } in
    has-layers g.N.Exact.numbers.field layout form folding (faces-lie are layout form folding)
