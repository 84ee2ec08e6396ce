-- What is known of a folded sheet that its layers are looked at of.
use Rattle.std.specs.Prelude.{ℕ, ℤ}
use Rattle.algebra.specs.LowestTerms.{Parts}
use Rattle.algebra.specs.OrderedField.{OrderedField}
use Rattle.algebra.specs.Surd.{Surd}
use Rattle.algebra.specs.WholeSurds.{SurdNumbers}
use Rattle.flat_fold.specs.Folded.{IsFolded as IsFolding, Layout}
use Rattle.flat_fold.specs.Sheets.{FormSheet}
use Rattle.layers.specs.Folded.{IsFolded}
use Rattle.folded_layers.specs.Sheets.{folded_sheet}

-- it is the folding of a sheet, and so folded in the sense of layers
pub record HasLayers {N : Type 0} (parts : N → Parts) (F : OrderedField N) {W : Type 0} {k : ℕ} {surd : W → Surd ℤ} (numbers : SurdNumbers k surd)
    (layout : Layout N W) : Type 0 where
  pub form : FormSheet parts numbers layout.sheet.ends layout.sheet.faces
  pub folding : IsFolding parts F numbers layout
  pub layered : IsFolded numbers.ring (folded_sheet numbers.ring layout)
