-- A folded sheet is one in the sense of layers.
use Rattle.std.proofs.Common.{ℕ, ℤ}
use Rattle.algebra.specs.LowestTerms.{Parts}
use Rattle.algebra.specs.OrderedField.{OrderedField}
use Rattle.algebra.specs.Surd.{Surd}
use Rattle.algebra.specs.WholeSurds.{SurdNumbers}
use Rattle.flat_fold.specs.Folded.{IsFolded as IsFolding, Layout}
use Rattle.flat_fold.specs.Sheets.{FormSheet}
use Rattle.folded_layers.specs.Known.{HasLayers}
use Rattle.folded_layers.specs.Sheets.{folded_sheet}
use Rattle.folded_layers.proofs.EdgesMeet.{edges-meet}
use Rattle.folded_layers.proofs.FaceFacts.{FacesLieWell}
use Rattle.folded_layers.proofs.SidesOnce.{one-edge}

pub has-layers : {N : Type 0} {parts : N → Parts} {W : Type 0} {k : ℕ} {surd : W → Surd ℤ} {numbers : SurdNumbers k surd} (F : OrderedField N) (layout : Layout N W)
    → FormSheet parts numbers layout.sheet.ends layout.sheet.faces → IsFolding parts F numbers layout → FacesLieWell numbers.ring (folded_sheet numbers.ring layout)
    → HasLayers parts F numbers layout
has-layers F layout form folding faces = record {
  form = form;
  folding = folding;
  layered = record {
    convex = faces.convex;
    pieces_apart = faces.pieces_apart;
    one_edge = one-edge layout form folding.sides_are;
    meet = edges-meet F layout form folding;
  };
}
