-- why there is no form, from the faults of the calls that lead to one
use Rattle.std.proofs.Common.{List, ℤ, ℕ}
use Rattle.algebra.specs.LowestTerms.{Parts}
use Rattle.algebra.specs.Surd.{Surd}
use Rattle.algebra.specs.WholeSurds.{SurdNumbers}
use Rattle.flat_fold.specs.Computed.{ComputedField}
use Rattle.flat_fold.specs.Folded.{Refuses}
use Rattle.flat_fold.specs.Sheets.{FormSheet}
use Rattle.flat_fold.specs.declared.fold.FoldFlatFault.{FoldFlatFault}
use Rattle.flat_fold.specs.declared.fold.FoldFlatFault.TheVariants as folding
use Rattle.scaled_plane.specs.declared.drawing.Ends.{Ends}
use Rattle.scaled_plane.specs.declared.drawing.Face.{Face}
use Rattle.folded_form.specs.Forms.{NamesReason, of_folding, of_sheet}
use Rattle.sheet_check.specs.Refused.{RefusesSheet}
use Rattle.sheet_check.specs.declared.fault.SheetFault.{SheetFault}
use Rattle.sheet_check.specs.declared.fault.SheetFault.TheVariants as sheet

module _ {N W : Type 0} {root : ℕ} {surd : W → Surd ℤ} (parts : N → Parts) (K : ComputedField N) (numbers : SurdNumbers root surd) (drawing : Ends N × List Face) where
  pub sheet_stops : (fault : SheetFault) → RefusesSheet parts numbers drawing.0 drawing.1 fault → NamesReason parts K numbers drawing (of_sheet fault)
  sheet_stops (sheet.TooWide vertex) h = h
  sheet_stops (sheet.Flaw flaw) h = h
  sheet_stops (sheet.Memory error) h = tt

  pub folding_stops : FormSheet parts numbers drawing.0 drawing.1 → (fault : FoldFlatFault) → Refuses K drawing.0.coords drawing.0.edges drawing.1 parts fault
      → NamesReason parts K numbers drawing (of_folding fault)
  folding_stops is (folding.NumberPast face vertex) h = (is, h)
  folding_stops is (folding.Unclosed edge) h = (is, h)
  folding_stops is (folding.TooWide vertex) h = (is, h)
  folding_stops is (folding.Memory error) h = tt
