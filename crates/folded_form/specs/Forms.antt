-- what a drawing folds to, and why it has no folded form
use Rattle.std.specs.Prelude.{◌≡◌, ℕ, ℤ, List}
use Rattle.algebra.specs.LowestTerms.{Parts}
use Rattle.algebra.specs.Surd.{Surd}
use Rattle.algebra.specs.WholeSurds.{SurdNumbers}
use Rattle.flat_fold.specs.Computed.{ComputedField}
use Rattle.flat_fold.specs.Folded.{IsFolded, Layout, Refuses}
use Rattle.flat_fold.specs.Folding.{AllFits}
use Rattle.flat_fold.specs.Sheets.{FormSheet}
use Rattle.flat_fold.specs.declared.fold.FoldFlatFault.{FoldFlatFault}
use Rattle.flat_fold.specs.declared.fold.FoldFlatFault.TheVariants as folding
use Rattle.scaled_plane.specs.Scaling.{IsTooWide}
use Rattle.scaled_plane.specs.declared.drawing.Ends.{Ends}
use Rattle.scaled_plane.specs.declared.drawing.Face.{Face}
use Rattle.sheet_check.specs.Refused.{IsFirstFlawScaled}
use Rattle.sheet_check.specs.declared.fault.SheetFault.{SheetFault}
use Rattle.sheet_check.specs.declared.fault.SheetFault.TheVariants as sheet
use Rattle.folded_form.specs.declared.fault.FormFault.{FormFault}
use Rattle.folded_form.specs.declared.fault.FormFault.TheVariants.{TooWide, Flaw, NumberPast, Unclosed, FoldedTooWide, Memory}

-- what a drawing folds to, and why it doesn't fold
module _ {N W : Type 0} {root : ℕ} {surd : W → Surd ℤ} (parts : N → Parts) (K : ComputedField N)
    (numbers : SurdNumbers root surd) (drawing : Ends N × List Face) where
  -- the drawing is a sheet
  abbrev pub IsSheet : Type 0
  IsSheet = FormSheet parts numbers drawing.0 drawing.1

  -- the drawing is a sheet that folds, with nothing past its range, and this is it folded
  pub record IsFoldedFrom (layout : Layout N W) : Type 0 where
    pub is_sheet : IsSheet
    pub fits : AllFits K drawing.0.coords drawing.0.edges drawing.1
    pub of_sheet : layout.sheet ≡ record { ends = drawing.0; faces = drawing.1 }
    pub folded : IsFolded parts K.field numbers layout

  -- the drawing is a sheet that doesn't fold, for this reason
  abbrev pub IsUnfolded : FoldFlatFault → Type 0
  IsUnfolded fault =
      IsSheet × Refuses K drawing.0.coords drawing.0.edges drawing.1 parts fault

  -- it has no folded form, and this is the first reason: its coordinates are too wide, it isn't a
  -- sheet, or the sheet doesn't fold
  abbrev pub HasNoForm : FormFault → Type 0
  HasNoForm (TooWide vertex) = IsTooWide parts drawing.0.coords vertex
  HasNoForm (Flaw flaw) = IsFirstFlawScaled parts numbers drawing.0 drawing.1 flaw
  HasNoForm (NumberPast face vertex) = IsUnfolded (folding.NumberPast face vertex)
  HasNoForm (Unclosed edge) = IsUnfolded (folding.Unclosed edge)
  HasNoForm (FoldedTooWide vertex) = IsUnfolded (folding.TooWide vertex)
  HasNoForm (Memory error) = ⊥

  -- the fault is this reason, or want of memory
  abbrev pub NamesReason : FormFault → Type 0
  NamesReason (Memory error) = Unit {0}
  NamesReason fault = HasNoForm fault

-- ---- faults of the calls that lead to a form
abbrev pub of_sheet : SheetFault → FormFault
of_sheet (sheet.TooWide vertex) = TooWide vertex
of_sheet (sheet.Flaw flaw) = Flaw flaw
of_sheet (sheet.Memory error) = Memory error

abbrev pub of_folding : FoldFlatFault → FormFault
of_folding (folding.NumberPast face vertex) = NumberPast face vertex
of_folding (folding.Unclosed edge) = Unclosed edge
of_folding (folding.TooWide vertex) = FoldedTooWide vertex
of_folding (folding.Memory error) = Memory error
