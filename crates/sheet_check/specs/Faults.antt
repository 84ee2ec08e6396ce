-- Faults of the steps as faults of a sheet.
use Rattle.face_walks.specs.declared.answer.WalkFault.{WalkFault}
use Rattle.face_walks.specs.declared.answer.WalkFault.TheVariants as walking
use Rattle.scaled_plane.specs.declared.scaled.ScaleFault.{ScaleFault}
use Rattle.scaled_plane.specs.declared.scaled.ScaleFault.TheVariants as scaling
use Rattle.scaled_plane.specs.declared.sheet.SheetFlaw.TheVariants.{Parted}
use Rattle.sheet_check.specs.declared.fault.SheetFault.{SheetFault}
use Rattle.sheet_check.specs.declared.fault.SheetFault.TheVariants.{TooWide, Flaw, Memory}

abbrev pub of_scaling : ScaleFault → SheetFault
of_scaling (scaling.TooWide vertex) = TooWide vertex
of_scaling (scaling.Memory error) = Memory error

abbrev pub of_walking : WalkFault → SheetFault
of_walking (walking.Parted vertex) = Flaw (Parted vertex)
of_walking (walking.Memory error) = Memory error
