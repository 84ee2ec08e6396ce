-- What the faults of the steps become.
use Rattle.scaled_plane.specs.declared.scaled.ScaleFault.{ScaleFault}
use Rattle.scaled_plane.specs.declared.scaled.ScaleFault.TheVariants as scaling
use Rattle.arrangement.specs.declared.fault.PieceFault.{PieceFault}
use Rattle.arrangement.specs.declared.fault.PieceFault.TheVariants as cutting
use Rattle.face_walks.specs.declared.answer.WalkFault.{WalkFault}
use Rattle.face_walks.specs.declared.answer.WalkFault.TheVariants as walking
use Rattle.drawing_repair.specs.declared.answer.RepairFault.{RepairFault}
use Rattle.drawing_repair.specs.declared.answer.RepairFault.TheVariants.{TooWide, TooMany, Parted, Memory}
use Rattle.drawing_repair.specs.declared.answer.Stage.TheVariants.{Input}

abbrev pub of_scaling : ScaleFault → RepairFault
of_scaling (scaling.TooWide v) = TooWide v Input
of_scaling (scaling.Memory error) = Memory error

abbrev pub of_cutting : PieceFault → RepairFault
of_cutting cutting.TooMany = TooMany
of_cutting (cutting.Memory error) = Memory error

abbrev pub of_walking : WalkFault → RepairFault
of_walking (walking.Parted v) = Parted v
of_walking (walking.Memory error) = Memory error
