use Rattle.std.specs.List.{AllWithin}
use Rattle.half_planes.specs.Extents.{Holds, IsExtentSize}
use Rattle.half_planes.proofs.extent.extent_of.Given as goal

abbrev pub invariant-loop-place : goal.invariant-loop-place
invariant-loop-place g l = record {
  small : IsExtentSize g.F.Ring.Whole.pair l.extent;
  held : AllWithin (λ v. Holds g.F.Ring.Whole.numbers.ring l.extent v) (g.F.FaceView.face l.face).corners 0 l.place;
}
