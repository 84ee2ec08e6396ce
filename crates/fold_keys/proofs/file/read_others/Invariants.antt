use Rattle.std.proofs.Common.{◌≡◌, None}
use Rattle.fold_keys.specs.Along.{first_along}
use Rattle.fold_keys.specs.Shape.{misfit_of_frame}
use Rattle.fold_keys.proofs.OtherFrames.{AreRead}
use Rattle.fold_keys.proofs.file.read_others.Given as goal

abbrev pub invariant-loop-tree : goal.invariant-loop-tree
invariant-loop-tree l = record {
  read : AreRead l.fn.first l.frames l.yielded;
  fit : first_along misfit_of_frame 1 l.yielded ≡ None;
}
