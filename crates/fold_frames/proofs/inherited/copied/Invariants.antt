use Rattle.std.proofs.Common.{◌≡◌, map}
use Rattle.std.specs.Map.Iter.{deref_pair}
use Rattle.fold_frames.specs.Inherits.{pairs}
use Rattle.fold_frames.proofs.inherited.copied.Given as goal

abbrev pub invariant-loop-key : goal.invariant-loop-key
invariant-loop-key l = pairs l.entries ≡ map (λ e. (e.0.now, e.1.now)) (map deref_pair l.yielded)
