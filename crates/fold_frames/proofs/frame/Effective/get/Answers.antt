use Rattle.std.proofs.Common.{◌∙◌, ap, true}
use Rattle.fold_keys.specs.Writable.{IsWritableEntry}
use Rattle.fold_frames.specs.Parents.{value_at}
use Rattle.fold_frames.proofs.Found.{found_under}
use Rattle.fold_frames.proofs.frame.Effective.get.Goals as goal

pub returns-clause-fits : goal.returns-clause-fits
returns-clause-fits c =
    found_under (IsWritableEntry true) _ c.args.key.now c.value_at.result c.self.invariant.writable.each
    (c.value_at.ensures ∙ ap (λ es. value_at es c.args.key.now) c.as_slice.ensures)
