use Rattle.fold_keys.proofs.Parts.{few_frames, frames_have, entries_make}
use Rattle.fold_keys.proofs.laws.writable_entries.Goals as goal

pub returns : goal.returns
returns c = record { few = few_frames; have = frames_have; make = entries_make }
