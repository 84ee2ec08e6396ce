use Rattle.fold_frames.proofs.ByKey.{by_key}
use Rattle.fold_frames.proofs.laws.inherited_by_key.Goals as goal

pub returns : goal.returns
returns c =
    λ file is k entries are key value. by_key file.frames (c.writable_entries.ensures.have file is) k
    entries are key value
