use Rattle.fold_frames.proofs.Short.{short_in_effect}
use Rattle.fold_frames.proofs.laws.coordinates_are_short.Goals as goal

pub returns : goal.returns
returns c =
    λ most file is all. short_in_effect most file is (c.writable_entries.ensures.have file is) all
