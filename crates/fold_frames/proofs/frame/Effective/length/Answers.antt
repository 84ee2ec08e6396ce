use Rattle.fold_frames.proofs.Lengths.{short_list}
use Rattle.fold_frames.proofs.frame.Effective.length.Goals as goal

pub length_of-requires : goal.length_of-requires
length_of-requires c = short_list _ c.in_ok-get.ensures.fits.lists
