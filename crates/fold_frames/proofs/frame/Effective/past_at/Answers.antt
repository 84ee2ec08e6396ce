use Rattle.std.proofs.Common.{rules, sym, ◌<◌, ◌^◌}
use Rattle.fold_frames.proofs.Lengths.{short_list, place_fits}
use Rattle.fold_frames.proofs.frame.Effective.past_at.Goals as goal

pub overflow_cast-result : goal.overflow_cast-result
overflow_cast-result c =
    let value = c.in_ok-get.field-0.now in
    let few : c.in_ok-place.place < 2 ^ 32 =
    place_fits c.in_ok-known.known value c.in_ok-place.place (sym c.in_ok-place.ensures)
    (short_list value c.in_ok-get.ensures.fits.lists) in
    search rules
