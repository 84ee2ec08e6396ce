use Rattle.fold_commands.proofs.Repairing.{readable}
use Rattle.fold_commands.proofs.fold.fold_file.Goals as goal

pub fold_frame-requires : goal.fold_frame-requires
fold_frame-requires c =
    readable c.args.file.now c.args.options.now.frame c.in_ok-frame.frame c.in_ok-frame.ensures c.requires.short
    (λ most short points is. c.coordinates_are_short.ensures most c.args.file.now c.requires.writable short c.args.options.now.frame
    c.in_ok-frame.frame.entries c.in_ok-frame.ensures.1 _ points is)
