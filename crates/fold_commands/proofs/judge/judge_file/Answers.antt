use Rattle.fold_frames.specs.Answers.{IsEffective}
use Rattle.fold_commands.specs.Frames.{HasNoFrame}
use Rattle.fold_commands.specs.Judges.{JudgesFrames}
use Rattle.fold_commands.specs.Steps.{Then}
use Rattle.fold_commands.proofs.Chain.{goes_on}
use Rattle.fold_commands.proofs.Repairing.{readable}
use Rattle.fold_commands.proofs.judge.judge_file.Goals as goal

pub judge_frames-requires : goal.judge_frames-requires
judge_frames-requires c =
    readable c.args.file.now c.args.options.now.frame c.in_ok-frame.frame c.in_ok-frame.ensures c.requires.short
    (λ most short points is. c.coordinates_are_short.ensures most c.args.file.now c.requires.writable short c.args.options.now.frame
    c.in_ok-frame.frame.entries c.in_ok-frame.ensures.1 _ points is)

pub returns : goal.returns
returns c =
    let file = c.args.file.now in
    let options = c.args.options.now in
    goes_on (HasNoFrame file options.frame) (IsEffective file.frames options.frame)
    (λ frame. Then (HasNoFrame file options.orders) (IsEffective file.frames options.orders) (JudgesFrames options.number frame))
    c.in_ok-frame.frame c.in_ok-frame.ensures c.judge_frames.result
    (goes_on (HasNoFrame file options.orders) (IsEffective file.frames options.orders) (JudgesFrames options.number c.in_ok-frame.frame)
    c.in_ok-ordered.ordered c.in_ok-ordered.ensures c.judge_frames.result c.judge_frames.ensures)
