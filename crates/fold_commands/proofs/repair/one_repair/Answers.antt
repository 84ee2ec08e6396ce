use Rattle.fold_commands.proofs.OneRepair.{repaired_once}
use Rattle.fold_commands.proofs.repair.one_repair.Goals as goal

pub returns : goal.returns
returns g c = repaired_once _ _ _ (record {
  ends = c.one_reading.ensures.ends;
  unread = c.one_reading.ensures.unread;
  lines_apart = c.one_reading.ensures.not_both;
  frame = c.one_drawing.ensures.answer;
  frame_cause = c.one_drawing.ensures.reason;
  frames_apart = c.one_drawing.ensures.not_both;
  answer = λ flat ends faces a b. c.one_drawing-2.ensures.answer flat ends faces a b;
  reason = λ flat ends faces e f. c.one_drawing-2.ensures.reason flat ends faces e f;
  drawings_apart = λ flat ends faces a f. c.one_drawing-2.ensures.not_both flat ends faces a f;
  file = c.one_file.ensures.once;
  edges = c.one_list_of_lines.ensures.once;
})
