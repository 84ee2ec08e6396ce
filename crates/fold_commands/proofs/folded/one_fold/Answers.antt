use Rattle.fold_commands.proofs.OneFold.{folded_once}
use Rattle.fold_commands.proofs.folded.one_fold.Goals as goal

pub returns : goal.returns
returns g c = folded_once g.N.Exact.ROOT g.N.Exact.parts g.N.Exact.numbers g.N.Ring.Whole.numbers (record {
  frame = c.one_drawing.ensures.answer;
  frame_cause = c.one_drawing.ensures.reason;
  frames_apart = c.one_drawing.ensures.not_both;
  layout = c.one_layout.ensures.layout;
  reason = c.one_layout.ensures.reason;
  layouts_apart = c.one_layout.ensures.not_both;
  file = c.one_form.ensures.file;
  verdict = c.one_verdict.ensures.verdict;
  refusal = c.one_verdict.ensures.refusal;
  verdicts_apart = c.one_verdict.ensures.not_both;
})
