use Rattle.std.proofs.Common.{rules, ◌≡◌, ◌++◌, ◌∷◌, []}
use Rattle.frame_lines.proofs.Agree.{line_more, all_lines}
use Rattle.frame_lines.proofs.lines.lines_of.Goals as goal

pub loop-place-preserved : goal.loop-place-preserved
loop-place-preserved c =
    line_more c.args.points.now c.args.edges.now c.args.letters.now c.requires.letters c.loop-place.place _ c.loop-place.lines c.push.new.self
    c.in_ok-line_of.field-0 c.loop-place.invariant (search rules) c.loop-place-test.true c.in_ok-line_of.ensures

pub returns : goal.returns
returns c = record {
  lines = all_lines c.args.points.now c.args.edges.now c.args.letters.now c.requires.letters c.loop-place.place c.loop-place.lines c.loop-place.invariant c.loop-place-test.false;
}
