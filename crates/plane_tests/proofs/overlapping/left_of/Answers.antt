use Rattle.plane_tests.proofs.overlapping.left_of.Goals as goal

pub returns : goal.returns
returns g c = record {
  from = c.args.from;
  to = c.args.to;
  from_scaled = c.requires.from;
  to_scaled = c.requires.to;
  is = c.line_through.ensures.value;
}
