use Rattle.std.proofs.Common.{◌∙◌, map, sym}
use Rattle.arrangement.proofs.Filtered.{not_proper, proper}
use Rattle.arrangement.proofs.Knowing.{none_of_improper}
use Rattle.arrangement.proofs.cutting.cut_proper.Goals as goal

pub cut_segment-requires-clause-usable : goal.cut_segment-requires-clause-usable
cut_segment-requires-clause-usable g c = record {
  from = c.requires.scaled.from;
  to = c.requires.scaled.to;
  proper = proper g.W.Whole.numbers.ring c.args.s (sym c.is_proper.ensures ∙ c.if-is_proper.true);
}

pub cut_segment-requires-clause-has : goal.cut_segment-requires-clause-has
cut_segment-requires-clause-has g c = c.requires.has (proper g.W.Whole.numbers.ring c.args.s (sym c.is_proper.ensures ∙ c.if-is_proper.true))

pub returns-else-is_proper : goal.returns-else-is_proper
returns-else-is_proper g c = λ segments before.
    none_of_improper g.W.Whole.numbers.ring (map (λ v. v.point) c.args.vertices.now) segments c.args.s
    (not_proper g.W.Whole.numbers.ring c.args.s (sym c.is_proper.ensures ∙ c.if-is_proper.false)) c.args.covers.now before
