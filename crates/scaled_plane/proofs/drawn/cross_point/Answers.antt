use Rattle.std.proofs.Common.{◌≡◌, ◌∙◌, sym, ap₂, subst, inr}
use Rattle.std.specs.declared.cmp.Ordering.TheVariants.{Equal}
use Rattle.plane.specs.Points.{IsPoint}
use Rattle.plane.specs.Lines.{as_point, meeting, side}
use Rattle.plane.proofs.Crossings.{crossing_point, crossing_on_first, crossing_on_second}
use Rattle.scaled_plane.proofs.drawn.cross_point.Goals as goal

pub returns-clause-crossing : goal.returns-clause-crossing
returns-clause-crossing g c =
    let K = g.W.Whole.numbers.ring in
    c.crossing_of.ensures ∙ ap₂ (λ l m. as_point K (meeting K.ops l m)) c.line_through.ensures.value c.line_through-2.ensures.value

pub returns-clause-drawn : goal.returns-clause-drawn
returns-clause-drawn g c =
    inr (record {
      a = c.args.s.from;
      b = c.args.s.to;
      c = c.args.t.from;
      d = c.args.t.to;
      a_scaled = c.requires.first.from;
      b_scaled = c.requires.first.to;
      c_scaled = c.requires.second.from;
      d_scaled = c.requires.second.to;
      not_parallel = c.requires.not_parallel;
      is = returns-clause-crossing g c;
    })

pub returns-clause-point : goal.returns-clause-point
returns-clause-point g c =
    let K = g.W.Whole.numbers.ring in
    subst (IsPoint K) (sym (returns-clause-crossing g c)) (crossing_point K c.args.s.from c.args.s.to c.args.t.from c.args.t.to c.requires.not_parallel)

pub returns-clause-on_first : goal.returns-clause-on_first
returns-clause-on_first g c =
    let K = g.W.Whole.numbers.ring in
    subst (λ p. side K c.args.s.from c.args.s.to p ≡ Equal) (sym (returns-clause-crossing g c)) (crossing_on_first K c.args.s.from c.args.s.to c.args.t.from c.args.t.to)

pub returns-clause-on_second : goal.returns-clause-on_second
returns-clause-on_second g c =
    let K = g.W.Whole.numbers.ring in
    subst (λ p. side K c.args.t.from c.args.t.to p ≡ Equal) (sym (returns-clause-crossing g c)) (crossing_on_second K c.args.s.from c.args.s.to c.args.t.from c.args.t.to)
