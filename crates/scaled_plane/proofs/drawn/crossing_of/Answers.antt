use Rattle.std.proofs.Common.{◌≡◌, ◌∙◌, sym, ap}
use Rattle.std.specs.declared.cmp.Ordering.TheVariants.{Less}
use Rattle.plane.specs.Lines.{meeting}
use Rattle.plane.proofs.Crossings.{meeting_back}
use Rattle.scaled_plane.proofs.drawn.crossing_of.Goals as goal

pub returns-in-Less : goal.returns-in-Less
returns-in-Less g c =
    let K = g.W.Whole.numbers.ring in
    let below : K.sign (meeting K.ops c.args.l c.args.m).w ≡ Less
    = ap (λ p. K.sign p.w) (sym c.meeting_of-point.ensures) ∙ sym c.sign.ensures ∙ c.in-Less.is in
    c.meeting_of.ensures ∙ meeting_back K c.args.l c.args.m below
