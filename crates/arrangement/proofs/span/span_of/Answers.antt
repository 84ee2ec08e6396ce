use Rattle.std.proofs.Common.{◌≡◌, ◌∙◌, refl, true}
use Rattle.arrangement.specs.Spans.{is_proper}
use Rattle.arrangement.proofs.Filtered.{proper}
use Rattle.arrangement.proofs.span.span_of.Goals as goal

pub returns : goal.returns
returns g c =
    let passes : is_proper g.W.Whole.numbers.ring c.args.s ≡ true = cc in (
      passes,
      refl,
      record {
        usable = record { from = c.requires.from; to = c.requires.to; proper = proper g.W.Whole.numbers.ring c.args.s passes };
        left_is = c.vertex_at.ensures ∙ c.left_end.ensures.is;
        right_is = c.vertex_at-2.ensures ∙ c.right_end.ensures.is;
      },
    )
