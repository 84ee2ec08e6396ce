use Rattle.std.proofs.Common.{rules, ◌∙◌, sym, inl, inr}
use Rattle.scaled_plane.proofs.Conjugates.{conjugate_is, opposite_is, other_positive, conjugate_made, opposite_made}
use Rattle.scaled_plane.proofs.exact.positive_conjugate.Goals as goal

pub returns-in-Greater-clause-conjugate : goal.returns-in-Greater-clause-conjugate
returns-in-Greater-clause-conjugate g c =
    let w = g.W.Whole.pair c.args.w in
    let a = c.pair-a.result.0 in
    let b = c.pair-a.result.1 in
    conjugate_is a b w (g.W.Whole.pair c.whole-conjugate.result) c.pair-a.ensures
    (conjugate_made a b w (g.W.Whole.pair c.whole-conjugate.result) (search rules) (search rules) c.pair-a.ensures c.requires.small c.whole-conjugate.ensures)

pub returns-in-Less : goal.returns-in-Less
returns-in-Less g c =
    let w = g.W.Whole.pair c.args.w in
    let a = c.pair-a.result.0 in
    let b = c.pair-a.result.1 in
    let conjugate = conjugate_made a b w (g.W.Whole.pair c.whole-conjugate.result) (search rules) (search rules) c.pair-a.ensures c.requires.small c.whole-conjugate.ensures in
    let opposite = opposite_made a b w (g.W.Whole.pair c.whole.result) (search rules) (search rules) c.pair-a.ensures c.requires.small c.whole.ensures in
    record {
      positive = other_positive g.W.Whole.numbers g.met.W.Whole.holds c.args.w c.whole-conjugate.result c.whole.result a b c.requires.positive c.pair-a.ensures conjugate opposite
          (elim c.in-Less.is [ inl e ↦ inl (sym c.sign.ensures ∙ e) | inr e ↦ inr (sym c.sign.ensures ∙ e) ]);
      conjugate = opposite_is a b w (g.W.Whole.pair c.whole.result) c.pair-a.ensures opposite;
    }
