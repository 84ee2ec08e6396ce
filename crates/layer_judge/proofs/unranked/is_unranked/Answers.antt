use Rattle.layer_judge.proofs.unranked.is_unranked.Goals as goal

pub returns : goal.returns
returns g c = (
  (λ t. record {
    ordered = c.requires.ordered;
    overlap = c.faces_overlap.ensures.0 t;
    not_above = λ h. let a = c.is_above.ensures.1 h in let b = c.if-is_above.false in cc;
    not_below = λ h. let a = c.is_above-2.ensures.1 h in let b = c.if-is_above-2.false in cc;
  }),
  (λ r. c.faces_overlap.ensures.1 r.overlap),
)
