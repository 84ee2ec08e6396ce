use Rattle.layer_judge.proofs.said.opposes.Goals as goal

pub returns-in-None : goal.returns-in-None
returns-in-None g c = ((λ t. cc), (λ s. absurd (c.in-None.ensures _ _ s)))

pub returns-in-Some : goal.returns-in-Some
returns-in-Some g c = (
  (λ t. let e = c.are_turned.ensures.0 t in (c.in-Some.ensures _ _).1 (e.1, e.0)),
  (λ s. let e = (c.in-Some.ensures _ _).0 s in c.are_turned.ensures.1 (e.1, e.0)),
)
