use Rattle.std.proofs.Common.{◌≡◌, map, take}
use Rattle.number_rules.specs.ExactText.{exact_text_of}
use Rattle.crease_input.proofs.texts.exact_texts.Given as goal

abbrev pub invariant-loop-point : goal.invariant-loop-point
invariant-loop-point g l =
    l.texts
    ≡ map (λ p. (exact_text_of g.N.Exact.ROOT (g.N.Exact.parts p.x), exact_text_of g.N.Exact.ROOT (g.N.Exact.parts p.y)))
    (take l.point-index l.coords)
