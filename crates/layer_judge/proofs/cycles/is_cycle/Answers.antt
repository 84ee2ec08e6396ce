use Rattle.std.proofs.Common.{◌∙◌, sym}
use Rattle.layer_judge.proofs.cycles.is_cycle.Goals.{then-is_above, else-is_above, then-is_above-2, else-is_above-2}
use Rattle.layer_judge.proofs.cycles.is_cycle.Goals as goal

pub returns-then-is_above-3 : goal.returns-then-is_above-3
returns-then-is_above-3 g c =
    elim c.if-is_above-2.branch [
      | then-is_above-2 w ↦ elim c.if-is_above.branch [
        | then-is_above v ↦
            let fg = c.is_above.ensures.0 v.if-is_above.true in
            let gh = v.is_above-then-is_above.ensures.0 (sym v.value-is ∙ w.if-is_above-2.true) in
            let hf = w.is_above-then-is_above-2.ensures.0 (sym w.value-is ∙ c.if-is_above-3.true) in
            ((λ t. record { least = (c.requires.second, c.requires.third); around = (fg, gh, hf); overlap = c.three_overlap.ensures.0 t }), (λ r. c.three_overlap.ensures.1 r.overlap))
        | else-is_above v ↦ let a = w.if-is_above-2.true in let b = v.value-is in absurd (cc)
      ]
      | else-is_above-2 w ↦ let a = c.if-is_above-3.true in let b = w.value-is in absurd (cc)
    ]
