use Rattle.std.proofs.Common.{◌∙◌, ap, rules, ℤ}
use Rattle.std.specs.Int.{w128}
use Rattle.std.proofs.lemmas.Int.{to_z-of_z}
use Rattle.algebra.specs.NumberFormulas.{difference}
use Rattle.algebra.proofs.NumberParts.{product_positive}
use Rattle.root_two.specs.Roots.{root_parts, root_numbers}
use Rattle.root_two.proofs.Forms.{to_wide}
use Rattle.root_two.proofs.Numbers.{positive_as, same_number}
use Rattle.root_two.proofs.number.RootExact.sub.Goals as goal

pub reduced-requires : goal.reduced-requires
reduced-requires g c =
    let in_q = to_z-of_z w128 c.in_ok-a.q (search rules) ∙ ap (λ (t : ℤ × ℤ × ℤ). t.2) c.in_ok-a.ensures.answer.1 in
    positive_as _ _ in_q (product_positive c.args.self.q c.args.other.q c.args.self.lowest.lowest.positive c.args.other.lowest.lowest.positive)

pub returns-clause-answer : goal.returns-clause-answer
returns-clause-answer g c =
    let in_a = to_z-of_z w128 c.in_ok-a.a (search rules) ∙ ap (λ (t : ℤ × ℤ × ℤ). t.0) c.in_ok-a.ensures.answer.1 in
    let in_b = to_z-of_z w128 c.in_ok-a.b (search rules) ∙ ap (λ (t : ℤ × ℤ × ℤ). t.1) c.in_ok-a.ensures.answer.1 in
    let in_q = to_z-of_z w128 c.in_ok-a.q (search rules) ∙ ap (λ (t : ℤ × ℤ × ℤ). t.2) c.in_ok-a.ensures.answer.1 in (
      to_wide g.R.Radicand _ _ c.in_ok-a.ensures.answer.0,
      same_number g.R.Radicand (difference (root_parts c.args.self) (root_parts c.args.other)) _ _ _ c.reduced.result _ in_a in_b in_q
          (product_positive c.args.self.q c.args.other.q c.args.self.lowest.lowest.positive c.args.other.lowest.lowest.positive) c.reduced.ensures ((root_numbers g.R.Radicand).difference_is c.args.self c.args.other),
    )
