use Rattle.std.proofs.Common.{◌∙◌, ap, ap₂, rules, ℤ, pos}
use Rattle.std.specs.Int.{w128}
use Rattle.std.proofs.lemmas.Int.{to_z-of_z}
use Rattle.algebra.specs.NumberFormulas.{parts_sign}
use Rattle.root_two.proofs.Forms.{to_wide}
use Rattle.root_two.proofs.Numbers.{sign_of_difference}
use Rattle.root_two.proofs.number.RootExact.compare.Goals as goal

pub returns-clause-answer : goal.returns-clause-answer
returns-clause-answer g c =
    let in_a = to_z-of_z w128 c.in_ok-a.a (search rules) ∙ ap (λ (t : ℤ × ℤ × ℤ). t.0) c.in_ok-a.ensures.answer.1 in
    let in_b = to_z-of_z w128 c.in_ok-a.b (search rules) ∙ ap (λ (t : ℤ × ℤ × ℤ). t.1) c.in_ok-a.ensures.answer.1 in
    (to_wide g.R.Radicand _ _ c.in_ok-a.ensures.answer.0, c.sign_of.ensures ∙ ap₂ (λ m n. parts_sign g.R.Radicand.K (record { a = m; b = n; q = pos 1 })) in_a in_b ∙ sign_of_difference g.R.Radicand c.args.self c.args.other)
