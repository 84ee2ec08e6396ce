use Rattle.std.proofs.Common.{◌∙◌, ap, sym, subst, rules, ℤ, ◌*ℤ◌}
use Rattle.std.specs.Prelude.{FitsSigned}
use Rattle.std.specs.Int.{w128}
use Rattle.std.proofs.lemmas.Int.{to_z-of_z}
use Rattle.exact_number.proofs.Answered.{refused}
use Rattle.root_two.proofs.Forms.{three_then, four_then}
use Rattle.root_two.proofs.number.Root.over_norm.Goals as goal

pub returns-in_err-a-clause-answer : goal.returns-in_err-a-clause-answer
returns-in_err-a-clause-answer g c =
    let fits_self_a : FitsSigned w128 c.args.self.a = search rules in
    let fits_other_a : FitsSigned w128 c.args.other.a = search rules in
    let fits_self_b : FitsSigned w128 c.args.self.b = search rules in
    let fits_other_b : FitsSigned w128 c.args.other.b = search rules in
    let misfit = simp to_z-of_z at c.in_err-a.ensures.answer in
    refused c.from_residual-in_err-a.result _ _ c.from_residual-in_err-a.ensures.0 (λ all. misfit (all.1.1.1.1.0, (all.1.1.1.1.1.0, (all.1.1.1.1.1.1.0, (all.1.1.1.1.1.1.1.0, tt)))))

pub returns-in_err-b-clause-answer : goal.returns-in_err-b-clause-answer
returns-in_err-b-clause-answer g c =
    let fits_self_a : FitsSigned w128 c.args.self.a = search rules in
    let fits_other_a : FitsSigned w128 c.args.other.a = search rules in
    let fits_self_b : FitsSigned w128 c.args.self.b = search rules in
    let fits_other_b : FitsSigned w128 c.args.other.b = search rules in
    let misfit = simp to_z-of_z at c.in_err-b.ensures.answer in
    refused c.from_residual-in_err-b.result _ _ c.from_residual-in_err-b.ensures.0 (λ all. misfit (all.1.1.1.1.1.1.1.1.0, (all.1.1.1.1.1.1.1.1.1.0, (all.1.1.1.1.1.1.1.1.1.1.0, tt))))

pub returns-in_err-product-clause-answer : goal.returns-in_err-product-clause-answer
returns-in_err-product-clause-answer g c =
    let fits_self_a : FitsSigned w128 c.args.self.a = search rules in
    let fits_other_a : FitsSigned w128 c.args.other.a = search rules in
    let fits_self_b : FitsSigned w128 c.args.self.b = search rules in
    let fits_other_b : FitsSigned w128 c.args.other.b = search rules in
    let fits_other_q : FitsSigned w128 c.args.other.q = search rules in
    let fits_a : FitsSigned w128 c.in_ok-a.a = search rules in
    let a = simp to_z-of_z at c.in_ok-a.ensures.answer in
    let misfit = simp to_z-of_z at c.in_err-product.ensures.answer in
    refused c.from_residual-in_err-product.result _ _ c.from_residual-in_err-product.ensures.0 (λ all. misfit (subst (λ (t : ℤ). FitsSigned w128 (t *ℤ c.args.other.q)) (sym a.1) all.1.1.1.1.1.1.1.1.1.1.1.0))

pub returns-in_err-product-2-clause-answer : goal.returns-in_err-product-2-clause-answer
returns-in_err-product-2-clause-answer g c =
    let fits_self_a : FitsSigned w128 c.args.self.a = search rules in
    let fits_other_a : FitsSigned w128 c.args.other.a = search rules in
    let fits_self_b : FitsSigned w128 c.args.self.b = search rules in
    let fits_other_b : FitsSigned w128 c.args.other.b = search rules in
    let fits_other_q : FitsSigned w128 c.args.other.q = search rules in
    let fits_b : FitsSigned w128 c.in_ok-b.b = search rules in
    let b = simp to_z-of_z at c.in_ok-b.ensures.answer in
    let misfit = simp to_z-of_z at c.in_err-product-2.ensures.answer in
    refused c.from_residual-in_err-product-2.result _ _ c.from_residual-in_err-product-2.ensures.0 (λ all. misfit (subst (λ (t : ℤ). FitsSigned w128 (t *ℤ c.args.other.q)) (sym b.1) all.1.1.1.1.1.1.1.1.1.1.1.1.0))

pub returns-in_err-product-3-clause-answer : goal.returns-in_err-product-3-clause-answer
returns-in_err-product-3-clause-answer g c =
    let fits_other_a : FitsSigned w128 c.args.other.a = search rules in
    let fits_other_b : FitsSigned w128 c.args.other.b = search rules in
    let fits_self_q : FitsSigned w128 c.args.self.q = search rules in
    let fits_norm : FitsSigned w128 c.in_ok-norm.norm = search rules in
    let norm = simp to_z-of_z at c.in_ok-norm.ensures.answer in
    let misfit = simp to_z-of_z at c.in_err-product-3.ensures.answer in
    refused c.from_residual-in_err-product-3.result _ _ c.from_residual-in_err-product-3.ensures.0 (λ all. misfit (subst (λ (t : ℤ). FitsSigned w128 (c.args.self.q *ℤ t)) (sym norm.1) all.1.1.1.1.1.1.1.1.1.1.1.1.1.0))

pub returns-clause-answer : goal.returns-clause-answer
returns-clause-answer g c =
    let fits_self_a : FitsSigned w128 c.args.self.a = search rules in
    let fits_self_b : FitsSigned w128 c.args.self.b = search rules in
    let fits_self_q : FitsSigned w128 c.args.self.q = search rules in
    let fits_other_a : FitsSigned w128 c.args.other.a = search rules in
    let fits_other_b : FitsSigned w128 c.args.other.b = search rules in
    let fits_other_q : FitsSigned w128 c.args.other.q = search rules in
    let fits_norm : FitsSigned w128 c.in_ok-norm.norm = search rules in
    let norm = simp to_z-of_z at c.in_ok-norm.ensures.answer in
    let fits_a : FitsSigned w128 c.in_ok-a.a = search rules in
    let a = simp to_z-of_z at c.in_ok-a.ensures.answer in
    let fits_b : FitsSigned w128 c.in_ok-b.b = search rules in
    let b = simp to_z-of_z at c.in_ok-b.ensures.answer in
    let first = simp to_z-of_z at c.in_ok-product.ensures.answer in
    let second = simp to_z-of_z at c.in_ok-product-2.ensures.answer in
    let third = simp to_z-of_z at c.in_ok-product-3.ensures.answer in
    let first_is = ap (λ t. t *ℤ c.args.other.q) a.1 in
    let second_is = ap (λ t. t *ℤ c.args.other.q) b.1 in
    let third_is = ap (λ t. c.args.self.q *ℤ t) norm.1 in
    let in_a = to_z-of_z w128 c.in_ok-product.field-0 (search rules) ∙ first.1 ∙ first_is in
    let in_b = to_z-of_z w128 c.in_ok-product-2.field-0 (search rules) ∙ second.1 ∙ second_is in
    let in_q = to_z-of_z w128 c.in_ok-product-3.field-0 (search rules) ∙ third.1 ∙ third_is in (
      four_then norm.0 (four_then a.0 (three_then b.0
          (subst (FitsSigned w128) first_is first.0, (subst (FitsSigned w128) second_is second.0, (subst (FitsSigned w128) third_is third.0, tt))))),
      λ i. (in_a i, in_b i, in_q i),
    )
