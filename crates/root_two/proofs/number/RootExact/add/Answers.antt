use Rattle.std.proofs.Common.{◌∙◌, rules}
use Rattle.std.specs.Prelude.{FitsSigned}
use Rattle.std.specs.Int.{w128}
use Rattle.std.proofs.lemmas.Int.{to_z-of_z}
use Rattle.algebra.specs.NumberFormulas.{sum}
use Rattle.algebra.proofs.NumberParts.{product_positive}
use Rattle.exact_number.proofs.Answered.{refused}
use Rattle.root_two.specs.Roots.{root_parts, root_numbers}
use Rattle.root_two.proofs.Forms.{from_wide, to_wide}
use Rattle.root_two.proofs.Numbers.{positive_as, same_number}
use Rattle.root_two.proofs.number.RootExact.add.Goals as goal

pub returns-in_err-a-clause-answer : goal.returns-in_err-a-clause-answer
returns-in_err-a-clause-answer g c =
    let fits_self_a : FitsSigned w128 c.args.self.a = search rules in
    let fits_other_q : FitsSigned w128 c.args.other.q = search rules in
    let fits_other_a : FitsSigned w128 c.args.other.a = search rules in
    let fits_self_q : FitsSigned w128 c.args.self.q = search rules in
    let misfit = simp to_z-of_z at c.in_err-a.ensures.answer in
    refused c.from_residual.result _ _ c.from_residual.ensures.0 (λ wide. let all = from_wide g.R.Radicand _ _ wide in misfit (all.0, (all.1.0, (all.1.1.1.1.0, tt))))

pub returns-in_err-b-clause-answer : goal.returns-in_err-b-clause-answer
returns-in_err-b-clause-answer g c =
    let fits_self_b : FitsSigned w128 c.args.self.b = search rules in
    let fits_other_q : FitsSigned w128 c.args.other.q = search rules in
    let fits_other_b : FitsSigned w128 c.args.other.b = search rules in
    let fits_self_q : FitsSigned w128 c.args.self.q = search rules in
    let misfit = simp to_z-of_z at c.in_err-b.ensures.answer in
    refused c.from_residual-in_err-b.result _ _ c.from_residual-in_err-b.ensures.0 (λ wide. let all = from_wide g.R.Radicand _ _ wide in misfit (all.1.1.0, (all.1.1.1.0, (all.1.1.1.1.1.0, tt))))

pub returns-in_err-q-clause-answer : goal.returns-in_err-q-clause-answer
returns-in_err-q-clause-answer g c =
    let fits_self_q : FitsSigned w128 c.args.self.q = search rules in
    let fits_other_q : FitsSigned w128 c.args.other.q = search rules in
    let misfit = simp to_z-of_z at c.in_err-q.ensures.answer in
    refused c.from_residual-in_err-q.result _ _ c.from_residual-in_err-q.ensures.0 (λ wide. let all = from_wide g.R.Radicand _ _ wide in misfit all.1.1.1.1.1.1.0)

pub reduced-requires : goal.reduced-requires
reduced-requires g c =
    let fits_self_q : FitsSigned w128 c.args.self.q = search rules in
    let fits_other_q : FitsSigned w128 c.args.other.q = search rules in
    let fits_q : FitsSigned w128 c.in_ok-q.q = search rules in
    let q = simp to_z-of_z at c.in_ok-q.ensures.answer in
    positive_as _ _ (to_z-of_z w128 c.in_ok-q.q fits_q ∙ q.1) (product_positive c.args.self.q c.args.other.q c.args.self.lowest.lowest.positive c.args.other.lowest.lowest.positive)

pub returns-clause-answer : goal.returns-clause-answer
returns-clause-answer g c =
    let fits_self_a : FitsSigned w128 c.args.self.a = search rules in
    let fits_self_b : FitsSigned w128 c.args.self.b = search rules in
    let fits_self_q : FitsSigned w128 c.args.self.q = search rules in
    let fits_other_a : FitsSigned w128 c.args.other.a = search rules in
    let fits_other_b : FitsSigned w128 c.args.other.b = search rules in
    let fits_other_q : FitsSigned w128 c.args.other.q = search rules in
    let fits_a : FitsSigned w128 c.in_ok-a.a = search rules in
    let a = simp to_z-of_z at c.in_ok-a.ensures.answer in
    let fits_b : FitsSigned w128 c.in_ok-b.b = search rules in
    let b = simp to_z-of_z at c.in_ok-b.ensures.answer in
    let fits_q : FitsSigned w128 c.in_ok-q.q = search rules in
    let q = simp to_z-of_z at c.in_ok-q.ensures.answer in (
      to_wide g.R.Radicand _ _ (a.0.0, (a.0.1.0, (b.0.0, (b.0.1.0, (a.0.1.1.0, (b.0.1.1.0, (q.0, tt))))))),
      same_number g.R.Radicand (sum (root_parts c.args.self) (root_parts c.args.other)) _ _ _ c.reduced.result _ (to_z-of_z w128 c.in_ok-a.a fits_a ∙ a.1) (to_z-of_z w128 c.in_ok-b.b fits_b ∙ b.1) (to_z-of_z w128 c.in_ok-q.q fits_q ∙ q.1)
          (product_positive c.args.self.q c.args.other.q c.args.self.lowest.lowest.positive c.args.other.lowest.lowest.positive) c.reduced.ensures ((root_numbers g.R.Radicand).sum_is c.args.self c.args.other),
    )
