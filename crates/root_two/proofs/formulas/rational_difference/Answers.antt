use Rattle.std.proofs.Common.{◌-ℤ◌, ◌*ℤ◌, [], ◌∷◌, ◌∙◌, pos, ap₂, subst, rules}
use Rattle.std.specs.Prelude.{FitsSigned}
use Rattle.std.specs.Int.{w128}
use Rattle.std.proofs.lemmas.Int.{to_z-of_z}
use Rattle.root_two.proofs.Forms.{last_formed}
use Rattle.root_two.proofs.formulas.rational_difference.Goals as goal

pub returns-clause-answer : goal.returns-clause-answer
returns-clause-answer g c =
    let fits_a : FitsSigned w128 c.args.a = c.ranges.a in
    let fits_b : FitsSigned w128 c.args.b = c.ranges.b in
    let fits_c : FitsSigned w128 c.args.c = c.ranges.c in
    let fits_d : FitsSigned w128 c.args.d = c.ranges.d in
    let fits_k : FitsSigned w128 c.square.result = search rules in
    let fits_rational : FitsSigned w128 c.in_ok-rational.rational = search rules in
    let fits_irrational : FitsSigned w128 c.in_ok-irrational.irrational = search rules in
    let fits_squared : FitsSigned w128 c.in_ok-squared.squared = search rules in
    let rational = simp to_z-of_z at c.in_ok-rational.ensures.answer in
    let irrational = simp to_z-of_z at c.in_ok-irrational.ensures.answer in
    let squared = simp to_z-of_z at c.in_ok-squared.ensures.answer in
    let times_k = ap₂ ◌*ℤ◌ c.square.ensures irrational.1 in
    last_formed c.difference.result ((c.args.a *ℤ c.args.c) ∷ (c.args.b *ℤ c.args.d) ∷ (pos g.R.Radicand.K *ℤ (c.args.b *ℤ c.args.d)) ∷ []) _ _ (ap₂ ◌-ℤ◌ rational.1 (squared.1 ∙ times_k))
    (rational.0, (irrational.0, (subst (FitsSigned w128) times_k squared.0, tt))) (simp to_z-of_z at c.difference.ensures.answer)
