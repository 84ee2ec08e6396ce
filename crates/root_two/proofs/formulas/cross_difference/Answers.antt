use Rattle.std.proofs.Common.{◌-ℤ◌, ◌*ℤ◌, [], ◌∷◌, ap₂, rules}
use Rattle.std.specs.Prelude.{FitsSigned}
use Rattle.std.specs.Int.{w128}
use Rattle.std.proofs.lemmas.Int.{to_z-of_z}
use Rattle.root_two.proofs.Forms.{last_formed}
use Rattle.root_two.proofs.formulas.cross_difference.Goals as goal

pub returns-clause-answer : goal.returns-clause-answer
returns-clause-answer c =
    let fits_a : FitsSigned w128 c.args.a = c.ranges.a in
    let fits_b : FitsSigned w128 c.args.b = c.ranges.b in
    let fits_c : FitsSigned w128 c.args.c = c.ranges.c in
    let fits_d : FitsSigned w128 c.args.d = c.ranges.d in
    let fits_first : FitsSigned w128 c.in_ok-first.first = search rules in
    let fits_second : FitsSigned w128 c.in_ok-second.second = search rules in
    let first = simp to_z-of_z at c.in_ok-first.ensures.answer in
    let second = simp to_z-of_z at c.in_ok-second.ensures.answer in
    last_formed c.difference.result ((c.args.a *ℤ c.args.d) ∷ (c.args.b *ℤ c.args.c) ∷ []) _ _ (ap₂ ◌-ℤ◌ first.1 second.1) (first.0, (second.0, tt))
    (simp to_z-of_z at c.difference.ensures.answer)
