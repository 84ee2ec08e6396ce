use Rattle.std.proofs.Common.{sym, subst, pos, ◌<ℤ◌, rules}
use Rattle.std.specs.Prelude.{FitsSigned}
use Rattle.std.specs.Int.{w128}
use Rattle.std.proofs.lemmas.Int.{to_z-of_z}
use Rattle.rational.proofs.Reduced.{reduced_number}
use Rattle.rational.proofs.field.reduced.Goals as goal

pub invariant_of-result : goal.invariant_of-result
invariant_of-result c =
    let fits_a : FitsSigned w128 c.lowest_terms-numerator.result.0 = search rules in
    let fits_q : FitsSigned w128 c.lowest_terms-numerator.result.2 = search rules in
    let is = reduced_number _ _ _ _ _ (subst (λ q. pos 0 <ℤ q) (sym (to_z-of_z w128 c.args.q c.ranges.q)) c.requires) c.lowest_terms-numerator.ensures in
    record { lowest = rw (to_z-of_z w128 c.lowest_terms-numerator.result.0 fits_a, to_z-of_z w128 c.lowest_terms-numerator.result.2 fits_q) is }
