use Rattle.std.proofs.Common.{rules}
use Rattle.std.specs.Prelude.{FitsSigned}
use Rattle.std.specs.Int.{w128}
use Rattle.std.proofs.lemmas.Int.{to_z-of_z}
use Rattle.exact_number.proofs.ExactParts.{lowest_parts}
use Rattle.exact_number.proofs.reduction.lowest_terms.Goals as goal

pub exact_part-requires-clause-divides : goal.exact_part-requires-clause-divides
exact_part-requires-clause-divides c =
    let fits : FitsSigned w128 c.common_factor-factor.result = search rules in
    rw (to_z-of_z w128 c.common_factor-factor.result fits) c.common_factor-factor.ensures.greatest.divides_a

pub exact_part-requires-2-clause-divides : goal.exact_part-requires-2-clause-divides
exact_part-requires-2-clause-divides c =
    let fits : FitsSigned w128 c.common_factor-factor.result = search rules in
    rw (to_z-of_z w128 c.common_factor-factor.result fits) c.common_factor-factor.ensures.greatest.divides_b

pub exact_part-requires-3-clause-divides : goal.exact_part-requires-3-clause-divides
exact_part-requires-3-clause-divides c =
    let fits : FitsSigned w128 c.common_factor-factor.result = search rules in
    rw (to_z-of_z w128 c.common_factor-factor.result fits) c.common_factor-factor.ensures.greatest.divides_q

pub returns : goal.returns
returns c =
    let fits : FitsSigned w128 c.common_factor-factor.result = search rules in
    let fits_a : FitsSigned w128 c.exact_part.result = search rules in
    let fits_b : FitsSigned w128 c.exact_part-2.result = search rules in
    let fits_q : FitsSigned w128 c.exact_part-3.result = search rules in
    rw (to_z-of_z w128 c.exact_part.result fits_a, to_z-of_z w128 c.exact_part-2.result fits_b, to_z-of_z w128 c.exact_part-3.result fits_q)
    (lowest_parts c.args.a c.args.b c.args.q c.exact_part.result c.exact_part-2.result c.exact_part-3.result c.common_factor-factor.result
    c.ranges.a c.ranges.b c.ranges.q fits c.requires c.common_factor-factor.ensures.positive c.common_factor-factor.ensures.greatest
    c.exact_part.ensures c.exact_part-2.ensures c.exact_part-3.ensures)
