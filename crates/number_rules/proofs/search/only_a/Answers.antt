use Rattle.std.proofs.Common.{rules, ◌∙◌, ap, FitsSigned, pos, ◌-ℤ◌, ◌≡◌}
use Rattle.std.specs.Int.{w128, int_div_euclid, cast_signed, cast_unsigned}
use Rattle.std.proofs.lemmas.Int.{to_z-of_z}
use Rattle.number_rules.specs.Search.{start, multiple_of}
use Rattle.number_rules.proofs.RootSearch.{quotient_of, quotient_small}
use Rattle.number_rules.proofs.search.only_a.Goals as goal

pub returns-clause-within : goal.returns-clause-within
returns-clause-within c =
    let fits : FitsSigned w128 c.left_at.result = search rules in
    let fits_q : FitsSigned w128 c.div_euclid.result = search rules in
    quotient_small c.left_at.result (cast_signed w128 (cast_unsigned w128 c.div_euclid.result)) c.left_at.ensures.within
    (to_z-of_z w128 c.div_euclid.result fits_q ∙ c.div_euclid.ensures ∙ ap (λ z. int_div_euclid z (pos 1000000000000000000)) (to_z-of_z w128 c.left_at.result fits))

pub returns-clause-value : goal.returns-clause-value
returns-clause-value c =
    let fits : FitsSigned w128 c.left_at.result = search rules in
    let fits_q : FitsSigned w128 c.div_euclid.result = search rules in
    let near_fits : FitsSigned w128 c.args.near = c.ranges.near in
    let b_fits : FitsSigned w128 c.args.b = c.ranges.b in
    let left : c.left_at.result ≡ start c.args.n c.args.near -ℤ multiple_of c.args.fraction c.args.b = simp to_z-of_z at c.left_at.ensures.value in
    quotient_of c.left_at.result (start c.args.n c.args.near -ℤ multiple_of c.args.fraction c.args.b) (cast_signed w128 (cast_unsigned w128 c.div_euclid.result)) left
    (to_z-of_z w128 c.div_euclid.result fits_q ∙ c.div_euclid.ensures ∙ ap (λ z. int_div_euclid z (pos 1000000000000000000)) (to_z-of_z w128 c.left_at.result fits))
