use Rattle.std.proofs.Common.{rules, subst, sym, ◌∙◌, ap, FitsSigned, pos, ℤ, ◌≡◌}
use Rattle.std.specs.Prelude.{unsigned_abs}
use Rattle.std.specs.Int.{w128, int_rem_euclid}
use Rattle.std.proofs.lemmas.Int.{to_z-of_z}
use Rattle.number_rules.specs.Search.{IsRest, start}
use Rattle.number_rules.proofs.RootSearch.{rest_of}
use Rattle.number_rules.proofs.search.first_rest.Goals as goal

pub returns-clause-value : goal.returns-clause-value
returns-clause-value c =
    let near_fits : FitsSigned w128 c.args.near = c.ranges.near in
    let fits : FitsSigned w128 c.start_of.result = search rules in
    let fits_rem : FitsSigned w128 c.rem_euclid.result = search rules in
    let e : c.rem_euclid.result ≡ int_rem_euclid (start c.args.n c.args.near) (pos 1000000000000000000)
    = c.rem_euclid.ensures.value ∙ ap (λ z. int_rem_euclid z (pos 1000000000000000000)) (to_z-of_z w128 c.start_of.result fits ∙ simp to_z-of_z at c.start_of.ensures.value) in
    subst (λ (r : ℤ). IsRest (start c.args.n c.args.near) (unsigned_abs r)) (sym (to_z-of_z w128 c.rem_euclid.result fits_rem)) (rest_of (start c.args.n c.args.near) c.rem_euclid.result e)
