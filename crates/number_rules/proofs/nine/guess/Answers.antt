use Rattle.std.proofs.Common.{arith, sym, subst, pos, ◌≤◌, ◌^◌, ◌<ℤ◌}
use Rattle.std.specs.Prelude.{unsigned_abs}
use Rattle.std.proofs.lemmas.Int.{ints}
use Rattle.algebra.specs.LowestTerms.{Parts}
use Rattle.number_rules.proofs.nine.guess.Goals as goal

pub div_euclid-requires-clause-no_overflow : goal.div_euclid-requires-clause-no_overflow
div_euclid-requires-clause-no_overflow g c =
    let positive : pos 0 <ℤ c.parts-a.result.2 = subst (λ (p : Parts). pos 0 <ℤ p.q) (sym c.parts-a.ensures) (g.met.N.Exact.holds.is_number c.args.value).lowest.positive in
    let short : unsigned_abs c.parts-a.result.2 ≤ 2 ^ 92 = subst (λ (p : Parts). unsigned_abs p.q ≤ 2 ^ 92) (sym c.parts-a.ensures) c.requires.q in
    λ e f. absurd (omega (arith, ints, e, positive, short))
