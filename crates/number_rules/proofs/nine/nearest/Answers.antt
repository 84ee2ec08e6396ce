use Rattle.std.proofs.Common.{rules, arith, refl, ◌∙◌, sym, ap, FitsSigned, pos, ℤ, ◌≡◌, ◌-ℤ◌, ◌+ℤ◌, ◌*ℤ◌, ◌≤ℤ◌, true}
use Rattle.std.specs.Int.{w128}
use Rattle.std.specs.Ordering.{is_ge}
use Rattle.std.proofs.lemmas.Int.{ints, to_z-of_z, fits_signed_from_abs}
use Rattle.number_rules.specs.Nine.{IsInReach, sign_past}
use Rattle.number_rules.proofs.Nines.{reach_inside, minus_is, stands_before, last_is_nine}
use Rattle.number_rules.proofs.nine.nearest.Goals as goal

pub reaches-requires-clause-within : goal.reaches-requires-clause-within
reaches-requires-clause-within g c =
    let most : ℤ = c.farthest-most.result in
    let m : ℤ = c.clamp-guess.result in
    let most_fits : FitsSigned w128 most = search rules in
    let m_fits : FitsSigned w128 m = search rules in
    let reach : IsInReach (g.N.Exact.parts c.args.value) most = c.farthest-most.ensures.within in
    let some = c.farthest-most.ensures.positive in
    let least_fits : FitsSigned w128 (pos 0 -ℤ most) = fits_signed_from_abs w128 (pos 0 -ℤ most) (omega (arith, ints, reach.size)) in
    let end_fits : FitsSigned w128 (most -ℤ pos 1) = fits_signed_from_abs w128 (most -ℤ pos 1) (omega (arith, ints, reach.size, some)) in
    let low : (pos 0 -ℤ most) ≤ℤ m = simp to_z-of_z at c.clamp-guess.ensures.lower_bound in
    let high : m ≤ℤ (most -ℤ pos 1) = simp to_z-of_z at c.clamp-guess.ensures.upper_bound in
    let here : IsInReach (g.N.Exact.parts c.args.value) m = reach_inside (g.N.Exact.parts c.args.value) most m reach low (omega (arith, ints, high)) in
    simp to_z-of_z here

pub last_reached-requires-clause-between : goal.last_reached-requires-clause-between
last_reached-requires-clause-between g c =
    let most : ℤ = c.farthest-most.result in
    let m : ℤ = c.clamp-guess.result in
    let most_fits : FitsSigned w128 most = search rules in
    let m_fits : FitsSigned w128 m = search rules in
    let reach : IsInReach (g.N.Exact.parts c.args.value) most = c.farthest-most.ensures.within in
    let some = c.farthest-most.ensures.positive in
    let least_fits : FitsSigned w128 (pos 0 -ℤ most) = fits_signed_from_abs w128 (pos 0 -ℤ most) (omega (arith, ints, reach.size)) in
    let end_fits : FitsSigned w128 (most -ℤ pos 1) = fits_signed_from_abs w128 (most -ℤ pos 1) (omega (arith, ints, reach.size, some)) in
    let low : (pos 0 -ℤ most) ≤ℤ m = simp to_z-of_z at c.clamp-guess.ensures.lower_bound in
    let high : m ≤ℤ (most -ℤ pos 1) = simp to_z-of_z at c.clamp-guess.ensures.upper_bound in
    let least_reached : is_ge (sign_past g.N.Exact.ROOT (g.N.Exact.parts c.args.value) (pos 2 *ℤ (pos 0 -ℤ most) -ℤ pos 1)) ≡ true
    = ap (λ (x : ℤ). is_ge (sign_past g.N.Exact.ROOT (g.N.Exact.parts c.args.value) (pos 2 *ℤ x -ℤ pos 1))) (minus_is most) ∙ c.farthest-most.ensures.below in
    let answer : c.reaches.result ≡ is_ge (sign_past g.N.Exact.ROOT (g.N.Exact.parts c.args.value) (pos 2 *ℤ m -ℤ pos 1)) = simp to_z-of_z at c.reaches.ensures in
    simp to_z-of_z (stands_before g.N.Exact.ROOT (g.N.Exact.parts c.args.value) (pos 0 -ℤ most) m low least_reached (sym answer ∙ c.if-not-reaches.true))

pub last_reached-requires-clause-low_within : goal.last_reached-requires-clause-low_within
last_reached-requires-clause-low_within g c =
    let most : ℤ = c.farthest-most.result in
    let m : ℤ = c.clamp-guess.result in
    let most_fits : FitsSigned w128 most = search rules in
    let m_fits : FitsSigned w128 m = search rules in
    let reach : IsInReach (g.N.Exact.parts c.args.value) most = c.farthest-most.ensures.within in
    let some = c.farthest-most.ensures.positive in
    let least_fits : FitsSigned w128 (pos 0 -ℤ most) = fits_signed_from_abs w128 (pos 0 -ℤ most) (omega (arith, ints, reach.size)) in
    let end_fits : FitsSigned w128 (most -ℤ pos 1) = fits_signed_from_abs w128 (most -ℤ pos 1) (omega (arith, ints, reach.size, some)) in
    let low : (pos 0 -ℤ most) ≤ℤ m = simp to_z-of_z at c.clamp-guess.ensures.lower_bound in
    let high : m ≤ℤ (most -ℤ pos 1) = simp to_z-of_z at c.clamp-guess.ensures.upper_bound in
    simp to_z-of_z (reach_inside (g.N.Exact.parts c.args.value) most (pos 0 -ℤ most) reach (omega (arith, ints)) (omega (arith, ints, some)))

pub last_reached-requires-clause-high_within : goal.last_reached-requires-clause-high_within
last_reached-requires-clause-high_within g c =
    let most : ℤ = c.farthest-most.result in
    let m : ℤ = c.clamp-guess.result in
    let most_fits : FitsSigned w128 most = search rules in
    let m_fits : FitsSigned w128 m = search rules in
    let reach : IsInReach (g.N.Exact.parts c.args.value) most = c.farthest-most.ensures.within in
    let some = c.farthest-most.ensures.positive in
    let least_fits : FitsSigned w128 (pos 0 -ℤ most) = fits_signed_from_abs w128 (pos 0 -ℤ most) (omega (arith, ints, reach.size)) in
    let end_fits : FitsSigned w128 (most -ℤ pos 1) = fits_signed_from_abs w128 (most -ℤ pos 1) (omega (arith, ints, reach.size, some)) in
    let low : (pos 0 -ℤ most) ≤ℤ m = simp to_z-of_z at c.clamp-guess.ensures.lower_bound in
    let high : m ≤ℤ (most -ℤ pos 1) = simp to_z-of_z at c.clamp-guess.ensures.upper_bound in
    let here : IsInReach (g.N.Exact.parts c.args.value) m = reach_inside (g.N.Exact.parts c.args.value) most m reach low (omega (arith, ints, high)) in
    simp to_z-of_z here

pub last_reached-requires-clause-reached : goal.last_reached-requires-clause-reached
last_reached-requires-clause-reached g c =
    let most : ℤ = c.farthest-most.result in
    let m : ℤ = c.clamp-guess.result in
    let most_fits : FitsSigned w128 most = search rules in
    let m_fits : FitsSigned w128 m = search rules in
    let reach : IsInReach (g.N.Exact.parts c.args.value) most = c.farthest-most.ensures.within in
    let some = c.farthest-most.ensures.positive in
    let least_fits : FitsSigned w128 (pos 0 -ℤ most) = fits_signed_from_abs w128 (pos 0 -ℤ most) (omega (arith, ints, reach.size)) in
    let end_fits : FitsSigned w128 (most -ℤ pos 1) = fits_signed_from_abs w128 (most -ℤ pos 1) (omega (arith, ints, reach.size, some)) in
    let low : (pos 0 -ℤ most) ≤ℤ m = simp to_z-of_z at c.clamp-guess.ensures.lower_bound in
    let high : m ≤ℤ (most -ℤ pos 1) = simp to_z-of_z at c.clamp-guess.ensures.upper_bound in
    let least_reached : is_ge (sign_past g.N.Exact.ROOT (g.N.Exact.parts c.args.value) (pos 2 *ℤ (pos 0 -ℤ most) -ℤ pos 1)) ≡ true
    = ap (λ (x : ℤ). is_ge (sign_past g.N.Exact.ROOT (g.N.Exact.parts c.args.value) (pos 2 *ℤ x -ℤ pos 1))) (minus_is most) ∙ c.farthest-most.ensures.below in
    simp to_z-of_z least_reached

pub reaches-requires-else-not-reaches-clause-within : goal.reaches-requires-else-not-reaches-clause-within
reaches-requires-else-not-reaches-clause-within g c =
    let most : ℤ = c.farthest-most.result in
    let m : ℤ = c.clamp-guess.result in
    let most_fits : FitsSigned w128 most = search rules in
    let m_fits : FitsSigned w128 m = search rules in
    let reach : IsInReach (g.N.Exact.parts c.args.value) most = c.farthest-most.ensures.within in
    let some = c.farthest-most.ensures.positive in
    let least_fits : FitsSigned w128 (pos 0 -ℤ most) = fits_signed_from_abs w128 (pos 0 -ℤ most) (omega (arith, ints, reach.size)) in
    let end_fits : FitsSigned w128 (most -ℤ pos 1) = fits_signed_from_abs w128 (most -ℤ pos 1) (omega (arith, ints, reach.size, some)) in
    let low : (pos 0 -ℤ most) ≤ℤ m = simp to_z-of_z at c.clamp-guess.ensures.lower_bound in
    let high : m ≤ℤ (most -ℤ pos 1) = simp to_z-of_z at c.clamp-guess.ensures.upper_bound in
    let next_fits : FitsSigned w128 (m +ℤ pos 1) = fits_signed_from_abs w128 (m +ℤ pos 1) (omega (arith, ints, low, high, reach.size, some)) in
    let next : IsInReach (g.N.Exact.parts c.args.value) (m +ℤ pos 1)
    = reach_inside (g.N.Exact.parts c.args.value) most (m +ℤ pos 1) reach (omega (arith, ints, low)) (omega (arith, ints, high)) in
    simp to_z-of_z next

pub last_reached-requires-then-reaches-clause-between : goal.last_reached-requires-then-reaches-clause-between
last_reached-requires-then-reaches-clause-between g c =
    let most : ℤ = c.farthest-most.result in
    let m : ℤ = c.clamp-guess.result in
    let most_fits : FitsSigned w128 most = search rules in
    let m_fits : FitsSigned w128 m = search rules in
    let reach : IsInReach (g.N.Exact.parts c.args.value) most = c.farthest-most.ensures.within in
    let some = c.farthest-most.ensures.positive in
    let least_fits : FitsSigned w128 (pos 0 -ℤ most) = fits_signed_from_abs w128 (pos 0 -ℤ most) (omega (arith, ints, reach.size)) in
    let end_fits : FitsSigned w128 (most -ℤ pos 1) = fits_signed_from_abs w128 (most -ℤ pos 1) (omega (arith, ints, reach.size, some)) in
    let low : (pos 0 -ℤ most) ≤ℤ m = simp to_z-of_z at c.clamp-guess.ensures.lower_bound in
    let high : m ≤ℤ (most -ℤ pos 1) = simp to_z-of_z at c.clamp-guess.ensures.upper_bound in
    let next_fits : FitsSigned w128 (m +ℤ pos 1) = fits_signed_from_abs w128 (m +ℤ pos 1) (omega (arith, ints, low, high, reach.size, some)) in
    let next : IsInReach (g.N.Exact.parts c.args.value) (m +ℤ pos 1)
    = reach_inside (g.N.Exact.parts c.args.value) most (m +ℤ pos 1) reach (omega (arith, ints, low)) (omega (arith, ints, high)) in
    let after : c.reaches-else-not-reaches.result ≡ is_ge (sign_past g.N.Exact.ROOT (g.N.Exact.parts c.args.value) (pos 2 *ℤ (m +ℤ pos 1) -ℤ pos 1)) = simp to_z-of_z at c.reaches-else-not-reaches.ensures in
    simp to_z-of_z (stands_before g.N.Exact.ROOT (g.N.Exact.parts c.args.value) (m +ℤ pos 1) most (omega (arith, ints, high)) (sym after ∙ c.if-reaches.true) c.farthest-most.ensures.above)

pub last_reached-requires-then-reaches-clause-low_within : goal.last_reached-requires-then-reaches-clause-low_within
last_reached-requires-then-reaches-clause-low_within g c =
    let most : ℤ = c.farthest-most.result in
    let m : ℤ = c.clamp-guess.result in
    let most_fits : FitsSigned w128 most = search rules in
    let m_fits : FitsSigned w128 m = search rules in
    let reach : IsInReach (g.N.Exact.parts c.args.value) most = c.farthest-most.ensures.within in
    let some = c.farthest-most.ensures.positive in
    let least_fits : FitsSigned w128 (pos 0 -ℤ most) = fits_signed_from_abs w128 (pos 0 -ℤ most) (omega (arith, ints, reach.size)) in
    let end_fits : FitsSigned w128 (most -ℤ pos 1) = fits_signed_from_abs w128 (most -ℤ pos 1) (omega (arith, ints, reach.size, some)) in
    let low : (pos 0 -ℤ most) ≤ℤ m = simp to_z-of_z at c.clamp-guess.ensures.lower_bound in
    let high : m ≤ℤ (most -ℤ pos 1) = simp to_z-of_z at c.clamp-guess.ensures.upper_bound in
    let next_fits : FitsSigned w128 (m +ℤ pos 1) = fits_signed_from_abs w128 (m +ℤ pos 1) (omega (arith, ints, low, high, reach.size, some)) in
    let next : IsInReach (g.N.Exact.parts c.args.value) (m +ℤ pos 1)
    = reach_inside (g.N.Exact.parts c.args.value) most (m +ℤ pos 1) reach (omega (arith, ints, low)) (omega (arith, ints, high)) in
    simp to_z-of_z next

pub returns-else-reaches-clause-nine : goal.returns-else-reaches-clause-nine
returns-else-reaches-clause-nine g c =
    let most : ℤ = c.farthest-most.result in
    let m : ℤ = c.clamp-guess.result in
    let most_fits : FitsSigned w128 most = search rules in
    let m_fits : FitsSigned w128 m = search rules in
    let reach : IsInReach (g.N.Exact.parts c.args.value) most = c.farthest-most.ensures.within in
    let some = c.farthest-most.ensures.positive in
    let least_fits : FitsSigned w128 (pos 0 -ℤ most) = fits_signed_from_abs w128 (pos 0 -ℤ most) (omega (arith, ints, reach.size)) in
    let end_fits : FitsSigned w128 (most -ℤ pos 1) = fits_signed_from_abs w128 (most -ℤ pos 1) (omega (arith, ints, reach.size, some)) in
    let low : (pos 0 -ℤ most) ≤ℤ m = simp to_z-of_z at c.clamp-guess.ensures.lower_bound in
    let high : m ≤ℤ (most -ℤ pos 1) = simp to_z-of_z at c.clamp-guess.ensures.upper_bound in
    let next_fits : FitsSigned w128 (m +ℤ pos 1) = fits_signed_from_abs w128 (m +ℤ pos 1) (omega (arith, ints, low, high, reach.size, some)) in
    let next : IsInReach (g.N.Exact.parts c.args.value) (m +ℤ pos 1)
    = reach_inside (g.N.Exact.parts c.args.value) most (m +ℤ pos 1) reach (omega (arith, ints, low)) (omega (arith, ints, high)) in
    let answer : c.reaches.result ≡ is_ge (sign_past g.N.Exact.ROOT (g.N.Exact.parts c.args.value) (pos 2 *ℤ m -ℤ pos 1)) = simp to_z-of_z at c.reaches.ensures in
    let after : c.reaches-else-not-reaches.result ≡ is_ge (sign_past g.N.Exact.ROOT (g.N.Exact.parts c.args.value) (pos 2 *ℤ (m +ℤ pos 1) -ℤ pos 1)) = simp to_z-of_z at c.reaches-else-not-reaches.ensures in
    simp to_z-of_z (last_is_nine g.N.Exact.ROOT (g.N.Exact.parts c.args.value) m (m +ℤ pos 1) refl (sym answer ∙ c.if-not-reaches.false) (sym after ∙ c.if-reaches.false))

pub returns-else-reaches-clause-within : goal.returns-else-reaches-clause-within
returns-else-reaches-clause-within g c =
    let most : ℤ = c.farthest-most.result in
    let m : ℤ = c.clamp-guess.result in
    let most_fits : FitsSigned w128 most = search rules in
    let m_fits : FitsSigned w128 m = search rules in
    let reach : IsInReach (g.N.Exact.parts c.args.value) most = c.farthest-most.ensures.within in
    let some = c.farthest-most.ensures.positive in
    let least_fits : FitsSigned w128 (pos 0 -ℤ most) = fits_signed_from_abs w128 (pos 0 -ℤ most) (omega (arith, ints, reach.size)) in
    let end_fits : FitsSigned w128 (most -ℤ pos 1) = fits_signed_from_abs w128 (most -ℤ pos 1) (omega (arith, ints, reach.size, some)) in
    let low : (pos 0 -ℤ most) ≤ℤ m = simp to_z-of_z at c.clamp-guess.ensures.lower_bound in
    let high : m ≤ℤ (most -ℤ pos 1) = simp to_z-of_z at c.clamp-guess.ensures.upper_bound in
    let here : IsInReach (g.N.Exact.parts c.args.value) m = reach_inside (g.N.Exact.parts c.args.value) most m reach low (omega (arith, ints, high)) in
    simp to_z-of_z here
