use Rattle.std.proofs.Common.{rules, arith, ap, sym, subst, FitsSigned, pos, ℤ, ◌≡◌, ◌^◌, ◌<ℤ◌}
use Rattle.std.specs.Prelude.{int_div}
use Rattle.std.specs.Int.{w128}
use Rattle.std.specs.Ordering.{is_ge}
use Rattle.std.proofs.lemmas.Int.{to_z-of_z, fits_signed_from_abs}
use Rattle.algebra.specs.LowestTerms.{Parts}
use Rattle.number_rules.specs.Nine.{IsInReach}
use Rattle.number_rules.proofs.Nines.{IsFarthest, quotient_is_farthest, small_whole, reached, not_reached}
use Rattle.number_rules.proofs.nine.farthest.Goals as goal

pub returns-clause-within : goal.returns-clause-within
returns-clause-within g c =
    let q : ℤ = c.parts-q.result.2 in
    let q_fits : FitsSigned w128 q = search rules in
    let positive : pos 0 <ℤ (g.N.Exact.parts c.args.value).q = (g.met.N.Exact.holds.is_number c.args.value).lowest.positive in
    let q_is : q ≡ (g.N.Exact.parts c.args.value).q = ap (λ (p : Parts). p.q) c.parts-q.ensures in
    let m : ℤ = int_div (pos (2 ^ 125)) q in
    let far : IsFarthest (g.N.Exact.parts c.args.value).q m
    = subst (λ (t : ℤ). IsFarthest (g.N.Exact.parts c.args.value).q (int_div (pos (2 ^ 125)) t)) (sym q_is) (quotient_is_farthest (g.N.Exact.parts c.args.value).q positive c.requires.q) in
    let m_fits : FitsSigned w128 m = fits_signed_from_abs w128 m (omega (arith, small_whole m (g.N.Exact.parts c.args.value).q positive far.within)) in
    let reach : IsInReach (g.N.Exact.parts c.args.value) m = record { size = small_whole m (g.N.Exact.parts c.args.value).q positive far.within; times = far.within } in
    simp to_z-of_z reach

pub returns-clause-below : goal.returns-clause-below
returns-clause-below g c =
    let q : ℤ = c.parts-q.result.2 in
    let q_fits : FitsSigned w128 q = search rules in
    let positive : pos 0 <ℤ (g.N.Exact.parts c.args.value).q = (g.met.N.Exact.holds.is_number c.args.value).lowest.positive in
    let q_is : q ≡ (g.N.Exact.parts c.args.value).q = ap (λ (p : Parts). p.q) c.parts-q.ensures in
    let m : ℤ = int_div (pos (2 ^ 125)) q in
    let far : IsFarthest (g.N.Exact.parts c.args.value).q m
    = subst (λ (t : ℤ). IsFarthest (g.N.Exact.parts c.args.value).q (int_div (pos (2 ^ 125)) t)) (sym q_is) (quotient_is_farthest (g.N.Exact.parts c.args.value).q positive c.requires.q) in
    let m_fits : FitsSigned w128 m = fits_signed_from_abs w128 m (omega (arith, small_whole m (g.N.Exact.parts c.args.value).q positive far.within)) in
    simp to_z-of_z (reached g.N.Exact.ROOT (g.N.Exact.parts c.args.value) g.met.N.Exact.at_most_three c.requires positive m far)

pub returns-clause-above : goal.returns-clause-above
returns-clause-above g c =
    let q : ℤ = c.parts-q.result.2 in
    let q_fits : FitsSigned w128 q = search rules in
    let positive : pos 0 <ℤ (g.N.Exact.parts c.args.value).q = (g.met.N.Exact.holds.is_number c.args.value).lowest.positive in
    let q_is : q ≡ (g.N.Exact.parts c.args.value).q = ap (λ (p : Parts). p.q) c.parts-q.ensures in
    let m : ℤ = int_div (pos (2 ^ 125)) q in
    let far : IsFarthest (g.N.Exact.parts c.args.value).q m
    = subst (λ (t : ℤ). IsFarthest (g.N.Exact.parts c.args.value).q (int_div (pos (2 ^ 125)) t)) (sym q_is) (quotient_is_farthest (g.N.Exact.parts c.args.value).q positive c.requires.q) in
    let m_fits : FitsSigned w128 m = fits_signed_from_abs w128 m (omega (arith, small_whole m (g.N.Exact.parts c.args.value).q positive far.within)) in
    simp to_z-of_z (ap is_ge (not_reached g.N.Exact.ROOT (g.N.Exact.parts c.args.value) g.met.N.Exact.at_most_three c.requires positive m far))
