use Rattle.std.proofs.Common.{◌≤◌, ◌^◌, FitsSigned, pos, ◌-ℤ◌, ◌*ℤ◌, arith}
use Rattle.std.specs.Prelude.{unsigned_abs}
use Rattle.std.specs.Int.{w128}
use Rattle.std.proofs.lemmas.Int.{ints, to_z-of_z, fits_signed_from_abs}
use Rattle.number_rules.proofs.Nines.{small_whole, halves_size}
use Rattle.number_rules.proofs.nine.halves.Goals as goal

pub overflow_mul-result : goal.overflow_mul-result
overflow_mul-result c =
    let m_fits : FitsSigned w128 c.args.m = c.ranges.m in
    let small : unsigned_abs c.args.m ≤ 2 ^ 125 = small_whole c.args.m c.args.q c.requires.q.0 c.requires.m in
    simp to_z-of_z (fits_signed_from_abs w128 (pos 2 *ℤ c.args.m) (omega (arith, ints, small)))

pub overflow_mul-result-2 : goal.overflow_mul-result-2
overflow_mul-result-2 c =
    let m_fits : FitsSigned w128 c.args.m = c.ranges.m in
    let q_fits : FitsSigned w128 c.args.q = c.ranges.q in
    let small : unsigned_abs c.args.m ≤ 2 ^ 125 = small_whole c.args.m c.args.q c.requires.q.0 c.requires.m in
    let twice_fits : FitsSigned w128 (pos 2 *ℤ c.args.m) = fits_signed_from_abs w128 (pos 2 *ℤ c.args.m) (omega (arith, ints, small)) in
    let half_fits : FitsSigned w128 (pos 2 *ℤ c.args.m -ℤ pos 1) = fits_signed_from_abs w128 (pos 2 *ℤ c.args.m -ℤ pos 1) (omega (arith, ints, small)) in
    simp to_z-of_z (fits_signed_from_abs w128 ((pos 2 *ℤ c.args.m -ℤ pos 1) *ℤ c.args.q) (omega (arith, halves_size c.args.m c.args.q c.requires.q.1 c.requires.m)))

pub returns-clause-value : goal.returns-clause-value
returns-clause-value c =
    let m_fits : FitsSigned w128 c.args.m = c.ranges.m in
    let q_fits : FitsSigned w128 c.args.q = c.ranges.q in
    let small : unsigned_abs c.args.m ≤ 2 ^ 125 = small_whole c.args.m c.args.q c.requires.q.0 c.requires.m in
    let twice_fits : FitsSigned w128 (pos 2 *ℤ c.args.m) = fits_signed_from_abs w128 (pos 2 *ℤ c.args.m) (omega (arith, ints, small)) in
    let half_fits : FitsSigned w128 (pos 2 *ℤ c.args.m -ℤ pos 1) = fits_signed_from_abs w128 (pos 2 *ℤ c.args.m -ℤ pos 1) (omega (arith, ints, small)) in
    let all_fits : FitsSigned w128 ((pos 2 *ℤ c.args.m -ℤ pos 1) *ℤ c.args.q)
    = fits_signed_from_abs w128 ((pos 2 *ℤ c.args.m -ℤ pos 1) *ℤ c.args.q) (omega (arith, halves_size c.args.m c.args.q c.requires.q.1 c.requires.m)) in
    simp to_z-of_z

pub returns-clause-within : goal.returns-clause-within
returns-clause-within c =
    let m_fits : FitsSigned w128 c.args.m = c.ranges.m in
    let q_fits : FitsSigned w128 c.args.q = c.ranges.q in
    let small : unsigned_abs c.args.m ≤ 2 ^ 125 = small_whole c.args.m c.args.q c.requires.q.0 c.requires.m in
    let twice_fits : FitsSigned w128 (pos 2 *ℤ c.args.m) = fits_signed_from_abs w128 (pos 2 *ℤ c.args.m) (omega (arith, ints, small)) in
    let half_fits : FitsSigned w128 (pos 2 *ℤ c.args.m -ℤ pos 1) = fits_signed_from_abs w128 (pos 2 *ℤ c.args.m -ℤ pos 1) (omega (arith, ints, small)) in
    let size = halves_size c.args.m c.args.q c.requires.q.1 c.requires.m in
    let all_fits : FitsSigned w128 ((pos 2 *ℤ c.args.m -ℤ pos 1) *ℤ c.args.q)
    = fits_signed_from_abs w128 ((pos 2 *ℤ c.args.m -ℤ pos 1) *ℤ c.args.q) (omega (arith, size)) in
    simp to_z-of_z size
