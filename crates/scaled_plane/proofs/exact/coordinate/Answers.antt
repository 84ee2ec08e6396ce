use Rattle.std.proofs.Common.{rules, arith, ◌≡◌, ◌∙◌, subst, pos, ◌≤◌, ◌*◌, ◌^◌, ◌*ℤ◌, ◌<ℤ◌, ◌≤ℤ◌, to_z, of_z, ℤ, ℕ, FitsSigned, unsigned_abs}
use Rattle.std.specs.Int.{w128}
use Rattle.std.specs.Prelude.{MatchOption}
use Rattle.std.proofs.lemmas.Int.{to_z-of_z, fits_signed_mul}
use Rattle.algebra.specs.LowestTerms.{Parts, IsReduced}
use Rattle.algebra.proofs.NumberParts.{product_positive}
use Rattle.algebra.proofs.Solvers.{bounded}
use Rattle.exact_number.proofs.WholeFits.{product_in_range}
use Rattle.exact_number.specs.Sizes.{whole_size}
use Rattle.scaled_plane.specs.Exact.{IsNarrow, IsQuotient}
use Rattle.scaled_plane.proofs.Quotients.{size_of_common, product_above, Divides, quotes, small_some, rational_some}
use Rattle.scaled_plane.proofs.exact.coordinate.Given.{Over}
use Rattle.scaled_plane.proofs.exact.coordinate.Goals as goal

-- the denominator is in range
fits : (m c : ℤ) → unsigned_abs m ≤ 81 * 2 ^ 94 → pos 0 <ℤ c → c ≤ℤ pos (2 ^ 24) → FitsSigned w128 (m *ℤ c)
fits m c small positive within = fits_signed_mul w128 m c (81 * 2 ^ 94) (2 ^ 24) small (size_of_common c (2 ^ 24) positive within) (omega arith)

pub overflow_mul-denominator : goal.overflow_mul-denominator
overflow_mul-denominator g c =
    rw (to_z-of_z w128 c.rational_product.result (search rules), to_z-of_z w128 c.args.common (search rules))
    (fits c.rational_product.result c.args.common c.rational_product.ensures.within c.requires.positive c.requires.within)

pub mul-requires : goal.mul-requires
mul-requires g c =
    let other : whole_size (g.N.Ring.Whole.pair c.positive_conjugate-conjugate.result) ≤ 9 * 2 ^ 47
    = omega (arith, c.positive_conjugate-conjugate.ensures.conjugate.same_size, c.requires.w_small) in
    product_in_range g.N.Ring.Whole.numbers g.met.N.Ring.Whole.at_most_three (bounded c.requires.x_small) (bounded other) tt

pub quotient-requires : goal.quotient-requires
quotient-requires g c =
    let m = c.rational_product.result in
    rw (to_z-of_z w128 m (search rules), to_z-of_z w128 c.args.common (search rules), to_z-of_z w128 (m *ℤ c.args.common) (fits m c.args.common c.rational_product.ensures.within c.requires.positive c.requires.within))
    (product_positive m c.args.common
    (product_above g.N.Ring.Whole.numbers g.N.Exact.parts c.args.x c.args.w c.positive_conjugate-conjugate.result m c.args.common c.requires.above_zero
    c.positive_conjugate-conjugate.ensures.positive c.rational_product.ensures.is c.requires.positive) c.requires.positive)

handed : (m c : ℤ) → FitsSigned w128 m → FitsSigned w128 c → FitsSigned w128 (m *ℤ c) → to_z w128 (of_z w128 (to_z w128 (of_z w128 m) *ℤ to_z w128 (of_z w128 c))) ≡ m *ℤ c
handed m c hm hc h = rw (to_z-of_z w128 m hm, to_z-of_z w128 c hc) (to_z-of_z w128 (m *ℤ c) h)

divides : (g : Over) (c : goal.After-quotient g)
    → Divides g.N.Ring.Whole.numbers g.N.Exact.parts c.args.x c.args.w c.positive_conjugate-conjugate.result c.rational_product.result c.args.common c.requires.above_zero
    c.positive_conjugate-conjugate.ensures.positive c.rational_product.ensures.is c.requires.positive c.quotient.result
divides g c =
    let m = c.rational_product.result in
    let pair = g.N.Ring.Whole.pair in
    let parts = g.N.Exact.parts in
    let result = c.quotient.result in
    let in_range = fits m c.args.common c.rational_product.ensures.within c.requires.positive c.requires.within in
    subst (λ (z : g.row.N-Ring.Denot). MatchOption result ((r : Parts) × IsReduced (record { a = (pair z).a; b = (pair z).b; q = m *ℤ c.args.common }) r × ¬ IsNarrow r)
    (λ n. IsReduced (record { a = (pair z).a; b = (pair z).b; q = m *ℤ c.args.common }) (parts n) × IsNarrow (parts n))) c.mul.ensures
    (subst (λ (q : ℤ). MatchOption result ((r : Parts) × IsReduced (record { a = (pair c.mul.result).a; b = (pair c.mul.result).b; q = q }) r × ¬ IsNarrow r)
    (λ n. IsReduced (record { a = (pair c.mul.result).a; b = (pair c.mul.result).b; q = q }) (parts n) × IsNarrow (parts n)))
    (handed m c.args.common (search rules) (search rules) in_range) c.quotient.ensures)

pub returns-clause-answer : goal.returns-clause-answer
returns-clause-answer g c =
    let numbers = g.N.Ring.Whole.numbers in
    let u = c.positive_conjugate-conjugate.result in
    let m = c.rational_product.result in
    subst (λ (j : ℕ). MatchOption c.quotient.result ((r : Parts) × IsQuotient j (g.N.Ring.Whole.pair c.args.x) (g.N.Ring.Whole.pair c.args.w) c.args.common r × ¬ IsNarrow r)
    (λ n. IsQuotient j (g.N.Ring.Whole.pair c.args.x) (g.N.Ring.Whole.pair c.args.w) c.args.common (g.N.Exact.parts n) × IsNarrow (g.N.Exact.parts n))) g.met.N.Exact.same_root
    (quotes numbers g.N.Exact.parts c.args.x c.args.w u m c.args.common c.requires.above_zero c.positive_conjugate-conjugate.ensures.positive c.rational_product.ensures.is c.requires.positive
    c.quotient.result (divides g c))

pub returns-clause-rational : goal.returns-clause-rational
returns-clause-rational g c = λ one.
    rational_some g.N.Ring.Whole.numbers g.N.Exact.parts c.args.x c.args.w c.positive_conjugate-conjugate.result c.rational_product.result c.args.common c.requires.above_zero
    c.positive_conjugate-conjugate.ensures.positive c.rational_product.ensures.is c.requires.positive
    g.met.N.Ring.Whole.holds (g.met.N.Exact.same_root ∙ one) c.requires.x_small c.requires.w_small c.requires.within c.quotient.result (divides g c)

pub returns-clause-small : goal.returns-clause-small
returns-clause-small g c = λ small_x small_w within.
    small_some g.N.Ring.Whole.numbers g.N.Exact.parts c.args.x c.args.w c.positive_conjugate-conjugate.result c.rational_product.result c.args.common c.requires.above_zero
    c.positive_conjugate-conjugate.ensures.positive c.rational_product.ensures.is c.requires.positive
    g.met.N.Ring.Whole.at_most_three c.positive_conjugate-conjugate.ensures.conjugate.same_size small_x small_w within c.quotient.result (divides g c)
