use Rattle.std.proofs.Common.{rules, arith, ◌∙◌, ap, ◌≤◌, ◌*◌, ◌^◌}
use Rattle.std.specs.Int.{w128}
use Rattle.std.proofs.lemmas.Int.{to_z-of_z}
use Rattle.algebra.proofs.Solvers.{bounded}
use Rattle.exact_number.proofs.WholeFits.{product_in_range}
use Rattle.exact_number.specs.Sizes.{whole_size}
use Rattle.scaled_plane.proofs.Conjugates.{product_rational, product_within}
use Rattle.scaled_plane.proofs.exact.rational_product.Goals as goal

pub mul-requires : goal.mul-requires
mul-requires g c =
    let other : whole_size (g.W.Whole.pair c.args.conjugate) ≤ 9 * 2 ^ 47 = omega (arith, c.requires.conjugate.same_size, c.requires.small) in
    product_in_range g.W.Whole.numbers g.met.W.Whole.at_most_three (bounded c.requires.small) (bounded other) tt

pub returns-clause-is : goal.returns-clause-is
returns-clause-is g c =
    rw (to_z-of_z w128 c.pair-norm.result.0 (search rules))
    (product_rational g.W.Whole.numbers g.met.W.Whole.holds c.args.w c.args.conjugate c.pair-norm.result.0 c.pair-norm.result.1 c.requires.conjugate
    (c.pair-norm.ensures ∙ ap g.W.Whole.pair c.mul.ensures))

pub returns-clause-within : goal.returns-clause-within
returns-clause-within g c =
    rw (to_z-of_z w128 c.pair-norm.result.0 (search rules))
    (product_within g.W.Whole.numbers g.met.W.Whole.holds g.met.W.Whole.at_most_three c.args.w c.args.conjugate c.pair-norm.result.0 c.pair-norm.result.1 c.requires.conjugate
    (c.pair-norm.ensures ∙ ap g.W.Whole.pair c.mul.ensures) c.requires.small)
