use Rattle.std.proofs.Common.{arith, subst, ℤ, pos, ◌-ℤ◌, Some}
use Rattle.std.specs.Prelude.{neg_ℤ}
use Rattle.std.specs.Int.{w128, cast_signed, cast_unsigned}
use Rattle.std.proofs.lemmas.Int.{to_z-of_z}
use Rattle.root_two.specs.Roots.{root_parts}
use Rattle.number_rules.specs.Search.{IsRest, StandsFirst, start, multiple_of}
use Rattle.number_rules.proofs.RootSearch.{first_multiple, first_here, none_here, next_up, next_down}
use Rattle.number_rules.proofs.search.first_root.Goals as goal

pub loop-size-init : goal.loop-size-init
loop-size-init g c =
    let near : ℤ = cast_signed w128 (cast_unsigned w128 c.args.near) in
    let begins = first_multiple (start c.args.n near) c.fraction_of_root-fraction.result c.first_rest-up.result c.first_rest-up.ensures.value in
    record { up = begins; down = begins; none = λ b a less. absurd (omega arith) }

pub loop-size-preserved : goal.loop-size-preserved
loop-size-preserved g c =
    let near : ℤ = cast_signed w128 (cast_unsigned w128 c.args.near) in
    let fraction = c.fraction_of_root-fraction.result in
    let size = c.loop-size.size in
    record {
      up = subst (λ (z : ℤ). IsRest z c.rest_before-up.result) (next_up (start c.args.n near) size fraction)
          (c.rest_before-up.ensures.value (start c.args.n near -ℤ multiple_of fraction (pos size)) c.loop-size.invariant.up);
      down = subst (λ (z : ℤ). IsRest z c.rest_behind-down.result) (next_down (start c.args.n near) size fraction)
          (c.rest_behind-down.ensures.value (start c.args.n near -ℤ multiple_of fraction (neg_ℤ (pos size))) c.loop-size.invariant.down);
      none = none_here g.R.Radicand.K c.args.n near (root_parts {radicand = g.R.Radicand}) size c.loop-size.invariant.none c.in-None.ensures;
    }

pub returns-in-Some : goal.returns-in-Some
returns-in-Some g c =
    let near : ℤ = cast_signed w128 (cast_unsigned w128 c.args.near) in
    subst (λ (t : ℤ). StandsFirst g.R.Radicand.K c.args.n t root_parts (Some c.in-Some.number)) (to_z-of_z w128 c.args.near c.ranges.near)
    (first_here g.R.Radicand.K c.args.n near root_parts c.loop-size.size c.in-Some.number c.loop-size.invariant.none (omega arith) c.in-Some.ensures)
