use Rattle.std.proofs.Common.{◌≡◌, ◌⊎◌, ◌∙◌, ap, sym, inl, inr, arith, pos}
use borrow.Author.Differences.{ints}
use Rattle.std.specs.Int.{w128, cast_unsigned}
use Rattle.std.specs.declared.cmp.Ordering.TheVariants.{Equal}
use Rattle.std.proofs.lemmas.Int.{to_z-of_z}
use Rattle.algebra.specs.Order.{int_sign}
use Rattle.algebra.proofs.Integers.{integers}
use Rattle.root_two.specs.Roots.{nonsquare}
use Rattle.root_two.proofs.Signs.{compared_sign, same_side, sign_of_first, sign_of_second}
use Rattle.root_two.proofs.descent.sign_of.Goals as goal
use Rattle.root_two.proofs.descent.sign_of.Goals.{then-b-eq0-via-then-b-eq0, then-b-eq0-via-else-b-eq0+then-a-b}

pub returns-then-a-eq0 : goal.returns-then-a-eq0
returns-then-a-eq0 g c =
    let zero_a : c.args.a ≡ pos 0 = omega (arith, ints) in
    c.cmp.ensures ∙ compared_sign c.args.b c.ranges.b ∙ sym (sign_of_second g.R.Radicand.K (nonsquare g.R.Radicand) c.args.a c.args.b (ap int_sign zero_a))

pub returns-then-b-eq0 : goal.returns-then-b-eq0
returns-then-b-eq0 g c =
    let not_zero_a = λ (e : c.args.a ≡ pos 0). c.if-a-eq0.false (ap (cast_unsigned w128) e) in
    let either : (int_sign c.args.b ≡ int_sign c.args.a) ⊎ (int_sign c.args.b ≡ Equal)
    = elim c.then-b-eq0.branch [
      | then-b-eq0-via-then-b-eq0 w ↦ inr (ap int_sign (let h : c.args.b ≡ pos 0 = omega (arith, ints) in h))
      | then-b-eq0-via-else-b-eq0+then-a-b w ↦
          inl (same_side c.args.a c.args.b not_zero_a (λ (e : c.args.b ≡ pos 0). w.if-b-eq0.false (ap (cast_unsigned w128) e))
          (rw (to_z-of_z w128 c.args.a c.ranges.a, to_z-of_z w128 c.args.b c.ranges.b) at w.if-a-b.true))
    ] in
    c.cmp-then-b-eq0.ensures ∙ compared_sign c.args.a c.ranges.a
    ∙ sym (sign_of_first g.R.Radicand.K (nonsquare g.R.Radicand) c.args.a c.args.b (λ e. not_zero_a (integers.sign_zero c.args.a e)) either)
