use Rattle.std.proofs.Common.{◌∙◌, sym, ap, subst, pos, arith}
use Rattle.std.proofs.lemmas.Int.{ints}
use Rattle.std.proofs.Math.Nat.{dvd-one}
use Rattle.algebra.specs.Integers.{int_ops}
use Rattle.algebra.specs.LowestTerms.{Parts, IsNumber}
use Rattle.algebra.specs.Surd.{surd_mul}
use Rattle.exact_number.specs.Scaling.{IsWhole}
use Rattle.exact_number.proofs.Scaled.{whole_sum, whole_difference, whole_product, whole_scaled}
use Rattle.exact_number.proofs.laws.scaling_laws.Goals as goal

pub returns-clause-exists : goal.returns-clause-exists
returns-clause-exists g c w =
    let holds = g.met.N.Exact.holds in
    let v = g.N.Ring.Whole.pair w in
    let p : Parts = record { a = v.a; b = v.b; q = pos 1 } in
    let is : IsNumber g.N.Exact.ROOT p = record {
      lowest = record { positive = omega (arith, ints); coprime = λ d a b q. dvd-one.0 q };
      rational = λ e. g.met.N.Ring.Whole.holds.rational w (g.met.N.Exact.same_root ∙ e);
    } in
    (holds.make p is, holds.parts_make p is)

pub returns-clause-sum : goal.returns-clause-sum
returns-clause-sum g c x y v w x_is y_is =
    subst (IsWhole (g.N.Exact.parts (g.N.Exact.numbers.add x y))) (sym (g.N.Ring.Whole.numbers.sum_is v w))
    (whole_sum g.N.Exact.ROOT g.N.Exact.parts g.N.Exact.numbers x y (g.N.Ring.Whole.pair v) (g.N.Ring.Whole.pair w) x_is y_is)

pub returns-clause-difference : goal.returns-clause-difference
returns-clause-difference g c x y v w x_is y_is =
    subst (IsWhole (g.N.Exact.parts (g.N.Exact.numbers.sub x y))) (sym (g.N.Ring.Whole.numbers.difference_is v w))
    (whole_difference g.N.Exact.ROOT g.N.Exact.parts g.N.Exact.numbers x y (g.N.Ring.Whole.pair v) (g.N.Ring.Whole.pair w) x_is y_is)

pub returns-clause-product : goal.returns-clause-product
returns-clause-product g c x y v w x_is y_is =
    let product_is = g.N.Ring.Whole.numbers.product_is v w ∙ ap (λ k. surd_mul int_ops (pos k) (g.N.Ring.Whole.pair v) (g.N.Ring.Whole.pair w)) g.met.N.Exact.same_root in
    subst (IsWhole (g.N.Exact.parts (g.N.Exact.numbers.mul x y))) (sym product_is)
    (whole_product g.N.Exact.ROOT g.N.Exact.parts g.N.Exact.numbers x y (g.N.Ring.Whole.pair v) (g.N.Ring.Whole.pair w) x_is y_is)

pub returns-clause-scaled : goal.returns-clause-scaled
returns-clause-scaled g c x common scalable =
    whole_scaled g.N.Exact.ROOT g.N.Exact.parts g.N.Exact.numbers x common (g.met.N.Exact.holds.is_number x).lowest.positive scalable
