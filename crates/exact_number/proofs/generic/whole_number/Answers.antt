use Rattle.std.proofs.Common.{◌≡◌, ◌∙◌, sym, refl, arith}
use Rattle.std.proofs.lemmas.Int.{ints, to_z-of_z}
use Rattle.std.specs.Int.{w128}
use Rattle.algebra.specs.NumberFormulas.{whole_parts}
use Rattle.algebra.proofs.LowestByGcd.{reduced_once}
use Rattle.algebra.proofs.NumberParts.{whole_lowest, stand_alike}
use Rattle.exact_number.proofs.generic.whole_number.Goals as goal

pub returns : goal.returns
returns g c =
    let number = c.in-Some.number in
    let is : g.N.Exact.parts number ≡ whole_parts c.args.n
    = reduced_once (whole_parts c.args.n) (g.N.Exact.parts number) (whole_parts c.args.n) (omega (arith, ints)) (rw (to_z-of_z w128 c.args.n c.ranges.n) at c.in-Some.ensures.value)
    (record { lowest = whole_lowest c.args.n; same = stand_alike (whole_parts c.args.n) (whole_parts c.args.n) refl }) in
    g.met.N.Exact.holds.once number (g.N.Exact.numbers.int c.args.n) (is ∙ sym (g.N.Exact.numbers.whole_is c.args.n))
