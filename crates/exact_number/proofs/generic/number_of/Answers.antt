use Rattle.std.proofs.Common.{pos, arith, rules, subst, ℤ}
use Rattle.std.proofs.lemmas.Int.{ints, to_z-of_z}
use Rattle.std.proofs.Math.Nat.{dvd-one}
use Rattle.std.specs.Int.{w128}
use Rattle.algebra.specs.LowestTerms.{Parts, IsLowest, IsReduced}
use Rattle.algebra.specs.Surd.{Surd}
use Rattle.algebra.proofs.LowestByGcd.{reduced_once}
use Rattle.algebra.proofs.NumberParts.{stand_alike}
use Rattle.exact_number.proofs.generic.number_of.Goals as goal

pub returns : goal.returns
returns g c =
    let w = g.N.Ring.Whole.pair c.args.w in
    let p : Parts = record { a = w.a; b = w.b; q = pos 1 } in
    let lowest : IsLowest p = record { positive = omega (arith, ints); coprime = λ d a b q. dvd-one.0 q } in
    let reduced : IsReduced p (g.N.Exact.parts c.in-Some.number)
    = subst (λ (x : Surd ℤ). IsReduced (record { a = x.a; b = x.b; q = pos 1 }) (g.N.Exact.parts c.in-Some.number)) c.pair-a.ensures
    (rw (to_z-of_z w128 c.pair-a.result.0 (search rules), to_z-of_z w128 c.pair-a.result.1 (search rules)) at c.in-Some.ensures.value) in
    reduced_once p (g.N.Exact.parts c.in-Some.number) p (omega (arith, ints)) reduced (record { lowest = lowest; same = stand_alike p p (λ i. p) })
