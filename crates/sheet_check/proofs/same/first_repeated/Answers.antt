use Rattle.std.proofs.Common.{◌≡◌, ◌-◌, ◌+◌, subst, arith}
use Rattle.sheet_check.specs.Same.{IsFirstFrom}
use Rattle.sheet_check.proofs.same.first_repeated.Goals as goal

pub note-requires-clause-first : goal.note-requires-clause-first
note-requires-clause-first g c =
    let n = c.loop-place.place in
    let some = c.loop-place-test.true in
    let e : n ≡ n - 1 + 1 = omega (arith, some) in
    subst (λ m. IsFirstFrom g.W.Whole.numbers.ring c.args.vertices.now m c.loop-place.found) e c.loop-place.invariant.first

pub returns : goal.returns
returns g c =
    let n = c.loop-place.place in
    let done = c.loop-place-test.false in
    let e : n ≡ 0 = omega (arith, done) in
    subst (λ m. IsFirstFrom g.W.Whole.numbers.ring c.args.vertices.now m c.loop-place.found) e c.loop-place.invariant.first
