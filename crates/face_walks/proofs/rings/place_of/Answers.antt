use Rattle.std.proofs.Common.{◌≡◌, ℕ, ◌+◌, ◌-◌, ◌/◌, ◌<◌, true, false, sym, ◌∙◌, arith}
use Rattle.face_walks.proofs.RingLists.{parted_above, parted_below, parted_there}
use Rattle.face_walks.proofs.rings.place_of.Goals as goal

pub loop-low-preserved-then-turns : goal.loop-low-preserved-then-turns
loop-low-preserved-then-turns g c =
    let middle : ℕ = c.loop-low.low + (c.loop-low.high - c.loop-low.low) / 2 in
    let inside : middle < c.loop-low.high = omega arith in
    parted_above g.W.Whole.numbers.ring c.args.headings.now c.args.ring.now c.args.half.0 c.requires.ring c.requires.apart
    c.loop-low.low c.loop-low.high middle c.loop-low.invariant (omega arith) inside (c.turns.ensures.0 c.if-turns.true)

pub loop-low-preserved : goal.loop-low-preserved
loop-low-preserved g c =
    let middle : ℕ = c.loop-low.low + (c.loop-low.high - c.loop-low.low) / 2 in
    let inside : middle < c.loop-low.high = omega arith in
    parted_below g.W.Whole.numbers.ring c.args.headings.now c.args.ring.now c.args.half.0 c.requires.ring c.requires.apart
    c.loop-low.low c.loop-low.high middle c.loop-low.invariant (omega arith) inside
    (λ t. let no : true ≡ false = sym (c.turns.ensures.1 t) ∙ c.if-turns.false in cc)

pub returns : goal.returns
returns g c =
    parted_there g.W.Whole.numbers.ring c.args.headings.now c.args.ring.now c.args.half.0 c.loop-low.low c.loop-low.high c.loop-low.invariant c.loop-low-test.false
