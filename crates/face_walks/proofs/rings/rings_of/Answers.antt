use Rattle.std.proofs.Common.{◌≡◌, ℕ, ◌+◌, ◌<◌, List, length, sym, ap, subst, ◌∙◌, arith}
use Rattle.half_edges.specs.declared.arena.HalfId.{HalfId}
use Rattle.half_edges.specs.Halves.{count}
use Rattle.face_walks.specs.Linked.{piece_at}
use Rattle.face_walks.specs.Rings.{AreApart, AreRings, IsPlaceFor, IsRing, ring_at}
use Rattle.face_walks.proofs.RingLists.{apart, as_many, rings_grown}
use Rattle.face_walks.proofs.rings.rings_of.Goals as goal

pub insert-requires-clause-vertex : goal.insert-requires-clause-vertex
insert-requires-clause-vertex g c =
    let below : c.loop-half.half < count c.args.arena.now = omega (arith, c.len-half-end.ensures.count) in
    let in_range : (piece_at c.args.arena.now c.loop-half.half).0 < c.args.vertices = c.requires.in_range c.loop-half.half below in
    let from : c.piece-from.result.0 ≡ (piece_at c.args.arena.now c.loop-half.half).0 = ap (λ (p : ℕ × ℕ). p.0) c.piece-from.ensures in
    omega (arith, in_range, from, c.loop-half.invariant.1)

pub place_of-place-requires-clause-ring : goal.place_of-place-requires-clause-ring
place_of-place-requires-clause-ring g c =
    let below : c.loop-half.half < count c.args.arena.now = omega (arith, c.len-half-end.ensures.count) in
    let in_range : (piece_at c.args.arena.now c.loop-half.half).0 < c.args.vertices = c.requires.in_range c.loop-half.half below in
    let from : c.piece-from.result.0 ≡ (piece_at c.args.arena.now c.loop-half.half).0 = ap (λ (p : ℕ × ℕ). p.0) c.piece-from.ensures in
    subst (λ (ring : List HalfId). IsRing g.W.Whole.numbers.ring c.args.headings.now ring) (sym c.ring.ensures)
    (c.loop-half.invariant.2.ring c.piece-from.result.0 (omega (arith, in_range, from, c.loop-half.invariant.1)))

pub place_of-place-requires-clause-apart : goal.place_of-place-requires-clause-apart
place_of-place-requires-clause-apart g c =
    let below : c.loop-half.half < count c.args.arena.now = omega (arith, c.len-half-end.ensures.count) in
    let in_range : (piece_at c.args.arena.now c.loop-half.half).0 < c.args.vertices = c.requires.in_range c.loop-half.half below in
    let from : c.piece-from.result.0 ≡ (piece_at c.args.arena.now c.loop-half.half).0 = ap (λ (p : ℕ × ℕ). p.0) c.piece-from.ensures in
    subst (λ (ring : List HalfId). AreApart g.W.Whole.numbers.ring c.args.headings.now ring c.loop-half.half) (sym c.ring.ensures)
    (apart g.W.Whole.numbers.ring c.args.headings.now c.args.arena.now c.loop-half.half c.loop-half.rings c.loop-half.invariant.2
    (count c.args.arena.now) below c.piece-from.result.0 (sym from) (omega (arith, in_range, from, c.loop-half.invariant.1)) c.requires.differ)

pub loop-half-preserved : goal.loop-half-preserved
loop-half-preserved g c =
    let below : c.loop-half.half < count c.args.arena.now = omega (arith, c.len-half-end.ensures.count) in
    let in_range : (piece_at c.args.arena.now c.loop-half.half).0 < c.args.vertices = c.requires.in_range c.loop-half.half below in
    let from : c.piece-from.result.0 ≡ (piece_at c.args.arena.now c.loop-half.half).0 = ap (λ (p : ℕ × ℕ). p.0) c.piece-from.ensures in
    let vertex : c.piece-from.result.0 < length c.loop-half.rings = omega (arith, in_range, from, c.loop-half.invariant.1) in
    let place : IsPlaceFor g.W.Whole.numbers.ring c.args.headings.now (ring_at c.loop-half.rings c.piece-from.result.0) c.loop-half.half c.place_of-place.result
    = subst (λ (ring : List HalfId). IsPlaceFor g.W.Whole.numbers.ring c.args.headings.now ring c.loop-half.half c.place_of-place.result) c.ring.ensures c.place_of-place.ensures in
    let grown = rings_grown g.W.Whole.numbers.ring c.args.headings.now c.args.arena.now c.loop-half.half c.loop-half.rings c.loop-half.invariant.2
    (count c.args.arena.now) below c.piece-from.result.0 (sym from) vertex c.requires.differ c.place_of-place.result place in (
      c.loop-half.invariant.0,
      ap length c.in_ok-insert.ensures ∙ as_many g.W.Whole.numbers.ring c.args.headings.now c.args.arena.now c.loop-half.half c.loop-half.rings c.loop-half.invariant.2
          (count c.args.arena.now) below c.piece-from.result.0 (sym from) vertex c.requires.differ c.place_of-place.result place ∙ c.loop-half.invariant.1,
      subst (λ (rings : List (List HalfId)). AreRings g.W.Whole.numbers.ring c.args.headings.now c.args.arena.now (c.loop-half.half + 1) rings) (sym c.in_ok-insert.ensures) grown,
    )
