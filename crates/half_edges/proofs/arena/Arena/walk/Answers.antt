use Rattle.std.proofs.Common.{◌≡◌, ◌+◌, ◌++◌, ◌∷◌, [], List, ℕ, length, ◌<◌, ap, sym, ◌∙◌, subst, arith}
use Rattle.std.proofs.lemmas.List.{map_push, length-map, length-append}
use Rattle.half_edges.specs.declared.arena.HalfId.{HalfId}
use Rattle.half_edges.specs.Halves.{count, next_of}
use Rattle.half_edges.specs.Cycles.{ids}
use Rattle.half_edges.proofs.Changes.{permuted}
use Rattle.half_edges.proofs.Paths.{Path, more, shorter}
use Rattle.half_edges.proofs.arena.Arena.walk.Goals as goal

pub loop-at-smaller : goal.loop-at-smaller
loop-at-smaller g c =
    let arena = c.args.self.now in
    let short : length (ids c.loop-at.cycle) < count arena
    = shorter (next_of arena) (count arena) c.args.h.0 (permuted arena c.loop-at.invariant.0) (ids c.loop-at.cycle) c.loop-at.at.0 c.loop-at.invariant.1 c.loop-at-test.true in
    let longer : length c.push-in-loop-at.new.self ≡ length c.loop-at.cycle + 1
    = ap length c.in_ok-push-2.ensures.ok ∙ length-append c.loop-at.cycle (c.loop-at.at ∷ []) in
    omega (arith, short, longer, length-map c.loop-at.cycle (λ (h : HalfId). h.0))

pub loop-at-preserved : goal.loop-at-preserved
loop-at-preserved g c =
    let arena = c.args.self.now in
    let path : ids c.push-in-loop-at.new.self ≡ ids c.loop-at.cycle ++ c.loop-at.at.0 ∷ []
    = ap ids c.in_ok-push-2.ensures.ok ∙ map_push (λ (h : HalfId). h.0) c.loop-at.cycle c.loop-at.at in
    let gone : Path (next_of arena) (count arena) c.args.h.0 (ids c.loop-at.cycle ++ c.loop-at.at.0 ∷ []) (next_of arena c.loop-at.at.0)
    = more (next_of arena) (count arena) c.args.h.0 (permuted arena c.loop-at.invariant.0) (ids c.loop-at.cycle) c.loop-at.at.0 c.loop-at.invariant.1 c.loop-at-test.true in (
      c.loop-at.invariant.0,
      subst (λ (at : ℕ). Path (next_of arena) (count arena) c.args.h.0 (ids c.push-in-loop-at.new.self) at) (sym c.next-at-in-loop-at.ensures.value)
          (subst (λ (ids' : List ℕ). Path (next_of arena) (count arena) c.args.h.0 ids' (next_of arena c.loop-at.at.0)) (sym path) gone),
    )
