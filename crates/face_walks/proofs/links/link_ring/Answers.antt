use Rattle.std.proofs.Common.{◌≡◌, ℕ, ◌<◌, ◌-◌, subst, ◌∙◌, ap₂, arith}
use Rattle.std.specs.List.{swap}
use Rattle.half_edges.specs.Halves.{count, twin_of}
use Rattle.face_walks.specs.Rings.{half_at}
use Rattle.face_walks.proofs.LinkLists.{led_all, led_more}
use Rattle.face_walks.proofs.links.link_ring.Goals as goal

pub loop-i-preserved : goal.loop-i-preserved
loop-i-preserved c =
    let before : c.twin-before.result.0 ≡ twin_of (half_at c.args.ring.now (c.loop-i.i - 1)) = c.twin-before.ensures.value in
    let after : c.twin-after.result.0 ≡ twin_of (half_at c.args.ring.now c.loop-i.i) = c.twin-after.ensures.value in
    led_more c.args.arena.now c.loop-i.arena c.splice.new.self c.args.ring.now c.loop-i.i c.loop-i.invariant c.loop-i-test.true c.requires.once
    c.splice.ensures.payloads
    (subst (λ (t : ℕ). t < count c.loop-i.arena) before c.twin-before.ensures.within)
    (subst (λ (t : ℕ). t < count c.loop-i.arena) after c.twin-after.ensures.within)
    (c.splice.ensures.nexts ∙ ap₂ (λ (a b : ℕ). swap c.loop-i.arena.nexts a b) before after)

pub returns-clause-ring : goal.returns-clause-ring
returns-clause-ring c = led_all c.args.arena.now c.loop-i.arena c.args.ring.now c.loop-i.i c.loop-i.invariant (λ some. omega arith)
