use Rattle.std.proofs.Common.{List, length, rules, subst, ◌∙◌}
use Rattle.half_edges.specs.declared.arena.HalfId.{HalfId}
use Rattle.face_walks.specs.Links.{LeadsElsewhere, LeadsRound}
use Rattle.face_walks.proofs.LinkLists.{lead_more}
use Rattle.face_walks.proofs.links.link.Goals as goal

pub loop-v-preserved : goal.loop-v-preserved
loop-v-preserved c =
    let before = c.loop-v.invariant in (
      c.link_ring.ensures.payloads ∙ before.0,
      c.link_ring.ensures.count ∙ before.1,
      lead_more c.args.arena.now c.args.rings.now c.requires.is_arena c.requires.outgoing c.requires.reversed c.requires.turning c.loop-v.arena c.loop-v.v (search rules)
          before.0 before.1 before.2 c.link_ring.new.arena c.link_ring.ensures.payloads c.link_ring.ensures.count
          (subst (λ (ring : List HalfId). LeadsRound c.link_ring.new.arena ring (length ring)) c.ring.ensures c.link_ring.ensures.ring)
          (subst (λ (ring : List HalfId). LeadsElsewhere c.loop-v.arena c.link_ring.new.arena ring) c.ring.ensures c.link_ring.ensures.others),
    )
