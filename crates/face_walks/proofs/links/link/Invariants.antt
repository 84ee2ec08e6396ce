use Rattle.std.proofs.Common.{◌≡◌}
use Rattle.half_edges.specs.Halves.{count}
use Rattle.face_walks.specs.Links.{LeadRound}
use Rattle.face_walks.proofs.links.link.Given as goal

abbrev pub invariant-loop-v : goal.invariant-loop-v
invariant-loop-v l = (l.arena.payloads ≡ l.fn.arena.payloads) × (count l.arena ≡ count l.fn.arena) × LeadRound l.arena l.rings l.v
