use Rattle.face_walks.proofs.LinkLists.{IsLedTo}
use Rattle.face_walks.proofs.links.link_ring.Given as goal

abbrev pub invariant-loop-i : goal.invariant-loop-i
invariant-loop-i l = IsLedTo l.fn.arena l.arena l.ring l.i
