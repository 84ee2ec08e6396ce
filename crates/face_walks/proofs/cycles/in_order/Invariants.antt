use Rattle.std.proofs.Common.{◌≡◌, ℕ, ◌<◌, length, get_or}
use Rattle.half_edges.specs.Halves.{IsArena}
use Rattle.face_walks.specs.Linked.{piece_at}
use Rattle.face_walks.proofs.cycles.in_order.Given as goal

abbrev pub invariant-loop-half : goal.invariant-loop-half
invariant-loop-half l = IsArena l.arena × (length l.halves.items ≡ l.half)
    × ((i : ℕ) → i < l.half → get_or l.halves.items i ((0, 0), 0) ≡ (piece_at l.arena i, i))
