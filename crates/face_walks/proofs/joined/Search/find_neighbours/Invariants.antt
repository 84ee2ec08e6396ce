use Rattle.std.proofs.Common.{ℕ, ◌<◌, length}
use Rattle.std.specs.Prelude.{Contains}
use Rattle.face_walks.specs.Linked.{piece_at}
use Rattle.face_walks.specs.Rings.{half_at}
use Rattle.face_walks.specs.Searches.{GoesOn, IsSearch}
use Rattle.face_walks.proofs.joined.Search.find_neighbours.Given as goal

abbrev pub invariant-loop-half : goal.invariant-loop-half
invariant-loop-half l =
    IsSearch l.arena (length l.fn.self.seen.items) l.self.found.items l.self.seen.items
    × GoesOn l.fn.self.found.items l.self.found.items
    × ((k : ℕ) → k < l.half-index → Contains l.self.found.items (piece_at l.arena (half_at l.ring k)).1)
