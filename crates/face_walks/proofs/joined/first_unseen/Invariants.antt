use Rattle.std.proofs.Common.{◌≡◌, ℕ, ◌<◌, true}
use Rattle.face_walks.specs.Searches.{is_seen}
use Rattle.face_walks.proofs.joined.first_unseen.Given as goal

abbrev pub invariant-loop-vertex : goal.invariant-loop-vertex
invariant-loop-vertex l = (v : ℕ) → v < l.vertex → is_seen l.seen v ≡ true
