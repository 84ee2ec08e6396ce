use Rattle.std.proofs.Common.{◌-◌, length}
use Rattle.std.specs.Prelude.{Contains}
use Rattle.face_walks.specs.Searches.{IsSearch}
use Rattle.face_walks.proofs.SearchLists.{AreDone}
use Rattle.face_walks.proofs.joined.first_parted.Given as goal

abbrev pub invariant-loop-next : goal.invariant-loop-next
invariant-loop-next l =
    IsSearch l.arena (length l.rings) l.search.found.items l.search.seen.items
    × Contains l.search.found.items 0
    × AreDone l.arena l.search.found.items l.next

abbrev pub decreases-loop-next : goal.decreases-loop-next
decreases-loop-next l = length l.rings - l.next
