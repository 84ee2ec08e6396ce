-- What a search from vertex 0 has found.
use Rattle.std.specs.Prelude.{◌≡◌, ◌⊎◌, ℕ, ◌<◌, ◌≤◌, List, [], ◌∷◌, ◌++◌, Bool, true, false, length, Contains, All, AllPairs, slice_index, slice_index_or, slice_set}
use Rattle.half_edges.specs.Halves.{Halves, count}
use Rattle.scaled_plane.specs.Lists.{IsReached}
use Rattle.face_walks.specs.Linked.{piece_at}

abbrev pub is_seen : List Bool → ℕ → Bool
is_seen seen v = slice_index_or seen v false

-- some half-edge leads from u to v
abbrev pub Leads : Halves (ℕ × ℕ) → ℕ → ℕ → Type 0
Leads arena u v = (h : ℕ) × (h < count arena) × (piece_at arena h ≡ (u, v))

abbrev pub IsReachedFrom : Halves (ℕ × ℕ) → ℕ → ℕ → Type 0
IsReachedFrom arena u v = IsReached (Leads arena) u v

-- a vertex that is met is found, where it wasn't seen before
abbrev pub Finds : List ℕ → List Bool → ℕ → List ℕ → List Bool → Type 0
Finds found seen v found' seen' =
    ((is_seen seen v ≡ true) × (found' ≡ found) × (seen' ≡ seen))
    ⊎ ((is_seen seen v ≡ false) × (found' ≡ found ++ v ∷ []) × (seen' ≡ slice_set seen v true))

-- those found are different vertices that are reached from vertex 0, and just these are seen
pub record IsSearch (arena : Halves (ℕ × ℕ)) (vertices : ℕ) (found : List ℕ) (seen : List Bool) : Type 0 where
  pub as_many : length seen ≡ vertices
  pub marked : (v : ℕ) → Contains found v → is_seen seen v ≡ true
  pub unmarked : (v : ℕ) → is_seen seen v ≡ true → Contains found v
  pub below : All (λ v. v < vertices) found
  pub once : AllPairs (λ u v. ¬ (u ≡ v)) found
  pub reached : All (λ v. IsReachedFrom arena 0 v) found

-- the new list begins with the old one
pub record GoesOn (old new : List ℕ) : Type 0 where
  pub longer : length old ≤ length new
  pub same : (k : ℕ) → k < length old → slice_index new k ≡ slice_index old k

-- where no vertex is left out, each is reached; else the vertex is the least that isn't
pub record IsFirstUnreached (arena : Halves (ℕ × ℕ)) (vertices v : ℕ) : Type 0 where
  pub in_range : v < vertices
  pub unreached : ¬ IsReachedFrom arena 0 v
  pub least : (u : ℕ) → u < v → IsReachedFrom arena 0 u
