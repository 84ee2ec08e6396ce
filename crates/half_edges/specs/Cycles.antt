-- What half-edges lead round to: cycles.
use Rattle.std.specs.Prelude.{◌≡◌, ℕ, ◌+◌, ◌-◌, ◌<◌, List, length, map, slice_index, AllPairs}
use Rattle.half_edges.specs.declared.arena.HalfId.{HalfId}
use Rattle.half_edges.specs.Halves.{Halves, next_of}

-- the places of half-edges
abbrev pub ids : List HalfId → List ℕ
ids halves = map (λ (h : HalfId). h.0) halves

-- it begins with h, each comes after the one before, h after the last, and none stands twice
pub record IsCycle {P : Type 0} (arena : Halves P) (h : ℕ) (cycle : List ℕ) : Type 0 where
  pub some : 0 < length cycle
  pub first : slice_index cycle 0 ≡ h
  pub each : (k : ℕ) → k + 1 < length cycle → slice_index cycle (k + 1) ≡ next_of arena (slice_index cycle k)
  pub back : next_of arena (slice_index cycle (length cycle - 1)) ≡ h
  pub once : AllPairs (λ g h. ¬ (g ≡ h)) cycle
