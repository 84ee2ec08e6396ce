-- Half-edges led on round the rings of vertices.
use Rattle.std.specs.Prelude.{◌≡◌, ℕ, ◌+◌, ◌-◌, ◌<◌, ◌≤◌, List, length}
use Rattle.half_edges.specs.declared.arena.HalfId.{HalfId}
use Rattle.half_edges.specs.Halves.{Halves, count, next_of, twin_of}
use Rattle.face_walks.specs.Linked.{piece_at}
use Rattle.face_walks.specs.Rings.{half_at, ring_at}

-- after what comes in at each of the first n half-edges of the ring goes the next of these out, after the last the first
pub record LeadsRound (arena : Halves (ℕ × ℕ)) (ring : List HalfId) (n : ℕ) : Type 0 where
  pub on : (k : ℕ) → k + 1 < n → next_of arena (twin_of (half_at ring k)) ≡ half_at ring (k + 1)
  pub round : 0 < n → next_of arena (twin_of (half_at ring (n - 1))) ≡ half_at ring 0

-- after what comes in at no half-edge of the ring goes what went before
abbrev pub LeadsElsewhere : Halves (ℕ × ℕ) → Halves (ℕ × ℕ) → List HalfId → Type 0
LeadsElsewhere old new ring = (h : ℕ) → ((k : ℕ) → k < length ring → ¬ (h ≡ twin_of (half_at ring k))) → next_of new h ≡ next_of old h

-- round the rings of the first n vertices it goes on, and round those of the others it turns back
pub record LeadRound (arena : Halves (ℕ × ℕ)) (rings : List (List HalfId)) (n : ℕ) : Type 0 where
  pub led : (v : ℕ) → v < n → LeadsRound arena (ring_at rings v) (length (ring_at rings v))
  pub turning : (h : ℕ) → h < count arena → n ≤ (piece_at arena h).1 → next_of arena h ≡ twin_of h
