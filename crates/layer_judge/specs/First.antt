-- The first of numbers, pairs, triples and strands that have a property, and of crossings.
use Rattle.std.specs.Prelude.{◌≡◌, ℕ, ◌<◌, Option}
use Rattle.std.specs.Option.{MatchOption}
use Rattle.std.specs.declared.cmp.Ordering.TheVariants.{Less}
use Rattle.layers.specs.declared.crossing.Strand.{Strand}
use Rattle.layers.specs.declared.crossing.Strand.TheVariants.{Face, Edge}
use Rattle.layers.specs.declared.crossing.Crossing.{Crossing}
use Rattle.layers.specs.Crossings.{crossing_order}

abbrev pub IsFirst : (ℕ → Type 0) → Option ℕ → Type 0
IsFirst P r = MatchOption r ((k : ℕ) → ¬ P k) (λ k. P k × ((j : ℕ) → j < k → ¬ P j))

abbrev pub IsFirstPair : (ℕ → ℕ → Type 0) → Option (ℕ × ℕ) → Type 0
IsFirstPair P r = MatchOption r ((i j : ℕ) → ¬ P i j) (λ x. P x.0 x.1 × ((i : ℕ) → i < x.0 → (j : ℕ) → ¬ P i j) × ((j : ℕ) → j < x.1 → ¬ P x.0 j))

abbrev pub IsFirstTriple : (ℕ → ℕ → ℕ → Type 0) → Option (ℕ × ℕ × ℕ) → Type 0
IsFirstTriple P r = MatchOption r ((i j k : ℕ) → ¬ P i j k)
    (λ x. P x.0 x.1 x.2 × ((i : ℕ) → i < x.0 → (j k : ℕ) → ¬ P i j k) × ((j : ℕ) → j < x.1 → (k : ℕ) → ¬ P x.0 j k) × ((k : ℕ) → k < x.2 → ¬ P x.0 x.1 k))

-- a face comes before an edge
abbrev pub StrandBefore : Strand → Strand → Type 0
StrandBefore (Face f) (Face g) = f < g
StrandBefore (Face f) (Edge d) = Unit {0}
StrandBefore (Edge e) (Face g) = ⊥
StrandBefore (Edge e) (Edge d) = e < d

abbrev pub IsFirstStrand : (Strand → Type 0) → Option Strand → Type 0
IsFirstStrand P r = MatchOption r ((s : Strand) → ¬ P s) (λ s. P s × ((t : Strand) → StrandBefore t s → ¬ P t))

abbrev pub IsFirstOfEdges : (ℕ → Strand → Type 0) → Option (ℕ × Strand) → Type 0
IsFirstOfEdges P r = MatchOption r ((e : ℕ) (s : Strand) → ¬ P e s)
    (λ x. P x.0 x.1 × ((e : ℕ) → e < x.0 → (s : Strand) → ¬ P e s) × ((s : Strand) → StrandBefore s x.1 → ¬ P x.0 s))

abbrev pub IsFirstNamed : (Crossing → Type 0) → Option Crossing → Type 0
IsFirstNamed P r = MatchOption r ((c : Crossing) → ¬ P c) (λ c. P c × ((d : Crossing) → crossing_order d c ≡ Less → ¬ P d))
