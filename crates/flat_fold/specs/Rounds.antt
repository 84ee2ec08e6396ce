-- Faces reached level by level, in rounds: each looks at the edges in order, and at each crosses from the faces of one level
-- to those that aren't reached yet.
use Rattle.std.specs.Prelude.{◌≡◌, ◌⊎◌, ℕ, List, ◌<◌, ◌≤◌, ◌+◌, length, Option, Some, None, Bool, true, false, slice_index_or, slice_set, sum_by}
use Rattle.algebra.specs.OrderedField.{OrderedField}
use Rattle.fold_base.specs.declared.letter.Letter.{Letter}
use Rattle.scaled_plane.specs.declared.point.Pair.{Pair}
use Rattle.flat_fold.specs.declared.motion.Motion.{Motion}
use Rattle.scaled_plane.specs.declared.drawing.Edge.{Edge}
use Rattle.scaled_plane.specs.declared.drawing.Face.{Face}
use Rattle.flat_fold.specs.declared.levels.Reached.{Reached}
use Rattle.flat_fold.specs.declared.levels.Between.{Between}
use Rattle.flat_fold.specs.Computed.{Computed, ComputedField, Fits, ◌>>=◌}
use Rattle.flat_fold.specs.Motions.{identity}
use Rattle.flat_fold.specs.Faces.{Leads, IsWalk}
use Rattle.flat_fold.specs.Folding.{HasLevel, stepping_over, IsPathMap}

-- a map that is kept: the value, or none where the computation overflows
abbrev pub IsMapOf : {A : Type 0} → Option (Motion A) → Computed (Motion A) → Type 0
IsMapOf (Some x) m = Fits m × (x ≡ m.value)
IsMapOf None m = ¬ Fits m

-- the face, where it is reached
abbrev pub at : {A : Type 0} → List (Option (Reached A)) → ℕ → Option (Reached A)
at reached f = slice_index_or reached f None

module _ {A : Type 0} (K : ComputedField A) (coords : List (Pair A)) (edges : List Edge) (faces : List Face) where
  pub record Proper (f : ℕ) (r : Reached A) : Type 0 where
    pub level : HasLevel edges faces f r.level
    pub map : Computed (Motion A)
    pub is_map : IsPathMap K coords edges faces f map
    pub kept : IsMapOf r.map map

  -- in round n, the edges below e have been looked at
  pub record Round (n e : ℕ) (reached : ℕ → Option (Reached A)) : Type 0 where
    pub proper : (f : ℕ) (r : Reached A) → reached f ≡ Some r → Proper f r
    pub low : (f : ℕ) (r : Reached A) → reached f ≡ Some r → r.level ≤ n + 1
    pub complete : (f : ℕ) (es : List ℕ) → IsWalk edges faces 0 es f → length es ≤ n → (r : Reached A) × (reached f ≡ Some r)
    pub passed : (d f g : ℕ) (r : Reached A) → d < e → Leads edges faces d f g → reached f ≡ Some r → r.level ≡ n → (q : Reached A) × (reached g ≡ Some q)

-- every face of the sheet is reached, with its level and its path map
abbrev pub AllReached : {A : Type 0} → ComputedField A → List (Pair A) → List Edge → List Face → (ℕ → Option (Reached A)) → Type 0
AllReached K coords edges faces reached = (f : ℕ) → f < length faces → (r : Reached _) × (reached f ≡ Some r) × Proper K coords edges faces f r

-- how many faces aren't reached
abbrev pub waiting : {A : Type 0} → Option (Reached A) → ℕ
waiting None = 1
waiting (Some r) = 0

abbrev pub unreached : {A : Type 0} → List (Option (Reached A)) → ℕ
unreached reached = sum_by waiting reached

module _ {A : Type 0} (K : ComputedField A) where
  -- the map beyond an edge with this letter and these ends, from the map before
  abbrev pub IsStepped : Letter → Pair A → Pair A → Option (Motion A) → Option (Motion A) → Type 0
  IsStepped letter a b before beyond = (m : Computed (Motion A)) → IsMapOf before m → IsMapOf beyond (m >>= stepping_over K letter a b)

  -- whether the edge with these ends is crossed in round n from the face f to the face g, and what that makes of the faces
  abbrev pub Crosses : ℕ → Letter → Pair A → Pair A → ℕ → ℕ → List (Option (Reached A)) → List (Option (Reached A)) → Bool → Type 0
  Crosses n letter a b f g old new false = (new ≡ old) × ((r : Reached A) → at old f ≡ Some r → r.level ≡ n → (q : Reached A) × (at old g ≡ Some q))
  Crosses n letter a b f g old new true =
      (r : Reached A) × (q : Reached A) × (at old f ≡ Some r) × (r.level ≡ n) × (at old g ≡ None) × (new ≡ slice_set old g (Some q)) × (q.level ≡ n + 1)
      × IsStepped letter a b r.map q.map

-- the two faces between which the edge e leads, if it does
abbrev pub IsCrossing : List Edge → List Face → ℕ → Option Between → Type 0
IsCrossing edges faces e None = (f g : ℕ) → ¬ Leads edges faces e f g
IsCrossing edges faces e (Some b) = Leads edges faces e b.first b.second × ((f g : ℕ) → Leads edges faces e f g → ((f ≡ b.first) × (g ≡ b.second)) ⊎ ((f ≡ b.second) × (g ≡ b.first)))

-- the two faces of each edge are known
pub record KnowsCrossings (edges : List Edge) (faces : List Face) (crossings : List (Option Between)) : Type 0 where
  pub long : length crossings ≡ length edges
  pub each : (e : ℕ) → e < length edges → IsCrossing edges faces e (slice_index_or crossings e None)

-- so many faces, of which face 0 is reached, stays where it is, and no other is reached
pub record IsStart {A : Type 0} (F : OrderedField A) (count : ℕ) (reached : List (Option (Reached A))) : Type 0 where
  pub long : length reached ≡ count
  pub origin : at reached 0 ≡ Some (record { level = 0; map = Some (identity F) })
  pub others : (f : ℕ) → (f ≡ 0) ⊎ (at reached f ≡ None)

-- the map that is kept of a face
abbrev pub map_of : {A : Type 0} → Option (Reached A) → Option (Motion A)
map_of None = None
map_of (Some r) = r.map

-- each face has a map, and these are the maps
pub record AreKept {A : Type 0} (reached : List (Option (Reached A))) (maps : List (Motion A)) : Type 0 where
  pub long : length maps ≡ length reached
  pub each : (f : ℕ) (d : Motion A) → f < length reached → map_of (at reached f) ≡ Some (slice_index_or maps f d)

-- f is the first face that has none
pub record IsFirstWithout {A : Type 0} (reached : List (Option (Reached A))) (f : ℕ) : Type 0 where
  pub within : f < length reached
  pub none : map_of (at reached f) ≡ None
  pub earlier : (g : ℕ) → g < f → ¬ (map_of (at reached g) ≡ None)
