-- Folding: where the faces of a sheet come to lie.
use Rattle.std.specs.Prelude.{◌≡◌, ◌⊎◌, ℕ, List, [], ◌∷◌, ◌<◌, ◌≤◌, ◌+◌, pos, Bool, true, false, not, length, slice_index_or, if◌then◌else◌}
use Rattle.algebra.specs.OrderedField.{OrderedField}
use Rattle.fold_base.specs.declared.letter.Letter.{Letter}
use Rattle.fold_base.specs.declared.letter.Letter.TheVariants.{Border, Mountain, Valley, Flat, Unassigned, Cut, Join}
use Rattle.scaled_plane.specs.declared.point.Pair.{Pair}
use Rattle.flat_fold.specs.declared.motion.Motion.{Motion}
use Rattle.scaled_plane.specs.declared.drawing.Edge.{Edge}
use Rattle.scaled_plane.specs.declared.drawing.Face.{Face}
use Rattle.flat_fold.specs.Computed.{Computed, ComputedField, Fits, at_hand, ◌>>=◌}
use Rattle.flat_fold.specs.Motions.{place, identity, composed, reflection}
use Rattle.flat_fold.specs.Operations.{placing, composing, reflecting}
use Rattle.flat_fold.specs.Faces.{edge_at, corners_at, LiesAlong, Leads, IsWalk, IsSevered}

-- the sheet is folded at an edge with this letter, if it isn't parted there
abbrev pub is_crease : Letter → Bool
is_crease Border = false
is_crease Cut = false
is_crease Mountain = true
is_crease Valley = true
is_crease Unassigned = true
is_crease Flat = false
is_crease Join = false

-- two maps place the ends a and b of an edge alike, and exactly at a crease one of them is turned and the other isn't
pub record AgreeAt {A : Type 0} (F : OrderedField A) (letter : Letter) (a b : Pair A) (m n : Motion A) : Type 0 where
  pub from : place F m a ≡ place F n a
  pub to : place F m b ≡ place F n b
  pub turned : n.turned ≡ (if is_crease letter then not m.turned else m.turned)

module _ {A : Type 0} (F : OrderedField A) (coords : List (Pair A)) where
  -- where the vertex lies in the sheet
  abbrev pub point : ℕ → Pair A
  point v = slice_index_or coords v (record { x = F.int (pos 0); y = F.int (pos 0) })

  -- what it does to the map of a face to cross an edge: a crease reflects
  abbrev pub crossing : Edge → Motion A
  crossing edge = (if is_crease edge.letter then reflection F (point edge.from) (point edge.to) else identity F)

  -- the maps of the two faces of an edge agree at it
  abbrev pub Agree : Edge → Motion A → Motion A → Type 0
  Agree edge m n = AgreeAt F edge.letter (point edge.from) (point edge.to) m n

  module _ (edges : List Edge) where
    -- the map of a walk
    abbrev pub walk_map : List ℕ → Motion A
    walk_map [] = identity F
    walk_map (e ∷ es) = composed F (crossing (edge_at edges e)) (walk_map es)

    -- every closed walk leaves the faces where they are
    abbrev pub Closes : List Face → Type 0
    Closes faces = (f : ℕ) (es : List ℕ) → IsWalk edges faces f es f → walk_map es ≡ identity F

module _ (edges : List Edge) (faces : List Face) where
  -- the shortest walk from face 0 to f has n edges
  pub record HasLevel (f n : ℕ) : Type 0 where
    pub reached : (es : List ℕ) × (length es ≡ n) × IsWalk edges faces 0 es f
    pub shortest : (es : List ℕ) → IsWalk edges faces 0 es f → n ≤ length es

  -- e is the least edge that leads from a face g at level n to the face f at level n + 1
  pub record IsEntry (f g e : ℕ) : Type 0 where
    pub level : ℕ
    pub before : HasLevel g level
    pub here : HasLevel f (level + 1)
    pub leads : Leads edges faces e g f
    pub least : (d h : ℕ) → HasLevel h level → Leads edges faces d h f → e ≤ d

module _ {A : Type 0} (K : ComputedField A) where
  -- the operations that lead over an edge with this letter and these ends, from the map of the face before
  unfoldable pub stepping_over : Letter → Pair A → Pair A → Motion A → Computed (Motion A)
  stepping_over letter a b m = (if is_crease letter then (reflecting K a b >>= composing K m) else at_hand m)

  abbrev pub stepping : List (Pair A) → Edge → Motion A → Computed (Motion A)
  stepping coords edge m = stepping_over edge.letter (point K.field coords edge.from) (point K.field coords edge.to) m

module _ {A : Type 0} (K : ComputedField A) (coords : List (Pair A)) (edges : List Edge) (faces : List Face) where
  -- the path map of each face, with the numbers formed on the way to it
  pub data IsPathMap : ℕ → Computed (Motion A) → Type 0 where
    first : IsPathMap 0 (at_hand (identity K.field))
    next : {f g e : ℕ} {m : Computed (Motion A)} → IsEntry edges faces f g e → IsPathMap g m → IsPathMap f (m >>= stepping K coords (edge_at edges e))

  -- ---- edges that disagree

  -- the path maps of the two faces of e don't agree
  pub record Disagrees (e : ℕ) : Type 0 where
    pub face : ℕ
    pub other : ℕ
    pub map : Computed (Motion A)
    pub other_map : Computed (Motion A)
    pub leads : Leads edges faces e face other
    pub is_map : IsPathMap face map
    pub is_other_map : IsPathMap other other_map
    pub apart : ¬ Agree K.field coords (edge_at edges e) map.value other_map.value

  -- e is the least edge that disagrees
  pub record IsFirstDisagreeing (e : ℕ) : Type 0 where
    pub disagrees : Disagrees e
    pub least : (d : ℕ) → d < e → ¬ Disagrees d

  -- ---- numbers past their range

  -- all that is formed on the way to path maps is in range
  abbrev pub AllMapsFit : Type 0
  AllMapsFit = (f : ℕ) (m : Computed (Motion A)) → IsPathMap f m → Fits m

  -- f is the least face whose path map overflows
  pub record IsFirstMapPast (f : ℕ) : Type 0 where
    pub map : Computed (Motion A)
    pub is_map : IsPathMap f map
    pub past : ¬ Fits map
    pub least : (g : ℕ) (m : Computed (Motion A)) → g < f → IsPathMap g m → Fits m

  -- the place that the path map of f gives its corner k
  abbrev pub corner_placing : Motion A → ℕ → ℕ → Computed (Pair A)
  corner_placing m f k = placing K m (point K.field coords (slice_index_or (corners_at faces f) k 0))

  abbrev pub PlaceFits : ℕ → ℕ → Type 0
  PlaceFits f k = (m : Computed (Motion A)) → IsPathMap f m → k < length (corners_at faces f) → Fits (corner_placing m.value f k)

  -- all that is formed on the way to path maps and places is in range
  pub record AllFits : Type 0 where
    pub maps : AllMapsFit
    pub places : (f k : ℕ) → PlaceFits f k

-- ---- what folding asks of a sheet

module _ {A : Type 0} (F : OrderedField A) (coords : List (Pair A)) (edges : List Edge) (faces : List Face) where
  pub record IsFoldable : Type 0 where
    -- the two ends of an edge between faces lie apart
    pub apart : (e f g : ℕ) → Leads edges faces e f g → ¬ (point F coords (edge_at edges e).from ≡ point F coords (edge_at edges e).to)
    -- each directed piece has one face at its left
    pub one_face : (u v f g : ℕ) → LiesAlong edges faces f u v → LiesAlong edges faces g u v → f ≡ g
    -- no face is severed
    pub some_face : 0 < length faces
    pub reached : (f : ℕ) → f < length faces → ¬ IsSevered edges faces f
    -- each edge has its ends among the vertices
    pub ends : (e : ℕ) → e < length edges → ((edge_at edges e).from < length coords) × ((edge_at edges e).to < length coords)

  -- each edge of a walk has the vertex v as an end, so that the walk goes round v
  abbrev pub GoesRound : ℕ → List ℕ → Type 0
  GoesRound v [] = Unit {0}
  GoesRound v (e ∷ es) = (((edge_at edges e).from ≡ v) ⊎ ((edge_at edges e).to ≡ v)) × GoesRound v es
