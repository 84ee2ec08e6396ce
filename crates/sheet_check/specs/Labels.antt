-- Faces that edges can be crossed between, and labels that are equal where edges lead from one face to the other.
use Rattle.std.specs.Prelude.{◌≡◌, ◌⊎◌, ◌==◌, ◌<◌, ℕ, List, Bool, true, false, Option, None, Some, if◌then◌else◌, length, slice_index}
use Rattle.std.specs.BTreeMap.{BTreeMap, get}
use Rattle.fold_base.specs.declared.letter.Letter.{Letter}
use Rattle.fold_base.specs.declared.letter.Letter.TheVariants.{Border, Mountain, Valley, Flat, Unassigned, Cut, Join}
use Rattle.scaled_plane.specs.declared.drawing.Edge.{Edge}
use Rattle.scaled_plane.specs.Lists.{IsReached}
use Rattle.flat_fold.specs.declared.sides.Side.{Side}
use Rattle.flat_fold.specs.EdgeSides.{piece_order}
use Rattle.flat_fold.specs.Faces.{edge_at}

-- the letter is neither B nor C
abbrev pub can_cross : Letter → Bool
can_cross Border = false
can_cross Mountain = true
can_cross Valley = true
can_cross Flat = true
can_cross Unassigned = true
can_cross Cut = false
can_cross Join = true

abbrev pub both_faces : Option Side → Option Side → Option (ℕ × ℕ)
both_faces None right = None
both_faces (Some left) None = None
both_faces (Some left) (Some right) = Some (left.face, right.face)

abbrev pub crossed_by : Bool → Option (ℕ × ℕ) → Option (ℕ × ℕ)
crossed_by false faces = None
crossed_by true faces = faces

-- the faces at the two sides of the edge, where it can be crossed
abbrev pub crossing_of : BTreeMap (ℕ × ℕ) Side → Edge → Option (ℕ × ℕ)
crossing_of pieces e = crossed_by (can_cross e.letter) (both_faces (get piece_order pieces (e.from, e.to)) (get piece_order pieces (e.to, e.from)))

-- one label is put in place of another
abbrev pub relabelled : ℕ → ℕ → ℕ → ℕ
relabelled gone kept label = if label == gone then kept else label

pub record Relabels (gone kept : ℕ) (old new : List ℕ) : Type 0 where
  pub long : length new ≡ length old
  pub each : (x : ℕ) → x < length old → slice_index new x ≡ relabelled gone kept (slice_index old x)

module _ (pieces : BTreeMap (ℕ × ℕ) Side) (edges : List Edge) where
  -- one of the edges can be crossed between the two faces
  abbrev pub Crosses : ℕ → ℕ → Type 0
  Crosses f g = (e : ℕ) × (e < length edges) × ((crossing_of pieces (edge_at edges e) ≡ Some (f, g)) ⊎ (crossing_of pieces (edge_at edges e) ≡ Some (g, f)))

  -- faces between which one of the first n edges can be crossed have one label, and none have but those that edges lead between
  pub record AreLabelled (n count : ℕ) (labels : List ℕ) : Type 0 where
    pub long : length labels ≡ count
    pub joined : (e f g : ℕ) → e < n → crossing_of pieces (edge_at edges e) ≡ Some (f, g) → slice_index labels f ≡ slice_index labels g
    pub only : (f g : ℕ) → f < count → g < count → slice_index labels f ≡ slice_index labels g → IsReached Crosses f g

-- the label of a face is its number
pub record AreOwn (count : ℕ) (labels : List ℕ) : Type 0 where
  pub long : length labels ≡ count
  pub own : (x : ℕ) → x < count → slice_index labels x ≡ x

-- the face at this place has another label than face 0
abbrev pub HasOther : List ℕ → ℕ → Type 0
HasOther labels f = (f < length labels) × ¬ (slice_index labels f ≡ slice_index labels 0)
