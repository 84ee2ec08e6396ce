-- Edges by the faces along their two directed pieces.
use Rattle.std.specs.Prelude.{◌==◌, ℕ, Bool, true, false, Option, None, Some, not}
use Rattle.std.specs.BTreeMap.{BTreeMap, get}
use Rattle.fold_base.specs.declared.letter.Letter.{Letter}
use Rattle.fold_base.specs.declared.letter.Letter.TheVariants.{Border, Mountain, Valley, Flat, Unassigned, Cut, Join}
use Rattle.scaled_plane.specs.declared.drawing.Edge.{Edge}
use Rattle.flat_fold.specs.declared.sides.Side.{Side}
use Rattle.flat_fold.specs.EdgeSides.{piece_order}

abbrev pub is_border : Letter → Bool
is_border Border = true
is_border Mountain = false
is_border Valley = false
is_border Flat = false
is_border Unassigned = false
is_border Cut = false
is_border Join = false

-- one face lies along the edge: along one of its two pieces, or along both
abbrev pub is_one : Option Side → Option Side → Bool
is_one None None = false
is_one None (Some right) = true
is_one (Some left) None = true
is_one (Some left) (Some right) = left.face == right.face

abbrev pub differ : Bool → Bool → Bool
differ true b = not b
differ false b = b

-- the edge has letter B and not one face, or another letter and one face
abbrev pub is_wrong_border : BTreeMap (ℕ × ℕ) Side → Edge → Bool
is_wrong_border pieces e = differ (is_border e.letter) (is_one (get piece_order pieces (e.from, e.to)) (get piece_order pieces (e.to, e.from)))
