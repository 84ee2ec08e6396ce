-- The unit square folded in half along a diagonal: its second face lies turned over on the first,
-- and an order says so.
use Rattle.std.specs.Prelude.{ℕ, ℤ, pos, false, true, List, [], ◌∷◌}
use Rattle.std.specs.declared.cmp.Ordering.TheVariants.{Less, Greater}
use Rattle.fold_base.specs.declared.letter.Letter.TheVariants.{Border, Valley}
use Rattle.plane.specs.declared.point.Point.{Point}
use Rattle.layers.specs.Sheets.{FoldedFace, FaceSide, FoldedEdge, FoldedSheet}
use Rattle.layers.specs.Orders.{LayerOrder}

abbrev pub corner : ℤ → ℤ → Point ℤ
corner x y = record { x = x; y = y; w = pos 1 }

abbrev pub lower : FoldedFace ℤ
lower = record { corners = corner (pos 0) (pos 0) ∷ corner (pos 1) (pos 0) ∷ corner (pos 1) (pos 1) ∷ []; turned = false }

abbrev pub upper : FoldedFace ℤ
upper = record { corners = corner (pos 0) (pos 0) ∷ corner (pos 1) (pos 1) ∷ corner (pos 1) (pos 0) ∷ []; turned = true }

abbrev pub side_at : ℕ → ℕ → FaceSide
side_at f c = record { face = f; corner = c }

abbrev pub border : ℕ → ℕ → FoldedEdge
border f c = record { letter = Border; sides = side_at f c ∷ [] }

abbrev pub diagonal : FoldedEdge
diagonal = record { letter = Valley; sides = side_at 0 2 ∷ side_at 1 0 ∷ [] }

abbrev pub square : FoldedSheet ℤ
square = record { faces = lower ∷ upper ∷ []; edges = border 0 0 ∷ border 0 1 ∷ border 1 1 ∷ border 1 2 ∷ diagonal ∷ [] }

-- the upper face lies on the normal side of the lower one
abbrev pub upper_on_lower : LayerOrder
upper_on_lower = record { face = 1; other = 0; normal_side = Greater }

abbrev pub orders : List LayerOrder
orders = upper_on_lower ∷ []

-- the upper face lies at the back of the lower one
abbrev pub upper_behind_lower : LayerOrder
upper_behind_lower = record { face = 1; other = 0; normal_side = Less }

abbrev pub misorders : List LayerOrder
misorders = upper_behind_lower ∷ []
