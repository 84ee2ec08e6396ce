-- What a table of who is above whom has to do with a list of orders, and what an edge has to do with
-- its two faces.
use Rattle.std.specs.Prelude.{◌≡◌, ◌↔◌, ◌⊎◌, ℕ, ◌<◌, ◌+◌, ◌*◌, Bool, true, List, Some, length, slice_get}
use Rattle.algebra.specs.OrderedRing.{OrderedRing}
use Rattle.fold_base.specs.declared.letter.Letter.{Letter}
use Rattle.fold_base.specs.declared.letter.Letter.TheVariants.{Cut}
use Rattle.layers.specs.Sheets.{FoldedSheet, HasFaces}
use Rattle.layers.specs.Orders.{LayerOrder, Above, Says}
use Rattle.half_planes.specs.Views.{edge_at}

-- in a table with a row for each face, and in it a cell for each face, the cell of f and g is marked
pub record IsMarked (count : ℕ) (cells : List Bool) (f g : ℕ) : Type 0 where
  pub row_within : f < count
  pub column_within : g < count
  pub marked : slice_get cells (f * count + g) ≡ Some true

module _ {A : Type 0} (sheet : FoldedSheet A) where
  -- the orders say of no faces but these that the one is above the other
  abbrev pub IsSaid : LayerOrder → ℕ × ℕ → Type 0
  IsSaid order pair = (f g : ℕ) → Says sheet order f g ↔ ((f ≡ pair.0) × (g ≡ pair.1))

  abbrev pub SaysNothing : LayerOrder → Type 0
  SaysNothing order = (f g : ℕ) → ¬ Says sheet order f g

  -- the two orders say opposite things of two faces
  pub record AreOpposed (first second : LayerOrder) : Type 0 where
    pub upper : ℕ
    pub lower : ℕ
    pub first_says : Says sheet first upper lower
    pub second_says : Says sheet second lower upper

  module _ (count : ℕ) (cells : List Bool) where
    -- the cells that are marked are those of which the orders say that the one is above the other
    abbrev pub Tells : List LayerOrder → Type 0
    Tells orders = (f g : ℕ) → IsMarked count cells f g ↔ Above sheet orders f g

    -- what the order says has been marked, and the opposite wasn't
    pub record TakesUp (order : LayerOrder) (marked : List Bool) : Type 0 where
      pub marks : (f g : ℕ) → IsMarked count marked f g ↔ (IsMarked count cells f g ⊎ Says sheet order f g)
      pub agrees : (f g : ℕ) → Says sheet order f g → ¬ IsMarked count cells g f

    -- the opposite of what the order says is marked
    pub record Contradicts (order : LayerOrder) : Type 0 where
      pub upper : ℕ
      pub lower : ℕ
      pub says : Says sheet order upper lower
      pub marked : IsMarked count cells lower upper

module _ {A : Type 0} (K : OrderedRing A) (sheet : FoldedSheet A) where
  -- the two faces of an edge, which are of the sheet
  pub record IsTwoFaced (e f g : ℕ) : Type 0 where
    pub faces : HasFaces K sheet e f g
    pub first_within : f < length sheet.faces
    pub second_within : g < length sheet.faces

  -- an edge of the sheet that isn't cut, and its two faces
  pub record IsUncut (e f g : ℕ) : Type 0 where
    pub faces : HasFaces K sheet e f g
    pub edge_within : e < length sheet.edges
    pub first_within : f < length sheet.faces
    pub second_within : g < length sheet.faces
    pub not_cut : ¬ ((edge_at sheet e).letter ≡ Cut)

  -- such an edge with such a letter
  pub record IsLettered (Lettered : Letter → Type 0) (e f g : ℕ) : Type 0 where
    pub uncut : IsUncut e f g
    pub lettered : Lettered uncut.faces.edge.letter

  -- no edge with such a letter and two faces has this place
  abbrev pub NoneLettered : (Letter → Type 0) → ℕ → Type 0
  NoneLettered Lettered e = (f g : ℕ) (faces : HasFaces K sheet e f g) → ¬ Lettered faces.edge.letter
