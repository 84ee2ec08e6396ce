-- Lines of the table of a sheet that were found not to hold, and the first flaw.
use Rattle.std.specs.Prelude.{◌≡◌, ◌⊎◌, ℕ, ◌<◌, List, Contains}
use Rattle.algebra.specs.OrderedRing.{OrderedRing}
use Rattle.plane.specs.declared.point.Point.{Point}
use Rattle.scaled_plane.specs.declared.drawing.Edge.{Edge}
use Rattle.scaled_plane.specs.declared.drawing.Face.{Face}
use Rattle.scaled_plane.specs.declared.sheet.SheetFlaw.{SheetFlaw}
use Rattle.scaled_plane.specs.Sheets.{HasFlaw, IsFirstFlaw, line_of}
use Rattle.scaled_plane.specs.WellSet.{HasEnd}
use Rattle.sheet_check.specs.declared.fault.SheetFault.{SheetFault}
use Rattle.sheet_check.specs.declared.fault.SheetFault.TheVariants.{TooWide, Flaw, Memory}

-- the least pair with a property, by the first number and then the second
abbrev pub IsFirstPair : (ℕ → ℕ → Type 0) → ℕ × ℕ → Type 0
IsFirstPair P pair = P pair.0 pair.1 × ((u v : ℕ) → (u < pair.0) ⊎ ((u ≡ pair.0) × (v < pair.1)) → ¬ P u v)

-- the vertex is the end of no edge
abbrev pub IsLoose : List Edge → ℕ → Type 0
IsLoose edges v = (e : Edge) → Contains edges e → ¬ HasEnd e v

module _ {A : Type 0} (K : OrderedRing A) (vertices : List (Point A)) (edges : List Edge) (faces : List Face) where
  -- none of the first lines of the table holds
  abbrev pub HasNoneBefore : ℕ → Type 0
  HasNoneBefore line = (flaw : SheetFlaw) → line_of flaw < line → ¬ HasFlaw K vertices edges faces flaw

  -- the fault is the first flaw by the table, or want of memory
  abbrev pub IsRefusal : SheetFault → Type 0
  IsRefusal (TooWide vertex) = ⊥
  IsRefusal (Flaw flaw) = IsFirstFlaw K vertices edges faces flaw
  IsRefusal (Memory error) = Unit {0}
