-- Vertices, edges and faces that can be asked about, and why they are no sheet.
use Rattle.std.specs.Prelude.{ℕ, ℤ, ◌<◌, ◌≤◌, List, length}
use Rattle.std.specs.List.{AllByRecursion}
use Rattle.algebra.specs.LowestTerms.{Parts}
use Rattle.algebra.specs.Surd.{Surd}
use Rattle.algebra.specs.WholeSurds.{SurdNumbers}
use Rattle.scaled_plane.specs.declared.drawing.Ends.{Ends}
use Rattle.scaled_plane.specs.declared.drawing.Face.{Face}
use Rattle.scaled_plane.specs.declared.point.Scaled.{Scaled}
use Rattle.scaled_plane.specs.declared.sheet.SheetFlaw.{SheetFlaw}
use Rattle.scaled_plane.specs.Scaling.{IsScaledOf, IsTooWide}
use Rattle.scaled_plane.specs.Sheets.{IsFirstFlaw}
use Rattle.flat_fold.specs.Sheets.{most_edges, most_faces, most_vertices}
use Rattle.sheet_check.specs.declared.fault.SheetFault.{SheetFault}
use Rattle.sheet_check.specs.declared.fault.SheetFault.TheVariants.{TooWide, Flaw, Memory}

-- no more than a sheet has, and edges between vertices that are there
pub record AreSheetSizes {N : Type 0} (ends : Ends N) (faces : List Face) : Type 0 where
  pub few_vertices : length ends.coords ≤ most_vertices
  pub few_edges : length ends.edges ≤ most_edges
  pub few_faces : length faces ≤ most_faces
  pub each_edge : AllByRecursion (λ e. (e.from < length ends.coords) × (e.to < length ends.coords)) ends.edges

module _ {N : Type 0} (parts : N → Parts) {W : Type 0} {k : ℕ} {surd : W → Surd ℤ} (numbers : SurdNumbers k surd) (ends : Ends N) (faces : List Face) where
  -- the vertices, scaled to whole numbers, have this as the first flaw with their edges and faces
  abbrev pub IsFirstFlawScaled : SheetFlaw → Type 0
  IsFirstFlawScaled flaw = (scaled : Scaled W) × IsScaledOf parts numbers ends.coords scaled
      × IsFirstFlaw numbers.ring scaled.points ends.edges faces flaw

  -- the first vertex that is too wide, or the first flaw
  abbrev pub HasNoSheet : SheetFault → Type 0
  HasNoSheet (TooWide vertex) = IsTooWide parts ends.coords vertex
  HasNoSheet (Flaw flaw) = IsFirstFlawScaled flaw
  HasNoSheet (Memory error) = ⊥

  -- that, or want of memory
  abbrev pub RefusesSheet : SheetFault → Type 0
  RefusesSheet (TooWide vertex) = HasNoSheet (TooWide vertex)
  RefusesSheet (Flaw flaw) = HasNoSheet (Flaw flaw)
  RefusesSheet (Memory error) = Unit {0}
