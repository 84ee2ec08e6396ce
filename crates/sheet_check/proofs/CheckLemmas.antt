-- A sheet, or the first flaw, from what the check of the scaled vertices found.
use mathlib.Core.Path.{◌≡◌, refl, subst, sym}
use mathlib.Core.List.{List}
use Rattle.std.proofs.Common.{arith, pos, ℕ, ◌<◌, ◌≤◌, length}
use Rattle.std.specs.Prelude.{ℤ, All, Contains, Err, Ok, OnOk, Result}
use Rattle.std.proofs.lemmas.List.{get_or_default}
use Rattle.std.proofs.lemmas.Slice.Zip.{AllZip-long}
use Rattle.std.proofs.lemmas.List.Elements.{All-contains, All-from_recursion}
use Rattle.algebra.specs.LowestTerms.{Parts}
use Rattle.algebra.specs.OrderedRing.{OrderedRing}
use Rattle.algebra.specs.Surd.{Surd}
use Rattle.algebra.specs.WholeSurds.{SurdNumbers}
use Rattle.plane.specs.declared.point.Point.{Point}
use Rattle.plane.specs.Points.{origin}
use Rattle.flat_fold.specs.Sheets.{FormSheet}
use Rattle.flat_fold.proofs.SheetPlane.{scaled-points}
use Rattle.scaled_plane.specs.declared.drawing.Edge.{Edge}
use Rattle.scaled_plane.specs.declared.drawing.Ends.{Ends}
use Rattle.scaled_plane.specs.declared.drawing.Face.{Face}
use Rattle.scaled_plane.specs.declared.point.Scaled.{Scaled}
use Rattle.scaled_plane.specs.declared.scaled.ScaleFault.{ScaleFault}
use Rattle.scaled_plane.specs.declared.scaled.ScaleFault.TheVariants as scaling
use Rattle.scaled_plane.specs.declared.sheet.SheetFlaw.{SheetFlaw}
use Rattle.scaled_plane.specs.declared.sheet.SheetFlaw.TheVariants.{SameVertex, Loose, NotPlane, Parted, EmptySheet, FaceWrong, FaceMissing, NotConvex, BorderWrong, Pinched, Severed}
use Rattle.scaled_plane.specs.Drawn.{IsScaledPoint}
use Rattle.scaled_plane.specs.Scaling.{IsScaledOf, IsScaledWith, IsTooWide}
use Rattle.scaled_plane.specs.Sheets.{IsSheet, line_of}
use Rattle.sheet_check.specs.Passed.{HasNoneBefore, IsRefusal}
use Rattle.sheet_check.specs.Faults.{of_scaling}
use Rattle.sheet_check.specs.Refused.{AreSheetSizes, RefusesSheet}
use Rattle.sheet_check.specs.Spans.{AreInRange}
use Rattle.sheet_check.specs.declared.fault.SheetFault.{SheetFault}
use Rattle.sheet_check.specs.declared.fault.SheetFault.TheVariants.{TooWide, Flaw, Memory}

-- the table has no line past the last
few_lines : (flaw : SheetFlaw) → line_of flaw < 11
few_lines (SameVertex low high) = omega arith
few_lines (Loose v) = omega arith
few_lines (NotPlane low high) = omega arith
few_lines (Parted v) = omega arith
few_lines EmptySheet = omega arith
few_lines (FaceWrong f) = omega arith
few_lines (FaceMissing u v) = omega arith
few_lines (NotConvex f v) = omega arith
few_lines (BorderWrong e) = omega arith
few_lines (Pinched v) = omega arith
few_lines (Severed f) = omega arith

pub all_passed : {A : Type 0} (K : OrderedRing A) (points : List (Point A)) (edges : List Edge) (faces : List Face) {T : Type 0} (r : Result T SheetFault)
    → OnOk r (HasNoneBefore K points edges faces 11) → OnOk r (IsSheet K points edges faces)
all_passed K points edges faces (Ok x) none = λ flaw. none flaw (few_lines flaw)
all_passed K points edges faces (Err e) h = h

-- what holds of vertices and edges holds of the lists that are equal to them
pub seen_as : {A : Type 0} (P : List (Point A) → List Edge → Type 0) (vertices seen : List (Point A)) (edges seen_edges : List Edge) → vertices ≡ seen → edges ≡ seen_edges
    → P vertices edges → P seen seen_edges
seen_as P vertices seen edges seen_edges e f h = subst (P seen) f (subst (λ vs. P vs edges) e h)

module _ {N : Type 0} (parts : N → Parts) {W : Type 0} {k : ℕ} {surd : W → Surd ℤ} (numbers : SurdNumbers k surd) (ends : Ends N) (faces : List Face) where
  module _ (scaled : Scaled W) (of : IsScaledOf parts numbers ends.coords scaled) where
    pub all_scaled : All (IsScaledPoint numbers) scaled.points
    all_scaled i d less =
        subst (IsScaledPoint numbers) (get_or_default scaled.points i (origin numbers.ring.ops) d less) (scaled-points parts numbers ends.coords scaled of i less)

    pub refused_scaled : (fault : SheetFault) → IsRefusal numbers.ring scaled.points ends.edges faces fault → RefusesSheet parts numbers ends faces fault
    refused_scaled (TooWide vertex) h = absurd h
    refused_scaled (Flaw flaw) h = (scaled, of, h)
    refused_scaled (Memory error) h = tt

    module _ (sizes : AreSheetSizes ends faces) where
      edge_in_range : (e : Edge) → Contains ends.edges e → (e.from < length ends.coords) × (e.to < length ends.coords)
      edge_in_range e there =
          All-contains (λ (d : Edge). (d.from < length ends.coords) × (d.to < length ends.coords)) ends.edges e
          (All-from_recursion (λ (d : Edge). (d.from < length ends.coords) × (d.to < length ends.coords)) ends.edges sizes.each_edge) there

      as_many : length scaled.points ≡ length ends.coords
      as_many = AllZip-long (IsScaledWith parts numbers (pos of.m)) ends.coords scaled.points of.points

      pub few_points : length scaled.points ≤ 16384
      few_points = let many = as_many in let few = sizes.few_vertices in omega (arith, many, few)

      pub ends_in_range : AreInRange (length scaled.points) ends.edges
      ends_in_range e there = subst (λ (n : ℕ). (e.from < n) × (e.to < n)) (sym as_many) (edge_in_range e there)

      pub form_sheet : IsSheet numbers.ring scaled.points ends.edges faces → FormSheet parts numbers ends faces
      form_sheet none = record {
        in_range = edge_in_range;
        few_vertices = sizes.few_vertices;
        few_edges = sizes.few_edges;
        few_faces = sizes.few_faces;
        scaled = scaled;
        is_scaled = of;
        sheet = none;
      }

  pub refused_scaling : (fault : ScaleFault) → ((v : ℕ) → fault ≡ scaling.TooWide v → IsTooWide parts ends.coords v) → RefusesSheet parts numbers ends faces (of_scaling fault)
  refused_scaling (scaling.TooWide vertex) h = h vertex refl
  refused_scaling (scaling.Memory error) h = tt
