-- The walks of a plane drawing, and the lines of the table that they tell of.
use mathlib.Core.Path.{◌≡◌, refl, ap, subst}
use mathlib.Core.List.{List, [], ◌∷◌}
use Rattle.std.proofs.Common.{inl, inr, arith, ℕ, ◌<◌, ◌≤◌, length}
use Rattle.std.specs.Prelude.{ℤ, All, Contains}
use Rattle.algebra.specs.OrderedRing.{OrderedRing}
use Rattle.algebra.specs.Surd.{Surd}
use Rattle.algebra.specs.WholeSurds.{SurdNumbers}
use Rattle.plane.specs.declared.point.Point.{Point}
use Rattle.plane.specs.Points.{origin}
use Rattle.plane.proofs.Members.{in_head, in_nil}
use Rattle.scaled_plane.specs.declared.drawing.Edge.{Edge}
use Rattle.scaled_plane.specs.declared.drawing.Face.{Face}
use Rattle.scaled_plane.specs.declared.sheet.SheetFlaw.TheVariants.{SameVertex, Loose, NotPlane, Parted, EmptySheet}
use Rattle.scaled_plane.specs.Drawn.{IsScaledPoint}
use Rattle.scaled_plane.specs.Scaling.{IsFirstOf}
use Rattle.scaled_plane.specs.Sheets.{HasFlaw}
use Rattle.scaled_plane.specs.Walks.{AreFaces, FollowRound, IsFirstParted, IsOuter, IsOuterWalk, pieces_round}
use Rattle.regions.specs.Faces.{IsConnected}
use Rattle.flat_fold.proofs.SheetPlane.{IsPlaneSet}
use Rattle.face_walks.specs.declared.answer.WalkFault.{WalkFault}
use Rattle.face_walks.specs.declared.answer.WalkFault.TheVariants as walking
use Rattle.sheet_check.specs.Passed.{HasNoneBefore, IsRefusal}
use Rattle.sheet_check.specs.Faults.{of_walking}
use Rattle.sheet_check.proofs.Refusals.{parted_first}
use Rattle.sheet_check.specs.Spans.{AreInRange}

-- scaled vertices and edges between them, of which none of the first three lines holds
pub plane_set : {A : Type 0} {k : ℕ} {surd : A → Surd ℤ} (numbers : SurdNumbers k surd) (vertices : List (Point A)) (edges : List Edge) → All (IsScaledPoint numbers) vertices
    → AreInRange (length vertices) edges → length edges ≤ 2048 → HasNoneBefore numbers.ring vertices edges [] 3 → IsPlaneSet numbers vertices edges
plane_set numbers vertices edges scaled ends few none = record {
  few = omega (arith, few);
  scaled = λ v less. scaled v (origin numbers.ring.ops) less;
  in_range = ends;
  different = λ low high. none (SameVertex low high) (omega arith);
  used = λ v. none (Loose v) (omega arith);
  plane = λ low high. none (NotPlane low high) (omega arith);
}

module _ {A : Type 0} (K : OrderedRing A) (vertices : List (Point A)) (edges : List Edge) where
  pub none_parted : (faces : List Face) → IsConnected K vertices edges → (v : ℕ) → ¬ HasFlaw K vertices edges faces (Parted v)
  none_parted faces connected v flaw = flaw.1 (connected v flaw.0)

  pub first_parted_flaw : (faces : List Face) (v : ℕ) → IsFirstParted edges (length vertices) v → IsFirstOf (λ u. HasFlaw K vertices edges faces (Parted u)) v
  first_parted_flaw faces v h = ((h.in_range, h.parted), λ u less flaw. flaw.1 (h.least u less))

  -- a fault of the walks, as one of the table
  pub refused_walking : (fault : WalkFault) → ((v : ℕ) → fault ≡ walking.Parted v → IsFirstParted edges (length vertices) v)
      → ((faces : List Face) → HasNoneBefore K vertices edges faces 3) → (faces : List Face) → IsRefusal K vertices edges faces (of_walking fault)
  refused_walking (walking.Parted v) parted before faces = parted_first K vertices edges faces v (before faces) (first_parted_flaw faces v (parted v refl))
  refused_walking (walking.Memory error) parted before faces = tt

  pub no_face : (faces found : List Face) → found ≡ [] → AreFaces K vertices edges found → HasFlaw K vertices edges faces EmptySheet
  no_face faces found none h = λ corners walk.
      let face : Face = record { corners = corners } in
      let there = h.every face walk in
      in_nil there.0 (subst (λ (fs : List Face). Contains fs there.0) none there.1)

  pub some_face : (faces found : List Face) → ¬ (found ≡ []) → AreFaces K vertices edges found → ¬ HasFlaw K vertices edges faces EmptySheet
  some_face faces [] some h none = some refl
  some_face faces (f ∷ fs) some h none = none f.corners (h.only f (in_head f fs))

  edge_of : (ps : List (ℕ × ℕ)) → FollowRound K vertices edges ps → (e : Edge) × Contains edges e
  edge_of [] h = absurd h
  edge_of (p ∷ []) h = (h.0.1.piece.0, h.0.1.piece.1)
  edge_of (p ∷ q ∷ rest) h = (h.0.1.piece.0, h.0.1.piece.1)

  -- where there is a face walk there is a vertex, so that the outer walk is one
  pub outer_walk : (found : List Face) (outer : Face) → AreInRange (length vertices) edges → ¬ (found ≡ []) → AreFaces K vertices edges found → IsOuter K vertices edges outer
      → IsOuterWalk K vertices edges outer.corners
  outer_walk found outer ends some h (inr walk) = walk
  outer_walk [] outer ends some h (inl none) = absurd (some refl)
  outer_walk (f ∷ fs) outer ends some h (inl none) =
      let e = edge_of (pieces_round f.corners) (h.only f (in_head f fs)).walk.follow in
      let within : e.0.from < length vertices = (ends e.0 e.1).0 in
      let empty : length vertices ≡ 0 = ap (λ (ps : List (Point A)). length ps) none.0 in
      absurd (omega (arith, within, empty))
