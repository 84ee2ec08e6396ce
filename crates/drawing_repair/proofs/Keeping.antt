-- Segments between scaled points.
use Rattle.std.proofs.Common.{◌<◌, subst, sym}
use Rattle.std.proofs.lemmas.List.Elements.{All-contains}
use Rattle.std.proofs.lemmas.Slice.Zip.{AllZip-long}
use Rattle.std.specs.List.{All, AllZip}
use Rattle.std.specs.Prelude.{ℤ, ℕ, List, length, filter, Contains, pos}
use Rattle.algebra.specs.LowestTerms.{Parts}
use Rattle.algebra.specs.Surd.{Surd}
use Rattle.algebra.specs.WholeSurds.{SurdNumbers}
use Rattle.plane.specs.declared.point.Point.{Point}
use Rattle.scaled_plane.specs.declared.drawing.Edge.{Edge}
use Rattle.scaled_plane.specs.declared.point.Pair.{Pair}
use Rattle.scaled_plane.specs.declared.point.Scaled.{Scaled}
use Rattle.scaled_plane.specs.declared.point.Segment.{Segment}
use Rattle.scaled_plane.specs.Drawn.{IsScaledPoint, IsScaledSegment}
use Rattle.scaled_plane.specs.Scaling.{IsScaledOf, IsScaledWith}
use Rattle.arrangement.proofs.Filtered.{of_filter}
use Rattle.arrangement.proofs.Listed.{seen_in}
use Rattle.arrangement.proofs.Places.{at_there}
use Rattle.arrangement.proofs.Zipped.{of_second}
use Rattle.drawing_repair.specs.Kept.{AreInRange, is_kept, kept_segments, segment_of}
use Rattle.drawing_repair.specs.declared.options.Flat.{Flat}

-- what is in range of a list is in range of one as long
pub as_long : {X Y : Type 0} (R : X → Y → Type 0) (xs : List X) (ys : List Y) (edges : List Edge) → AllZip R xs ys → AreInRange xs edges → AreInRange ys edges
as_long R xs ys edges zip h = subst (λ (n : ℕ). All (λ (e : Edge). (e.from < n) × (e.to < n)) edges) (sym (AllZip-long R xs ys zip)) h

module _ {N W : Type 0} {k : ℕ} {surd : W → Surd ℤ} (parts : N → Parts) (numbers : SurdNumbers k surd) (coords : List (Pair N)) (scaled : Scaled W) (of : IsScaledOf parts numbers coords scaled) where
  pub in_range : (edges : List Edge) → AreInRange coords edges → AreInRange scaled.points edges
  in_range edges h = as_long (IsScaledWith parts numbers (pos of.m)) coords scaled.points edges of.points h

  points_scaled : (p : Point W) → Contains scaled.points p → IsScaledPoint numbers p
  points_scaled p there =
      let s = of_second (IsScaledWith parts numbers (pos of.m)) coords scaled.points of.points p there in
      record { whole = s.2.w; x_within = s.2.x_within; y_within = s.2.y_within }

  -- what is kept are segments between scaled points
  pub segments_scaled : (flat : Flat) (edges : List Edge) → AreInRange coords edges
      → (s : Segment W) → Contains (kept_segments numbers.ring scaled.points flat edges) s → IsScaledSegment numbers s
  segments_scaled flat edges h s there =
      let found = seen_in (segment_of numbers.ring scaled.points) (filter (λ (e : Edge). is_kept flat e.letter) edges) s there in
      let e = found.0 in
      let within = All-contains (λ (d : Edge). (d.from < length scaled.points) × (d.to < length scaled.points)) edges e (in_range edges h)
      (of_filter (λ (d : Edge). is_kept flat d.letter) edges e found.1).0 in
      subst (IsScaledSegment numbers) found.2 (record {
        from = points_scaled _ (at_there numbers.ring scaled.points e.from within.0);
        to = points_scaled _ (at_there numbers.ring scaled.points e.to within.1);
      })
