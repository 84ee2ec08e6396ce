-- The walks of a drawing, from what they are made of.
use Rattle.std.proofs.Common.{◌≡◌, ℕ, ◌<◌, List, length, get_or, sym, ap, subst}
use Rattle.std.specs.Prelude.{ℤ}
use Rattle.algebra.specs.Surd.{Surd}
use Rattle.algebra.specs.WholeSurds.{SurdNumbers}
use Rattle.scaled_plane.specs.declared.drawing.Drawing.{Drawing}
use Rattle.scaled_plane.specs.declared.drawing.Face.{Face}
use Rattle.scaled_plane.specs.Walks.{AreFaces, IsOuterWalk, IsOutside}
use Rattle.scaled_plane.specs.WellSet.{IsWellSet}
use Rattle.half_edges.specs.declared.arena.HalfId.{HalfId}
use Rattle.half_edges.specs.Halves.{Halves, IsArena, count}
use Rattle.face_walks.specs.declared.headings.Heading.{Heading}
use Rattle.face_walks.specs.Fitting.{AreFacesWithin}
use Rattle.face_walks.specs.Found.{AreCycles}
use Rattle.face_walks.specs.Linked.{IsLinked, piece_at}
use Rattle.face_walks.specs.Links.{LeadRound}
use Rattle.face_walks.specs.Made.{AreMade}
use Rattle.face_walks.specs.Outside.{IsOutsideHalf}
use Rattle.face_walks.proofs.Assembling.{held, led, outside_below, outside_is}
use Rattle.face_walks.proofs.Counted.{are_within}
use Rattle.face_walks.proofs.Facing.{are_faces, outer_walk}
use Rattle.face_walks.proofs.Linking.{linked}
use Rattle.face_walks.proofs.Settled.{plane}

module _ {A : Type 0} {k : ℕ} {surd : A → Surd ℤ} (numbers : SurdNumbers k surd) (drawing : Drawing A) (set : IsWellSet numbers drawing)
    (first : Halves (ℕ × ℕ)) (headings : List (Heading A)) (rings : List (List HalfId)) (m : AreMade numbers drawing first headings rings)
    (arena : Halves (ℕ × ℕ)) (is : IsArena arena) (payloads : arena.payloads ≡ first.payloads) (as_many : count arena ≡ count first)
    (round : LeadRound arena rings (length rings)) where
  pub is_linked : IsLinked numbers.ring drawing.vertices drawing.edges arena
  is_linked = linked numbers drawing set first (held numbers drawing set first m.pairs) headings (led numbers drawing set first m.pairs headings m.headed)
      rings m.as_many m.ringed arena is payloads as_many round

  module _ (o : ℕ) (out : IsOutsideHalf numbers.ring drawing.vertices rings headings o) where
    pub below : o < count arena
    below = subst (λ (n : ℕ). o < n) (sym as_many) (outside_below numbers drawing set first m.pairs headings m.headed rings m.as_many m.ringed o out)

    out_at : IsOutside numbers.ring drawing.vertices drawing.edges (piece_at arena o).0 (piece_at arena o).1
    out_at = subst (λ (p : ℕ × ℕ). IsOutside numbers.ring drawing.vertices drawing.edges p.0 p.1)
        (ap (λ (ps : List (ℕ × ℕ)). get_or ps o (0, 0)) (sym payloads))
        (outside_is numbers drawing set first m.pairs headings m.headed rings m.as_many m.ringed o out)

    module _ (faces : List Face) (outer : List ℕ) (c : AreCycles arena o faces outer) where
      pub faces_are : AreFaces numbers.ring drawing.vertices drawing.edges faces
      faces_are = are_faces numbers.ring drawing.vertices drawing.edges (plane numbers drawing set) arena is_linked o below out_at faces outer c

      pub outer_is : IsOuterWalk numbers.ring drawing.vertices drawing.edges outer
      outer_is = outer_walk numbers.ring drawing.vertices drawing.edges (plane numbers drawing set) arena is_linked o below out_at faces outer c

      pub within : AreFacesWithin (length drawing.vertices) faces
      within = are_within numbers.ring drawing.vertices drawing.edges (plane numbers drawing set) arena is_linked o faces outer c
