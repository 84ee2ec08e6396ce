-- Whether two faces lie on one side of an edge, by the sides on which their insides lie.
use Rattle.std.proofs.Common.{◌≡◌, ◌∙◌, ap, sym, subst, inl, inr, ℕ, ◌<◌, length, Option, Some, None, ◌↔◌, IsTrue, Bool}
use Rattle.std.specs.Option.{MatchOption, option_eq}
use Rattle.std.specs.declared.cmp.Ordering.{Ordering}
use Rattle.std.specs.Bool.{◌==◌}
use Rattle.std.specs.Ordering.{ordering_index, ordering_reverse}
use Rattle.algebra.specs.OrderedRing.{OrderedRing}
use Rattle.plane.specs.declared.point.Point.{Point}
use Rattle.plane.proofs.Lines.{swapped}
use Rattle.layers.specs.Pieces.{Piece}
use Rattle.layers.specs.Sheets.{FoldedFace, FoldedSheet}
use Rattle.layers.specs.Folded.{IsConvex, IsFolded}
use Rattle.layers.specs.Listing.{AreBeside}
use Rattle.layers.specs.Points.{LiesOn}
use Rattle.layers.proofs.Convex.{centre, centre_is_point, centre_inside}
use Rattle.half_planes.specs.Faces.{InsideLiesOn}
use Rattle.half_planes.specs.Views.{face_at, LiesAs}
use Rattle.half_planes.proofs.Choices.{same_by_test}
use Rattle.half_planes.proofs.SheetFaces.{inside_at, inside_of}
use Rattle.half_planes.proofs.SheetEdges.{convex_at}

pub same_answer : (b : Bool) (answer : Option Ordering) (s : Ordering) → b ≡ option_eq (λ x y. ordering_index x == ordering_index y) answer (Some s) → (IsTrue b ↔ (answer ≡ Some s))
same_answer b None s h = (λ yes. absurd (cc), λ is. absurd (cc))
same_answer b (Some t) s h = let same = same_by_test b t s h in (λ yes. ap Some (same.0 yes), λ is. let e : t ≡ s = cc in same.1 e)

module _ {A : Type 0} (K : OrderedRing A) where
  -- the inside of a convex face is on one side only, since it has points
  only_side : (face : FoldedFace A) → IsConvex K face → (a b : Point A) (s t : Ordering) → InsideLiesOn K a b face s → InsideLiesOn K a b face t → s ≡ t
  only_side face convex a b s t first second =
      let p = centre K face.corners in
      sym (first p (centre_is_point K face convex) (centre_inside K face convex)) ∙ second p (centre_is_point K face convex) (centre_inside K face convex)

  module _ (sheet : FoldedSheet A) (folded : IsFolded K sheet) (e f h : ℕ) (a b : Point A) (lies : LiesAs K sheet e (record { from = a; to = b })) (hf : f < length sheet.faces)
      (hh : h < length sheet.faces) where
    on_side : (s : Ordering) → InsideLiesOn K a b (face_at sheet f) s → InsideLiesOn K a b (face_at sheet h) s → AreBeside K sheet e f h
    on_side s first second = record {
      face = lies.face;
      line = record { from = a; to = b };
      image = lies.image;
      on_side = s;
      first = λ q iq i. first q iq (inside_at K sheet f q i);
      second = λ q iq i. second q iq (inside_at K sheet h q i);
    }

    -- a face on a side of an image of the edge
    as_seen : (g : ℕ) → g < length sheet.faces → (t : Piece A) (s : Ordering) → LiesOn K sheet t s g → t ≡ record { from = a; to = b } → InsideLiesOn K a b (face_at sheet g) s
    as_seen g within t s on is q iq inside =
        subst (λ (u : Piece A). LiesOn K sheet u s g) is on q iq (inside_of K sheet g within q inside)

    as_turned : (g : ℕ) → g < length sheet.faces → (t : Piece A) (s : Ordering) → LiesOn K sheet t s g → t ≡ record { from = b; to = a } → InsideLiesOn K a b (face_at sheet g) (ordering_reverse s)
    as_turned g within t s on is q iq inside =
        swapped K b a q ∙ ap ordering_reverse (subst (λ (u : Piece A). LiesOn K sheet u s g) is on q iq (inside_of K sheet g within q inside))

    its_side : AreBeside K sheet e f h → (s : Ordering) × InsideLiesOn K a b (face_at sheet f) s × InsideLiesOn K a b (face_at sheet h) s
    its_side r = elim (lies.alike r.face r.line r.image) [
      | inl same ↦ (r.on_side, as_seen f hf r.line r.on_side r.first same, as_seen h hh r.line r.on_side r.second same)
      | inr back ↦ (ordering_reverse r.on_side, as_turned f hf r.line r.on_side r.first back, as_turned h hh r.line r.on_side r.second back)
    ]

    pub not_beside : ((s : Ordering) → ¬ InsideLiesOn K a b (face_at sheet f) s) → ¬ AreBeside K sheet e f h
    not_beside none r = let side = its_side r in none side.0 side.1

    pub beside_where : (s : Ordering) → InsideLiesOn K a b (face_at sheet f) s → (answer : Option Ordering)
        → MatchOption answer ((t : Ordering) → ¬ InsideLiesOn K a b (face_at sheet h) t) (λ t. InsideLiesOn K a b (face_at sheet h) t) → ((answer ≡ Some s) ↔ AreBeside K sheet e f h)
    beside_where s first None none = (λ is. absurd (cc), λ r. let side = its_side r in absurd (none side.0 side.2))
    beside_where s first (Some t) second = (
      λ is. let same : t ≡ s = cc in on_side s first (subst (λ (o : Ordering). InsideLiesOn K a b (face_at sheet h) o) same second),
      λ r. let side = its_side r in
          ap Some
          (only_side (face_at sheet h) (convex_at K sheet folded h hh) a b t side.0 second side.2
          ∙ only_side (face_at sheet f) (convex_at K sheet folded f hf) a b side.0 s side.1 first),
    )
