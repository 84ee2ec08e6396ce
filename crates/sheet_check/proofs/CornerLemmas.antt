-- Corners of faces that go round walks, and of walks: they are vertices; and no two such faces have one directed piece.
use Rattle.std.proofs.Common.{◌≡◌, ◌∙◌, sym, subst, ℕ, List, [], ◌<◌, ◌^◌, length, inl, inr, arith}
use Rattle.std.specs.Prelude.{Contains, slice_index_or}
use Rattle.std.proofs.lemmas.Bool.{cases_lt}
use Rattle.std.proofs.lemmas.List.{get_or_default, get_or_past}
use Rattle.std.proofs.lemmas.List.Elements.{All-contains, All-from_recursion, Contains-append_cases, Contains-append_left, Contains-append_right}
use Rattle.std.proofs.lemmas.Option.{get_or_from_slice_get, slice_get_cases}
use Rattle.algebra.specs.OrderedRing.{OrderedRing}
use Rattle.plane.specs.declared.point.Point.{Point}
use Rattle.plane.proofs.First.{same_or_not}
use Rattle.plane.proofs.Members.{in_nil}
use Rattle.scaled_plane.specs.declared.drawing.Edge.{Edge}
use Rattle.scaled_plane.specs.declared.drawing.Face.{Face}
use Rattle.scaled_plane.specs.Lists.{IsRotation}
use Rattle.scaled_plane.specs.Walks.{IsDirectedPiece, IsWalk, pieces_round}
use Rattle.regions.proofs.Rotations.{rotated_back, rotated_then}
use Rattle.face_walks.specs.Fitting.{AreFacesWithin, HasCornersWithin}
use Rattle.flat_fold.specs.Faces.{corners_at}
use Rattle.flat_fold.proofs.FewCorners.{walk-directed}
use Rattle.flat_fold.proofs.FoldingLaws.{in_range}
use Rattle.flat_fold.proofs.SideLaws.{length-pieces, piece-first}
use Rattle.sheet_check.specs.Listed.{AreApart, AreRight, GoRound}
use Rattle.sheet_check.specs.Spans.{AreInRange}
use Rattle.sheet_check.proofs.BorderLemmas.{Along}
use Rattle.sheet_check.proofs.ListingLemmas.{rotated_piece, rotation_long}

abbrev no_face : Face
no_face = record { corners = [] }

rotated_in : (xs ys : List ℕ) → IsRotation xs ys → (z : ℕ) → Contains xs z → Contains ys z
rotated_in xs ys (front, back, e, f) z i =
    subst (λ (c : List ℕ). Contains c z) (sym f) (elim (Contains-append_cases front back z (subst (λ (c : List ℕ). Contains c z) e i)) [
      | inl a ↦ Contains-append_right back front z a
      | inr b ↦ Contains-append_left back front z b
    ])

-- ---- walks within bounds

module _ (count : ℕ) (walks : List Face) (within : AreFacesWithin count walks) where
  face_within : (w : ℕ) → w < length walks → HasCornersWithin count (slice_index_or walks w no_face)
  face_within w l =
      All-contains (HasCornersWithin count) walks (slice_index_or walks w no_face) (All-from_recursion (HasCornersWithin count) walks within.1)
      (w, l, get_or_default walks w (slice_index_or walks w no_face) no_face l)

  pub few_corners : (w : ℕ) → w < length walks → length (corners_at walks w) < 2 ^ 32
  few_corners w l = (face_within w l).0

  corner_within : (w z : ℕ) → w < length walks → Contains (corners_at walks w) z → z < count
  corner_within w z l i = All-contains (λ c. c < count) (corners_at walks w) z (All-from_recursion (λ c. c < count) (corners_at walks w) (face_within w l).1) i

  module _ (faces : List Face) (right : AreRight walks faces) where
    pub few_listed : (f : ℕ) → f < length faces → length (corners_at faces f) < 2 ^ 32
    few_listed f l =
        let there = right.every f l in
        let few : length (corners_at walks there.0) < 2 ^ 32 = few_corners there.0 there.1.0 in
        let long = rotation_long (corners_at faces f) (corners_at walks there.0) there.1.1 in
        omega (arith, few, long)

    pub listed_within : (f z : ℕ) → Contains (corners_at faces f) z → z < count
    listed_within f z i = elim (cases_lt f (length faces)) [
      | inl l ↦ (let there = right.every f l in corner_within there.0 z there.1.0 (rotated_in (corners_at faces f) (corners_at walks there.0) there.1.1 z i))
      | inr past ↦ absurd (in_nil z (subst (λ (x : Face). Contains x.corners z) (get_or_past faces f no_face past) i))
    ]

-- ---- no two faces have one piece

pub own_pieces : (walks faces : List Face) → AreApart walks → AreRight walks faces → (u v f g : ℕ) → Along faces f u v → Along faces g u v → f ≡ g
own_pieces walks faces apart right u v f g a b = elim (same_or_not f g) [
  | inl same ↦ same
  | inr other ↦ elim (cases_lt g f) [
    | inl less ↦ absurd (right.right f (record { in_range = f_in; wrong = inr (g, less, both) }))
    | inr more ↦ absurd (right.right g (record { in_range = g_in; wrong = inr (f, omega (arith, more, other), rotated_back _ _ both) }))
  ]
]
  where
    f_in : f < length faces
    f_in = in_range [] faces f u v a

    g_in : g < length faces
    g_in = in_range [] faces g u v b

    s : (w : ℕ) × GoRound walks (corners_at faces f) w
    s = right.every f f_in

    t : (w : ℕ) × GoRound walks (corners_at faces g) w
    t = right.every g g_in

    same_walk : s.0 ≡ t.0
    same_walk = apart.piece u v s.0 t.0 (rotated_piece _ _ s.1.1 u v a) (rotated_piece _ _ t.1.1 u v b)

    both : IsRotation (corners_at faces f) (corners_at faces g)
    both = rotated_then _ (corners_at walks t.0) _ (subst (λ (w : ℕ). IsRotation (corners_at faces f) (corners_at walks w)) same_walk s.1.1) (rotated_back _ _ t.1.1)

-- ---- the corners of a walk are vertices

module _ {A : Type 0} (K : OrderedRing A) (vertices : List (Point A)) (edges : List Edge) (count : ℕ) (ends : AreInRange count edges) where
  piece_within : (u v : ℕ) → IsDirectedPiece edges u v → u < count
  piece_within u v d = elim d.2 [
    | inl s ↦ subst (λ (x : ℕ). x < count) s.0 (ends d.0 d.1).0
    | inr s ↦ subst (λ (x : ℕ). x < count) s.1 (ends d.0 d.1).1
  ]

  pub walk_within : (corners : List ℕ) → IsWalk K vertices edges corners → (z : ℕ) → Contains corners z → z < count
  walk_within corners walk z i =
      let long = length-pieces corners in
      elim (slice_get_cases (pieces_round corners) i.0).1 [
        | inl there ↦
            let u : ℕ = there.0.0 in
            let v : ℕ = there.0.1 in
            let first : slice_index_or corners i.0 z ≡ u = piece-first corners i.0 u v z there.2 in
            let of : Contains (pieces_round corners) (u, v) = (i.0, there.1, get_or_from_slice_get (pieces_round corners) i.0 (u, v) (u, v) there.2) in
            subst (λ (x : ℕ). x < count) (sym first ∙ i.2) (piece_within u v (walk-directed K vertices edges corners walk u v of))
        | inr past ↦ (let none = past.0 in let l = i.1 in absurd (omega (arith, none, l, long)))
      ]
