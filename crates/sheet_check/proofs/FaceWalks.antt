-- Face walks as a list: each with a corner, none with a piece of another, none another one begun elsewhere.
use Rattle.std.proofs.Common.{◌≡◌, ◌∙◌, ap, sym, ℕ, List, [], ◌∷◌, ◌<◌, length, inl, inr, arith}
use Rattle.std.specs.Prelude.{slice_index_or}
use Rattle.std.specs.Cmp.Lexicographic.{slice_cmp}
use Rattle.std.specs.Ordering.{nat_cmp, on}
use Rattle.std.specs.declared.cmp.Ordering.TheVariants.{Less, Equal}
use Rattle.std.proofs.lemmas.Bool.{cases_lt}
use Rattle.std.proofs.lemmas.Cmp.{nat_list_cmp_total, tied_itself}
use Rattle.std.proofs.lemmas.List.{get_or_default}
use Rattle.std.proofs.lemmas.Map.Keys.{Less-from_sorted}
use Rattle.algebra.specs.OrderedRing.{OrderedRing}
use Rattle.plane.specs.declared.point.Point.{Point}
use Rattle.plane.proofs.First.{same_or_not}
use Rattle.scaled_plane.specs.declared.drawing.Edge.{Edge}
use Rattle.scaled_plane.specs.declared.drawing.Face.{Face}
use Rattle.scaled_plane.specs.Lists.{IsRotation}
use Rattle.scaled_plane.specs.Walks.{AreFaces, IsFaceWalk}
use Rattle.regions.proofs.Rotations.{one_least, one_walk_round}
use Rattle.flat_fold.specs.Faces.{corners_at}
use Rattle.flat_fold.proofs.FoldingLaws.{in_range}
use Rattle.sheet_check.specs.Listed.{AreApart}

abbrev no_face : Face
no_face = record { corners = [] }

module _ {A : Type 0} (K : OrderedRing A) (vertices : List (Point A)) (edges : List Edge) (walks : List Face) (h : AreFaces K vertices edges walks) where
  pub walk_at : (w : ℕ) → w < length walks → IsFaceWalk K vertices edges (corners_at walks w)
  walk_at w l = h.only (slice_index_or walks w no_face) (w, l, get_or_default walks w (slice_index_or walks w no_face) no_face l)

  in_order : (f g : ℕ) → f < g → g < length walks → ¬ (corners_at walks f ≡ corners_at walks g)
  in_order f g less l same =
      let below : slice_cmp nat_cmp (corners_at walks f) (corners_at walks g) ≡ Less
      = Less-from_sorted (on (λ (x : Face). x.corners) (slice_cmp nat_cmp)) walks f g no_face h.sorted less l in
      let equal : slice_cmp nat_cmp (corners_at walks f) (corners_at walks g) ≡ Equal
      = ap (λ (c : List ℕ). slice_cmp nat_cmp (corners_at walks f) c) (sym same) ∙ tied_itself nat_list_cmp_total (corners_at walks f) in
      let no : Less ≡ Equal = sym below ∙ equal in
      absurd (cc)

  one_rotation : (f g : ℕ) → f < length walks → g < length walks → IsRotation (corners_at walks f) (corners_at walks g) → f ≡ g
  one_rotation f g l m r =
      let same : corners_at walks f ≡ corners_at walks g = one_least _ _ (walk_at f l).least (walk_at g m).least r in
      elim (same_or_not f g) [
        | inl is ↦ is
        | inr other ↦ elim (cases_lt f g) [
          | inl less ↦ absurd (in_order f g less m same)
          | inr more ↦ absurd (in_order g f (omega (arith, more, other)) l (sym same))
        ]
      ]

  some_corner : (w : ℕ) → w < length walks → ¬ (corners_at walks w ≡ [])
  some_corner w l none = by (corners_at walks w) (walk_at w l) none
    where
      by : (c : List ℕ) → IsFaceWalk K vertices edges c → ¬ (c ≡ [])
      by [] k e = k.walk.follow
      by (u ∷ c) k e = absurd (cc)

  pub walks_apart : AreApart walks
  walks_apart = record {
    some = some_corner;
    piece = λ u v f g a b.
        let l : f < length walks = in_range edges walks f u v a in
        let m : g < length walks = in_range edges walks g u v b in
        one_rotation f g l m (one_walk_round K vertices edges _ _ (walk_at f l).walk (walk_at g m).walk u v a b);
    rotation = one_rotation;
  }
