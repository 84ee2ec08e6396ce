-- Points by their exact coordinates, one point after another.
use Prim.Native.Nat.{ℕ, zero, suc, ◌+◌, ◌<◌}
use Rattle.std.proofs.Common.{◌≡◌, ◌∙◌, ap, arith, inl, inr, refl, subst, sym}
use Rattle.std.proofs.lemmas.List.{take_more}
use Rattle.std.specs.Prelude.{◌⊎◌, ℤ, pos, ◌<ℤ◌, List, [], ◌∷◌, ◌++◌, length, take, slice_get, slice_index_or, Some}
use Rattle.algebra.specs.LowestTerms.{Parts}
use Rattle.algebra.specs.Surd.{Surd}
use Rattle.algebra.specs.WholeSurds.{SurdNumbers}
use Rattle.plane.specs.declared.point.Point.{Point}
use Rattle.plane.specs.Points.{IsPoint}
use Rattle.scaled_plane.specs.declared.point.Pair.{Pair}
use Rattle.scaled_plane.specs.Exact.{IsExactPoint, IsNarrow, IsTooWideExact}
use Rattle.arrangement.proofs.Listed.{all_zip_push}
use Rattle.drawing_repair.specs.Repaired.{AreExact, IsWideDrawn}
use Rattle.drawing_repair.proofs.Quotients.{one_quotient}

get_there : {X : Type 0} (xs : List X) (i : ℕ) (d : X) → i < length xs → slice_get xs i ≡ Some (slice_index_or xs i d)
get_there [] i d h = absurd (omega (arith, h))
get_there (x ∷ xs) zero d h = refl
get_there (x ∷ xs) (suc i) d h = get_there xs i d (omega (arith, h))

less_or_last : (u v : ℕ) → u < v + 1 → (u < v) ⊎ (u ≡ v)
less_or_last zero zero h = inr refl
less_or_last zero (suc v) h = inl (omega arith)
less_or_last (suc u) zero h = absurd (omega (arith, h))
less_or_last (suc u) (suc v) h = elim (less_or_last u v (omega (arith, h))) [ inl less ↦ inl (omega (arith, less)) | inr e ↦ inr (omega (arith, e)) ]

same_some : {X : Type 0} (x y : X) → Some x ≡ Some y → x ≡ y
same_some x y e = cc

module _ {N W : Type 0} {k : ℕ} {surd : W → Surd ℤ} (parts : N → Parts) (numbers : SurdNumbers k surd) (common : ℤ) (positive : pos 0 <ℤ common) where
  -- a point with exact coordinates isn't too wide
  pub not_wide : (p : Point W) (c : Pair N) → IsPoint numbers.ring p → IsExactPoint k surd p common parts c → ¬ IsTooWideExact k surd p common
  not_wide p c above exact wide =
      elim wide.1 [
        | inl of_x ↦ wide.2 (subst IsNarrow (one_quotient numbers common positive p.x p.w p.x p.w (parts c.x) wide.0 above above refl exact.x of_x) exact.x_narrow)
        | inr of_y ↦ wide.2 (subst IsNarrow (one_quotient numbers common positive p.y p.w p.y p.w (parts c.y) wide.0 above above refl exact.y of_y) exact.y_narrow)
      ]

  module _ (points : List (Point W)) (v : ℕ) (p : Point W) (less : v < length points) (is : p ≡ slice_index_or points v p) where
    there : slice_get points v ≡ Some p
    there = get_there points v p less ∙ ap Some (sym is)

    pub wide_there : IsTooWideExact k surd p common → IsWideDrawn numbers points common v
    wide_there wide = (p, there, wide)

    -- a point more
    pub exact_more : (c : Pair N) → IsPoint numbers.ring p → IsExactPoint k surd p common parts c
        → (coords : List (Pair N)) → AreExact parts numbers (take v points) common coords → ((u : ℕ) → u < v → ¬ IsWideDrawn numbers points common u)
        → AreExact parts numbers (take (v + 1) points) common (coords ++ c ∷ []) × ((u : ℕ) → u < v + 1 → ¬ IsWideDrawn numbers points common u)
    exact_more c above exact coords so_far none =
        let taken : take (v + 1) points ≡ take v points ++ p ∷ [] = take_more points v p less ∙ ap (λ d. take v points ++ d ∷ []) (sym is) in (
          subst (λ l. AreExact parts numbers l common (coords ++ c ∷ [])) (sym taken)
              (all_zip_push (λ q d. IsExactPoint k surd q common parts d) (take v points) coords p c so_far exact),
          λ u below wide.
              elim (less_or_last u v below) [
                | inl earlier ↦ none u earlier wide
                | inr e ↦
                    let at_v : slice_get points v ≡ Some wide.0 = subst (λ t. slice_get points t ≡ Some wide.0) e wide.1 in
                    not_wide p c above exact (subst (λ q. IsTooWideExact k surd q common) (same_some wide.0 p (sym at_v ∙ there)) wide.2)
              ],
        )

-- exact coordinates of the same points over the same denominator
pub drawn_coords : {N W : Type 0} {k : ℕ} {surd : W → Surd ℤ} (parts : N → Parts) (numbers : SurdNumbers k surd) (points vertices : List (Point W)) (common denominator : ℤ)
    (coords : List (Pair N)) → points ≡ vertices → common ≡ denominator → AreExact parts numbers points common coords → AreExact parts numbers vertices denominator coords
drawn_coords parts numbers points vertices common denominator coords e f h =
    subst (λ z. AreExact parts numbers vertices z coords) f (subst (λ ps. AreExact parts numbers ps common coords) e h)
