-- The sides of a face's corners, looked at one after the other, tell the side of its inside.
use Rattle.std.proofs.Common.{◌≡◌, ◌∙◌, refl, sym, subst, ◌⊎◌, inl, inr, ℕ, ◌+◌, List, length, Some, None, slice_get, arith}
use Rattle.std.specs.List.{AllWithin}
use Rattle.std.specs.Prelude.{Contains}
use Rattle.std.specs.declared.cmp.Ordering.{Ordering}
use Rattle.std.specs.declared.cmp.Ordering.TheVariants.{Less, Equal, Greater}
use Rattle.std.proofs.lemmas.Option.{get_or_from_slice_get}
use Rattle.std.proofs.lemmas.List.Elements.{AllWithin-none, AllWithin-more, AllWithin-upto, All-from_all_within, All-contains}
use Rattle.algebra.specs.OrderedRing.{OrderedRing}
use Rattle.plane.specs.declared.point.Point.{Point}
use Rattle.plane.specs.Points.{IsSamePoint}
use Rattle.plane.specs.Lines.{side}
use Rattle.layers.specs.Sheets.{FoldedFace}
use Rattle.layers.specs.Folded.{IsConvex}
use Rattle.layers.proofs.Places.{at_place}
use Rattle.half_planes.specs.Faces.{InsideLiesOn}
use Rattle.half_planes.specs.Sides.{one_side}
use Rattle.half_planes.proofs.Tightest.{same_or_not}
use Rattle.half_planes.proofs.InsideSides.{IsTowards, corner_tells, inside_towards, some_corner_off}

-- what is on the line or the first side is on the line or the common side
kept : (s u t o : Ordering) → one_side s u ≡ Some t → IsTowards s o → IsTowards t o
kept Less Less t o e (inl h) = inl h
kept Less Less t o e (inr h) = inr cc
kept Less Equal t o e (inl h) = inl h
kept Less Equal t o e (inr h) = inr cc
kept Less Greater t o e h = cc
kept Equal u t o e (inl h) = inl h
kept Equal u t o e (inr h) = inl h
kept Greater Less t o e h = cc
kept Greater Equal t o e (inl h) = inl h
kept Greater Equal t o e (inr h) = inr cc
kept Greater Greater t o e (inl h) = inl h
kept Greater Greater t o e (inr h) = inr cc

-- and so is the second side
added : (s u t : Ordering) → one_side s u ≡ Some t → IsTowards t u
added Less Less t e = inr cc
added Less Equal t e = inl refl
added Less Greater t e = cc
added Equal u t e = inr cc
added Greater Less t e = cc
added Greater Equal t e = inl refl
added Greater Greater t e = inr cc

-- the common side is one of the two
one_of : (s u t : Ordering) → one_side s u ≡ Some t → (t ≡ s) ⊎ (t ≡ u)
one_of Less Less t e = inl cc
one_of Less Equal t e = inl cc
one_of Less Greater t e = cc
one_of Equal u t e = inr cc
one_of Greater Less t e = cc
one_of Greater Equal t e = inl cc
one_of Greater Greater t e = inl cc

-- where there's none, the two are on different sides, and not on the line
record AreOpposite (s u : Ordering) : Type 0 where
  first_off : ¬ (s ≡ Equal)
  second_off : ¬ (u ≡ Equal)
  different : ¬ (s ≡ u)

opposite : (s u : Ordering) → one_side s u ≡ None → AreOpposite s u
opposite Less Less e = cc
opposite Less Equal e = cc
opposite Less Greater e = record { first_off = λ h. cc; second_off = λ h. cc; different = λ h. cc }
opposite Equal u e = cc
opposite Greater Less e = record { first_off = λ h. cc; second_off = λ h. cc; different = λ h. cc }
opposite Greater Equal e = cc
opposite Greater Greater e = cc

module _ {A : Type 0} (K : OrderedRing A) (a b : Point A) where
  -- the first n corners are on the line or on the side s, and some is on s where that isn't the line
  pub record AreTowards (corners : List (Point A)) (n : ℕ) (s : Ordering) : Type 0 where
    pub each : AllWithin (λ v. IsTowards s (side K a b v)) corners 0 n
    pub some : ¬ (s ≡ Equal) → (u : Point A) × Contains corners u × (side K a b u ≡ s)

  pub towards_none : (corners : List (Point A)) → AreTowards corners 0 Equal
  towards_none corners = record { each = AllWithin-none (λ v. IsTowards Equal (side K a b v)) corners 0; some = λ n. absurd (n refl) }

  pub towards_more : (corners : List (Point A)) (n : ℕ) (s t : Ordering) (v : Point A) → AreTowards corners n s → slice_get corners n ≡ Some v → one_side s (side K a b v) ≡ Some t → AreTowards corners (n + 1) t
  towards_more corners n s t v before read e = record {
    each = AllWithin-more (λ w. IsTowards t (side K a b w)) corners 0 n
        (λ k d low high. kept s (side K a b v) t _ e (before.each k d low high))
        (λ d. subst (λ w. IsTowards t (side K a b w)) (sym (get_or_from_slice_get corners n v d read)) (added s (side K a b v) t e));
    some = λ off. by (one_of s (side K a b v) t e) off;
  }
    where
      by : (t ≡ s) ⊎ (t ≡ side K a b v) → ¬ (t ≡ Equal) → (u : Point A) × Contains corners u × (side K a b u ≡ t)
      by (inl is) off = let u = before.some (λ h. off (is ∙ h)) in (u.0, u.1, u.2 ∙ sym is)
      by (inr is) off = (v, at_place corners n v read, sym is)

  module _ (face : FoldedFace A) (convex : IsConvex K face) where
    pub no_side : (n : ℕ) (s : Ordering) (v : Point A) → AreTowards face.corners n s → slice_get face.corners n ≡ Some v → one_side s (side K a b v) ≡ None → (o : Ordering) → ¬ InsideLiesOn K a b face o
    no_side n s v before read none o lies =
        let apart = opposite s (side K a b v) none in
        let u = before.some apart.first_off in
        by apart u (same_or_not K s o)
      where
        by : AreOpposite s (side K a b v) → (u : Point A) × Contains face.corners u × (side K a b u ≡ s) → (s ≡ o) ⊎ (¬ (s ≡ o)) → ⊥
        by apart u (inl same) = corner_tells K face convex a b o v (at_place face.corners n v read) apart.second_off (λ h. apart.different (same ∙ sym h)) lies
        by apart u (inr differ) = corner_tells K face convex a b o u.0 u.1 (λ h. apart.first_off (sym u.2 ∙ h)) (λ h. differ (sym u.2 ∙ h)) lies

    pub its_side : ¬ IsSamePoint K a b → (n : ℕ) (s : Ordering) → n ≡ length face.corners → AreTowards face.corners n s → InsideLiesOn K a b face s
    its_side proper n s over before = by (same_or_not K s Equal)
      where
        all : (v : Point A) → Contains face.corners v → IsTowards s (side K a b v)
        all v there =
            All-contains (λ w. IsTowards s (side K a b w)) face.corners v
            (All-from_all_within (λ w. IsTowards s (side K a b w)) face.corners (AllWithin-upto (λ w. IsTowards s (side K a b w)) face.corners 0 n (length face.corners) (omega (arith, over)) before.each)) there

        on_line : s ≡ Equal → (o : Ordering) → IsTowards s o → o ≡ Equal
        on_line e o (inl h) = h
        on_line e o (inr h) = h ∙ e

        by : (s ≡ Equal) ⊎ (¬ (s ≡ Equal)) → InsideLiesOn K a b face s
        by (inl e) = absurd (some_corner_off K face convex a b proper (λ v there. on_line e (side K a b v) (all v there)))
        by (inr off) = let u = before.some off in inside_towards K face convex a b s u.0 off all u.1 u.2
