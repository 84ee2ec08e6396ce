-- Two walks have different regions: by adding the pieces of a connected drawing one by one.
use Prim.Native.Nat.{ℕ}
use mathlib.Core.Path.{◌≡◌, refl, sym, subst}
use mathlib.Core.List.{List, [], ◌∷◌}
use mathlib.Core.Logic.{◌⊎◌, inl, inr}
use Rattle.algebra.specs.OrderedRing.{OrderedRing}
use Rattle.plane.specs.declared.point.Point.{Point}
use Rattle.regions.proofs.Drawings.{Piece, piece, reversed, IsDirected, IsPlane, IsVertex}
use Rattle.regions.proofs.Regions.{LeftOf, OneRegion, straight, bent}
use Rattle.regions.proofs.Walks.{Follows, same, onward, back, OneWalk}
use Rattle.regions.proofs.InnerPoints.{left_one_region, some_left, middle_inner}
use Rattle.regions.proofs.Tracing.{region_then, region_back}
use Rattle.regions.proofs.AlongWalks.{one_region}
use Rattle.regions.proofs.Splitting.{linked_then, linked_back, linked_once, one_walk}
use Rattle.regions.proofs.Sides.{directed_more, joined, two_sides, IsGrown, first, grown}
use Rattle.regions.proofs.Adding.{kept, onwards, at_tail, at_head, new_one, new_back}

module _ {A : Type 0} (K : OrderedRing A) (place : ℕ → Point A) where
  -- the two directed pieces have one region at their left
  abbrev pub OneLeft : List Piece → Piece → Piece → Type 0
  OneLeft ps d f = (p : Point A) × (q : Point A) × LeftOf K place ps d p × LeftOf K place ps f q × OneRegion K place ps p q

  module _ (ps : List Piece) (plane : IsPlane K place ps) where
    walk_one_left : (d f : Piece) → IsDirected ps d → IsDirected ps f → OneWalk K place ps d f → OneLeft ps d f
    walk_one_left d f hd hf w =
        let r : (p : Point A) × LeftOf K place ps d p = some_left K place ps plane d hd (middle_inner K place ps plane d hd) in
        let s : (p : Point A) × LeftOf K place ps f p = some_left K place ps plane f hf (middle_inner K place ps plane f hf) in
        (r.0, s.0, r.1, s.1, one_region K place ps plane d f hd w r.0 s.0 r.1 s.1)

    one_left_back : (d f : Piece) → OneLeft ps d f → OneLeft ps f d
    one_left_back d f j = (j.1, j.0, j.3, j.2, region_back K place ps j.4)

    one_left_then : (d f g : Piece) → IsDirected ps f → OneLeft ps d f → OneLeft ps f g → OneLeft ps d g
    one_left_then d f g hf j k = (
      j.0,
      k.1,
      j.2,
      k.3,
      region_then K place ps j.4
          (region_then K place ps (left_one_region K place ps plane f hf (middle_inner K place ps plane f hf) (middle_inner K place ps plane f hf) j.3 k.2) k.4),
    )

  -- without the new piece
  module _ (ps : List Piece) (e : Piece) where
    region_without : {p q : Point A} → OneRegion K place (e ∷ ps) p q → OneRegion K place ps p q
    region_without (straight hp hq c) = straight hp hq (λ f i. c f (inr i))
    region_without (bent hp c l) = bent hp (λ f i. c f (inr i)) (region_without l)

    left_without : (d : Piece) (p : Point A) → LeftOf K place (e ∷ ps) d p → LeftOf K place ps d p
    left_without d p l = record { point = l.point; left = l.left; clear = λ f i. l.clear f (inr i) }

    one_left_without : (d f : Piece) → OneLeft (e ∷ ps) d f → OneLeft ps d f
    one_left_without d f j = (j.0, j.1, left_without d j.0 j.2, left_without f j.1 j.3, region_without j.4)

  module _ (ps : List Piece) (e : Piece) (plane : IsPlane K place (e ∷ ps)) (g : IsGrown ps) (old : IsVertex ps e.tail ⊎ IsVertex ps e.head)
      (before : (d f : Piece) → IsDirected ps d → IsDirected ps f → OneLeft ps d f → OneWalk K place ps d f) where
    abbrev qs : List Piece
    qs = e ∷ ps

    abbrev r : Piece
    r = reversed e

    abbrev New : Piece → Piece → Type 0
    New = OneWalk K place qs

    -- after e, where its head is old, and after its reverse, where its tail is
    after_one : ((w : ℕ) × IsDirected ps (piece e.head w) × Follows K place qs e (piece e.head w)) ⊎ (((x : ℕ) → ¬ IsDirected ps (piece e.head x)) × Follows K place qs e r)
    after_one = onwards K place ps e plane e.head e.tail (new_back K place ps e plane) (at_head K place ps e plane)

    after_back : ((w : ℕ) × IsDirected ps (piece e.tail w) × Follows K place qs r (piece e.tail w)) ⊎ (((x : ℕ) → ¬ IsDirected ps (piece e.tail x)) × Follows K place qs r e)
    after_back = onwards K place ps e plane e.tail e.head (new_one K place ps e plane) (at_tail K place ps e plane)

    not_both_new : ((x : ℕ) → ¬ IsDirected ps (piece e.head x)) → ((x : ℕ) → ¬ IsDirected ps (piece e.tail x)) → ⊥
    not_both_new h t = elim old [ inl v ↦ t v.0 v.1 | inr v ↦ h v.0 v.1 ]

    old_with_one : (d : Piece) × IsDirected ps d × New e d
    old_with_one = elim after_one [
      | inl h ↦ (piece e.head h.0, h.1, linked_once h.2)
      | inr h ↦ elim after_back [
        | inl t ↦ (piece e.tail t.0, t.1, onward h.1 (linked_once t.2))
        | inr t ↦ absurd (not_both_new h.0 t.0)
      ]
    ]

    old_with_back : (d : Piece) × IsDirected ps d × New r d
    old_with_back = elim after_back [
      | inl t ↦ (piece e.tail t.0, t.1, linked_once t.2)
      | inr t ↦ elim after_one [
        | inl h ↦ (piece e.head h.0, h.1, onward t.1 (linked_once h.2))
        | inr h ↦ absurd (not_both_new h.0 t.0)
      ]
    ]

    sides : New e r ⊎ ¬ OneLeft qs e r
    sides = elim after_one [
      | inr h ↦ inl (linked_once h.1)
      | inl h ↦ elim after_back [
        | inr t ↦ inl (linked_back (linked_once t.1))
        | inl t ↦ inr (λ j. two_sides K place ps e plane (joined g e.head e.tail (h.0, h.1) (t.0, t.1)) j.0 j.1 j.2 j.3 j.4)
      ]
    ]

    abbrev IsNew : Piece → Type 0
    IsNew d = IsDirected ps d ⊎ (d ≡ e) ⊎ (d ≡ r)

    directed_new : (d : Piece) → IsNew d → IsDirected qs d
    directed_new d (inl h) = directed_more ps e d h
    directed_new d (inr (inl i)) = inl (inl (sym i))
    directed_new d (inr (inr i)) = inr (inl (λ j. reversed (sym i j)))

    new_directed : (d : Piece) → IsDirected qs d → IsNew d
    new_directed d (inl (inl i)) = inr (inl (sym i))
    new_directed d (inl (inr i)) = inl (inl i)
    new_directed d (inr (inl i)) = inr (inr (λ j. reversed (sym i j)))
    new_directed d (inr (inr i)) = inl (inr i)

    directed_after : {d f : Piece} → IsDirected qs d → New d f → IsDirected qs f
    directed_after hd same = hd
    directed_after hd (onward h w) = directed_after h.after w
    directed_after hd (back h w) = directed_after h.before w

    abbrev Joined : Piece → Piece → Type 0
    Joined d f = IsDirected qs d × IsDirected qs f × OneLeft qs d f

    pub grown_one_walk : (d f : Piece) → IsDirected qs d → IsDirected qs f → OneLeft qs d f → New d f
    grown_one_walk d f hd hf j =
        one_walk (Follows K place ps) (Follows K place qs) e r (λ d. IsDirected ps d) Joined
        (λ d f j. (j.1, j.0, one_left_back qs plane d f j.2))
        (λ d f g j k. (j.0, k.1, one_left_then qs plane d f g j.1 j.2 k.2))
        (λ d f h w. (directed_new d h, directed_after (directed_new d h) w, walk_one_left qs plane d f (directed_new d h) (directed_after (directed_new d h) w) w))
        (λ d f hd hf j. before d f hd hf (one_left_without ps e d f j.2))
        (λ d f. kept K place ps e plane d f)
        (elim sides [ inl h ↦ inl h | inr n ↦ inr (λ j. n j.2) ])
        old_with_one old_with_back
        (new_directed d hd) (new_directed f hf) (hd, hf, j)

  -- ---- a single piece

  only_walk : (e : Piece) → IsPlane K place (e ∷ []) → (d f : Piece) → IsDirected (e ∷ []) d → IsDirected (e ∷ []) f → OneWalk K place (e ∷ []) d f
  only_walk e plane d f hd hf = linked_then (to_one d hd) (linked_back (to_one f hf))
    where
      forth : OneWalk K place (e ∷ []) (reversed e) e
      forth = elim (onwards K place [] e plane e.tail e.head (inl (inl refl)) (at_tail K place [] e plane)) [
        | inl h ↦ absurd (elim h.1 [ inl i ↦ i | inr i ↦ i ])
        | inr h ↦ linked_once h.1
      ]

      to_one : (d : Piece) → IsDirected (e ∷ []) d → OneWalk K place (e ∷ []) d e
      to_one d (inl (inl i)) = subst (λ d. OneWalk K place (e ∷ []) d e) i same
      to_one d (inl (inr i)) = absurd i
      to_one d (inr (inl i)) = subst (λ d. OneWalk K place (e ∷ []) d e) (λ j. reversed (i j)) forth
      to_one d (inr (inr i)) = absurd i

  -- directed pieces that have one region at their left are in one walk
  pub different : {ps : List Piece} → IsGrown ps → IsPlane K place ps → (d f : Piece) → IsDirected ps d → IsDirected ps f → OneLeft ps d f → OneWalk K place ps d f
  different (first e) plane d f hd hf j = only_walk e plane d f hd hf
  different (grown {ps} g e old) plane d f hd hf j = grown_one_walk ps e plane g old (different g plane.4) d f hd hf j
