-- Points that see the first piece of a walk from its left, by tests of sides.
use mathlib.Core.Path.{◌≡◌, refl, sym, ap, ◌∙◌}
use mathlib.Core.Bool.{Bool, true, false}
use mathlib.Core.List.{List, [], ◌∷◌}
use Prim.Native.Nat.{ℕ}
use lib.IntN.{ℤ}
use Rattle.std.specs.Prelude.{◌&&◌, Contains, IsTrue}
use Rattle.std.specs.List.{AllByRecursion}
use Rattle.std.specs.Ordering.{is_ge, is_gt, ordering_reverse}
use Rattle.std.specs.declared.cmp.Ordering.{Ordering}
use Rattle.std.specs.declared.cmp.Ordering.TheVariants.{Less, Equal, Greater}
use Rattle.algebra.specs.OrderedRing.{OrderedRing}
use Rattle.algebra.proofs.Integers.{integers}
use Rattle.algebra.proofs.Solvers.{reads, sign_from, known, no_sign, positive, not_negative, given, sum, product}
use Rattle.plane.specs.declared.point.Point.{Point}
use Rattle.plane.specs.declared.point.Line.{Line}
use Rattle.plane.specs.Points.{IsPoint}
use Rattle.plane.specs.Lines.{line, opposite_line, side, value}
use Rattle.plane.specs.Segments.{IsOn, SegmentsMeet, middle}
use Rattle.plane.proofs.Lines.{sign_opposite}
use Rattle.plane.proofs.Members.{in_head}
use Rattle.plane.proofs.OnSegments.{above_on, sign_on}
use Rattle.plane.proofs.Shares.{side_of_on}
use Rattle.plane.proofs.Signs.{equal_ge, greater_ge}
use Rattle.scaled_plane.specs.declared.drawing.Edge.{Edge}
use Rattle.scaled_plane.specs.Pieces.{point_at}
use Rattle.scaled_plane.specs.Regions.{AreInOneRegion, IsClear, IsOff, IsOnPiece, SeesPiece}
use Rattle.scaled_plane.specs.Regions.AreInOneRegion.{straight}
use Rattle.regions.specs.Faces.{WalkHasAtLeft}
use Rattle.drawing_examples.specs.Examples.{HasRegionOf, HaveRegionsOf}
use Rattle.drawing_examples.proofs.Lists.{and_first, and_second, every, every_of}

-- the first is strictly on one side, and the second on the same side or between
abbrev pub leads_off : Ordering → Ordering → Bool
leads_off Less Less = true
leads_off Less Equal = true
leads_off Less Greater = false
leads_off Equal o = false
leads_off Greater Less = false
leads_off Greater Equal = true
leads_off Greater Greater = true

-- before m the way from q to m stays on q's side of the line
record LeadsOff (q m : Ordering) : Type 0 where
  off : ¬ (q ≡ Equal)
  above : q ≡ Greater → IsTrue (is_ge m)
  below : q ≡ Less → IsTrue (is_ge (ordering_reverse m))

leads_off_is : (o p : Ordering) → leads_off o p ≡ true → LeadsOff o p
leads_off_is Less Less h = record { off = λ e. cc; above = λ e. absurd (cc); below = λ e. refl }
leads_off_is Less Equal h = record { off = λ e. cc; above = λ e. absurd (cc); below = λ e. refl }
leads_off_is Less Greater h = absurd (cc)
leads_off_is Equal o h = absurd (cc)
leads_off_is Greater Less h = absurd (cc)
leads_off_is Greater Equal h = record { off = λ e. cc; above = λ e. refl; below = λ e. absurd (cc) }
leads_off_is Greater Greater h = record { off = λ e. cc; above = λ e. refl; below = λ e. absurd (cc) }

module _ {A : Type 0} (K : OrderedRing A) where
  stays_above : (s t x y : A) → K.sign s ≡ Greater → IsTrue (is_ge (K.sign t)) → K.sign x ≡ Greater → IsTrue (is_ge (K.sign y))
      → K.sign (K.add (K.mul s x) (K.mul t y)) ≡ Greater
  stays_above s t x y hs ht hx hy =
      sign_from K (s ∷ t ∷ x ∷ y ∷ []) (known positive (search reads depth 40 fits 50000) hs (known not_negative (search reads depth 40 fits 50000) ht (known positive (search reads depth 40 fits 50000) hx (known not_negative (search reads depth 40 fits 50000) hy no_sign))))
      positive (search reads depth 40 fits 50000) (sum (product (given 0) (given 2)) (product (given 1) (given 3))) tt tt

  above_before : (l : Line A) {q m x : Point A} (on : IsOn K q m x) → K.sign on.from_share ≡ Greater → K.sign (value K.ops l q) ≡ Greater
      → IsTrue (is_ge (K.sign (value K.ops l m))) → K.sign (value K.ops l x) ≡ Greater
  above_before l {q} {m} {x} on h hq hm = sym (sign_on K l on) ∙ stays_above on.from_share on.to_share (value K.ops l q) (value K.ops l m) h on.to_not_negative hq hm

  turned_over : (l : Line A) (x : Point A) → K.sign (value K.ops l x) ≡ Less → K.sign (value K.ops (opposite_line K.ops l) x) ≡ Greater
  turned_over l x h = sign_opposite K l x ∙ ap ordering_reverse h

  not_there : (l : Line A) (x : Point A) → K.sign (value K.ops l x) ≡ Equal → ¬ (K.sign (value K.ops (opposite_line K.ops l) x) ≡ Greater)
  not_there l x h k = (let no : Equal ≡ Greater = ap ordering_reverse (sym h) ∙ sym (sign_opposite K l x) ∙ k in cc)

  off_line : (l : Line A) {q m x : Point A} (on : IsOn K q m x) → K.sign on.from_share ≡ Greater → LeadsOff (K.sign (value K.ops l q)) (K.sign (value K.ops l m))
      → ¬ (K.sign (value K.ops l x) ≡ Equal)
  off_line l {q} {m} {x} on h off there = by (K.sign (value K.ops l q)) refl
    where
      by : (o : Ordering) → K.sign (value K.ops l q) ≡ o → ⊥
      by Equal e = off.off e
      by Greater e = (let no : Equal ≡ Greater = sym there ∙ above_before l on h e (off.above e) in cc)
      by Less e =
          let m_side : IsTrue (is_ge (K.sign (value K.ops (opposite_line K.ops l) m))) = ap is_ge (sign_opposite K l m) ∙ off.below e in
          not_there l x there (above_before (opposite_line K.ops l) on h (turned_over l q e) m_side)

  off_point : (l : Line A) {q x : Point A} → IsOn K q q x → IsPoint K x → ¬ (K.sign (value K.ops l q) ≡ Equal) → ¬ (K.sign (value K.ops l x) ≡ Equal)
  off_point l {q} {x} on point off there = by (K.sign (value K.ops l q)) refl
    where
      by : (o : Ordering) → K.sign (value K.ops l q) ≡ o → ⊥
      by Equal e = off e
      by Greater e = (let no : Equal ≡ Greater = sym there ∙ above_on K l on point e e in cc)
      by Less e = not_there l x there (above_on K (opposite_line K.ops l) on point (turned_over l q e) (turned_over l q e))

  module _ (vertices : List (Point A)) (edges : List Edge) where
    abbrev at : ℕ → Point A
    at v = point_at K vertices v

    abbrev leads : Point A → Point A → Edge → Bool
    leads q m e = leads_off (side K (at e.from) (at e.to) q) (side K (at e.from) (at e.to) m)

    abbrev pub sees : ℕ → ℕ → Point A → Bool
    sees u v q = is_gt (K.sign q.w) && (is_gt (side K (at u) (at v) q) && every (leads q (middle K.ops (at u) (at v))) edges)

    greater : (o : Ordering) → is_gt o ≡ true → o ≡ Greater
    greater Less h = absurd (cc)
    greater Equal h = absurd (cc)
    greater Greater h = refl

    module _ (u v : ℕ) (q : Point A) (h : sees u v q ≡ true) where
      m : Point A
      m = middle K.ops (at u) (at v)

      abbrev rest : Bool
      rest = is_gt (side K (at u) (at v) q) && every (leads q (middle K.ops (at u) (at v))) edges

      point : IsPoint K q
      point = greater (K.sign q.w) (and_first (is_gt (K.sign q.w)) rest h)

      left : side K (at u) (at v) q ≡ Greater
      left =
          greater (side K (at u) (at v) q)
          (and_first (is_gt (side K (at u) (at v) q)) (every (leads q (middle K.ops (at u) (at v))) edges) (and_second (is_gt (K.sign q.w)) rest h))

      all : every (leads q (middle K.ops (at u) (at v))) edges ≡ true
      all = and_second (is_gt (side K (at u) (at v) q)) (every (leads q (middle K.ops (at u) (at v))) edges) (and_second (is_gt (K.sign q.w)) rest h)

      off_at : (e : Edge) → Contains edges e → LeadsOff (side K (at e.from) (at e.to) q) (side K (at e.from) (at e.to) (middle K.ops (at u) (at v)))
      off_at e i = leads_off_is _ _ (every_of (leads q (middle K.ops (at u) (at v))) edges all e i)

      sees_piece : SeesPiece K vertices edges u v q
      sees_piece = record {
        point = point;
        left = left;
        clear = λ e i x on h there. off_line (line K.ops (at e.from) (at e.to)) on h (off_at e i) (side_of_on K there);
      }

      clear : IsClear K vertices edges q q
      clear e i meeting = off_point (line K.ops (at e.from) (at e.to)) meeting.2 meeting.1 (off_at e i).off (side_of_on K meeting.3)

      pub is_off : IsOff K vertices edges q
      is_off e i there = (off_at e i).off (side_of_on K there)

      pub has_at_left : (corners : List ℕ) → WalkHasAtLeft K vertices edges (u ∷ v ∷ corners) q
      has_at_left corners = (u, v, in_head (u, v) _, (q, sees_piece, straight point point clear))

-- ---- over the whole numbers

module _ (vertices : List (Point ℤ)) (edges : List Edge) where
  abbrev sees_first : List ℕ → Point ℤ → Bool
  sees_first [] q = false
  sees_first (u ∷ []) q = false
  sees_first (u ∷ v ∷ corners) q = sees integers vertices edges u v q

  abbrev pub regions_fit : List (List ℕ × Point ℤ) → Bool
  regions_fit [] = true
  regions_fit ((corners, q) ∷ table) = sees_first corners q && regions_fit table

  first_fits : (corners : List ℕ) (q : Point ℤ) → sees_first corners q ≡ true → HasRegionOf vertices edges corners q
  first_fits [] q h = absurd (cc)
  first_fits (u ∷ []) q h = absurd (cc)
  first_fits (u ∷ v ∷ corners) q h = record {
    off = is_off integers vertices edges u v q h;
    at_left = has_at_left integers vertices edges u v q h corners;
  }

  all_fit : (table : List (List ℕ × Point ℤ)) → regions_fit table ≡ true → AllByRecursion (λ t. HasRegionOf vertices edges t.0 t.1) table
  all_fit [] h = tt
  all_fit ((corners, q) ∷ table) h = (
    first_fits corners q (and_first (sees_first corners q) (regions_fit table) h),
    all_fit table (and_second (sees_first corners q) (regions_fit table) h),
  )

pub have_regions : {vertices : List (Point ℤ)} {edges : List Edge} {table : List (List ℕ × Point ℤ)} → regions_fit vertices edges table ≡ true → HaveRegionsOf vertices edges table
have_regions {vertices} {edges} {table} h = record { each = all_fit vertices edges table h }
