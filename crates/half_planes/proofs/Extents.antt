-- Faces whose corners lie in ranges that are apart have no point inside both.
use Rattle.std.proofs.Common.{◌≡◌, ◌∙◌, ap, refl, sym, ◌⊎◌, inl, inr, IsTrue, List, [], ◌∷◌}
use lib.IntN.{ℤ, pos}
use Rattle.std.specs.Prelude.{ℕ, Contains}
use Rattle.std.specs.List.{All}
use Rattle.std.specs.declared.cmp.Ordering.{Ordering}
use Rattle.std.specs.declared.cmp.Ordering.TheVariants.{Less, Equal, Greater}
use Rattle.std.specs.Ordering.{is_ge, is_le}
use Rattle.std.proofs.lemmas.List.Elements.{All-contains}
use Rattle.algebra.specs.OrderedRing.{OrderedRing}
use Rattle.algebra.specs.Surd.{Surd}
use Rattle.algebra.specs.WholeSurds.{SurdNumbers}
use Rattle.algebra.proofs.RingLaws.{difference_of_equal}
use Rattle.algebra.proofs.Solvers.{reads, ring, sign_from, known, no_sign, given, sum, negated, not_negative, not_positive}
use Rattle.plane.specs.declared.point.Point.{Point}
use Rattle.plane.specs.Points.{IsSamePoint}
use Rattle.plane.specs.Lines.{value, line, side}
use Rattle.plane.proofs.Members.{in_cons, in_head, in_tail, in_nil}
use Rattle.layers.specs.Sheets.{FoldedFace}
use Rattle.layers.specs.Folded.{IsConvex}
use Rattle.scaled_plane.specs.Drawn.{IsScaledPoint}
use Rattle.half_planes.specs.Extents.{AreApart, Holds, IsAtLeast}
use Rattle.half_planes.specs.Faces.{InsideLiesOn, InsidesMeet}
use Rattle.half_planes.specs.declared.extent.Extent.{Extent}
use Rattle.half_planes.proofs.InsideSides.{IsTowards, inside_towards, some_corner_off}

ge_towards : (o : Ordering) → IsTrue (is_ge o) → IsTowards Greater o
ge_towards Less h = absurd (cc)
ge_towards Equal h = inl refl
ge_towards Greater h = inr refl

le_towards : (o : Ordering) → IsTrue (is_le o) → IsTowards Less o
le_towards Less h = inr refl
le_towards Equal h = inl refl
le_towards Greater h = absurd (cc)

module _ {A : Type 0} (K : OrderedRing A) where
  pub at_least_itself : (x : A) → IsAtLeast K x x
  at_least_itself x = let e : K.sign (K.sub x x) ≡ Equal = ap K.sign (difference_of_equal K.ops K.laws x x refl) ∙ K.sign_int (pos 0) in cc

  not_above : (x y : A) → IsAtLeast K x y → IsTrue (is_le (K.sign (K.sub y x)))
  not_above x y h =
      sign_from K (x ∷ y ∷ []) (known not_negative (search reads depth 40 fits 50000) h no_sign) not_positive (search reads depth 40 fits 50000) (negated (given 0)) tt tt

  below : (x y : A) → IsTrue (is_le (K.sign (K.sub x y))) → IsAtLeast K y x
  below x y h =
      sign_from K (x ∷ y ∷ []) (known not_positive (search reads depth 40 fits 50000) h no_sign) not_negative (search reads depth 40 fits 50000) (negated (given 0)) tt tt

  pub other_way : (x y : A) → ¬ IsAtLeast K x y → IsAtLeast K y x
  other_way x y n = at (K.sign (K.sub x y)) refl
    where
      at : (o : Ordering) → K.sign (K.sub x y) ≡ o → IsAtLeast K y x
      at Less e = below x y (cc)
      at Equal e = absurd (n (cc))
      at Greater e = absurd (n (cc))

  pub goes_on : (x y z : A) → IsAtLeast K x y → IsAtLeast K y z → IsAtLeast K x z
  goes_on x y z h k =
      sign_from K (x ∷ y ∷ z ∷ []) (known not_negative (search reads depth 40 fits 50000) h (known not_negative (search reads depth 40 fits 50000) k no_sign))
      not_negative (search reads depth 40 fits 50000) (sum (given 0) (given 1)) tt tt

  -- ---- a line with one face on each side

  module _ (a b : Point A) (proper : ¬ IsSamePoint K a b) where
    off_or_on : (s : Ordering) (ps : List (Point A)) → ((v : Point A) → Contains ps v → IsTowards s (side K a b v))
        → ((u : Point A) × Contains ps u × (side K a b u ≡ s)) ⊎ ((v : Point A) → Contains ps v → side K a b v ≡ Equal)
    off_or_on s [] all = inr (λ v i. absurd (in_nil v i))
    off_or_on s (p ∷ rest) all = joined (all p (in_head p rest)) (off_or_on s rest (λ v i. all v (in_tail p rest v i)))
      where
        joined : IsTowards s (side K a b p) → ((u : Point A) × Contains rest u × (side K a b u ≡ s)) ⊎ ((v : Point A) → Contains rest v → side K a b v ≡ Equal)
            → ((u : Point A) × Contains (p ∷ rest) u × (side K a b u ≡ s)) ⊎ ((v : Point A) → Contains (p ∷ rest) v → side K a b v ≡ Equal)
        joined (inr e) later = inl (p, in_head p rest, e)
        joined (inl e) (inl u) = inl (u.0, in_tail p rest u.0 u.1, u.2)
        joined (inl e) (inr on) = inr (λ v i. elim (in_cons p rest v i) [ inl same ↦ ap (λ q. side K a b q) (sym same) ∙ e | inr j ↦ on v j ])

    lies_towards : (face : FoldedFace A) → IsConvex K face → (s : Ordering) → ¬ (s ≡ Equal) → ((v : Point A) → Contains face.corners v → IsTowards s (side K a b v)) → InsideLiesOn K a b face s
    lies_towards face convex s off all = by (off_or_on s face.corners all)
      where
        by : ((u : Point A) × Contains face.corners u × (side K a b u ≡ s)) ⊎ ((v : Point A) → Contains face.corners v → side K a b v ≡ Equal) → InsideLiesOn K a b face s
        by (inl u) = inside_towards K face convex a b s u.0 off all u.1 u.2
        by (inr on) = absurd (some_corner_off K face convex a b proper on)

    parted : (f g : FoldedFace A) → IsConvex K f → IsConvex K g → ((v : Point A) → Contains f.corners v → IsTowards Greater (side K a b v))
        → ((v : Point A) → Contains g.corners v → IsTowards Less (side K a b v)) → ¬ InsidesMeet K f g
    parted f g cf cg left right m =
        let first : side K a b m.0 ≡ Greater = lies_towards f cf Greater (λ e. cc) left m.0 m.1 m.2 in
        let second : side K a b m.0 ≡ Less = lies_towards g cg Less (λ e. cc) right m.0 m.1 m.3 in
        cc

  -- ---- lines along the axes

  apart_numbers : K.int (pos 0) ≡ K.int (pos 1) → ⊥
  apart_numbers e = let same : Equal ≡ Greater = sym (K.sign_int (pos 0)) ∙ ap K.sign e ∙ K.sign_int (pos 1) in cc

  module _ (m : A) where
    abbrev upright_from : Point A
    upright_from = record { x = m; y = K.int (pos 0); w = K.int (pos 1) }

    abbrev upright_to : Point A
    upright_to = record { x = m; y = K.int (pos 1); w = K.int (pos 1) }

    abbrev level_from : Point A
    level_from = record { x = K.int (pos 1); y = m; w = K.int (pos 1) }

    abbrev level_to : Point A
    level_to = record { x = K.int (pos 0); y = m; w = K.int (pos 1) }

    nothing : K.mul (K.int (pos 0)) (K.int (pos 1)) ≡ K.int (pos 0)
    nothing = ring K (m ∷ []) (search reads depth 40 fits 50000) (search reads depth 40 fits 50000) tt

    one : K.mul (K.int (pos 1)) (K.int (pos 1)) ≡ K.int (pos 1)
    one = ring K (m ∷ []) (search reads depth 40 fits 50000) (search reads depth 40 fits 50000) tt

    upright_proper : ¬ IsSamePoint K upright_from upright_to
    upright_proper same = apart_numbers (sym nothing ∙ same.same_y ∙ one)

    level_proper : ¬ IsSamePoint K level_from level_to
    level_proper same = apart_numbers (sym nothing ∙ sym same.same_x ∙ one)

    times_one : (y : A) → K.sub (K.mul m (K.int (pos 1))) y ≡ K.sub m y
    times_one y = ring K (m ∷ y ∷ []) (search reads depth 40 fits 50000) (search reads depth 40 fits 50000) tt

    upright_value : (v : Point A) → value K.ops (line K.ops upright_from upright_to) v ≡ K.sub (K.mul m v.w) v.x
    upright_value v = ring K (m ∷ v.x ∷ v.y ∷ v.w ∷ []) (search reads depth 40 fits 50000) (search reads depth 40 fits 50000) tt

    level_value : (v : Point A) → value K.ops (line K.ops level_from level_to) v ≡ K.sub (K.mul m v.w) v.y
    level_value v = ring K (m ∷ v.x ∷ v.y ∷ v.w ∷ []) (search reads depth 40 fits 50000) (search reads depth 40 fits 50000) tt

    upright_side : (v : Point A) → v.w ≡ K.int (pos 1) → side K upright_from upright_to v ≡ K.sign (K.sub m v.x)
    upright_side v e = ap K.sign (upright_value v ∙ ap (λ w. K.sub (K.mul m w) v.x) e ∙ times_one v.x)

    level_side : (v : Point A) → v.w ≡ K.int (pos 1) → side K level_from level_to v ≡ K.sign (K.sub m v.y)
    level_side v e = ap K.sign (level_value v ∙ ap (λ w. K.sub (K.mul m w) v.y) e ∙ times_one v.y)

    module _ (f g : FoldedFace A) (cf : IsConvex K f) (cg : IsConvex K g) (wf : (v : Point A) → Contains f.corners v → v.w ≡ K.int (pos 1))
        (wg : (v : Point A) → Contains g.corners v → v.w ≡ K.int (pos 1)) where
      x_apart : ((v : Point A) → Contains f.corners v → IsAtLeast K m v.x) → ((v : Point A) → Contains g.corners v → IsAtLeast K v.x m) → ¬ InsidesMeet K f g
      x_apart left right =
          parted upright_from upright_to upright_proper f g cf cg
          (λ v i. ge_towards (side K upright_from upright_to v) (let e = upright_side v (wf v i) in let h = left v i in cc))
          (λ v i. le_towards (side K upright_from upright_to v) (let e = upright_side v (wg v i) in let h = not_above v.x m (right v i) in cc))

      y_apart : ((v : Point A) → Contains f.corners v → IsAtLeast K m v.y) → ((v : Point A) → Contains g.corners v → IsAtLeast K v.y m) → ¬ InsidesMeet K f g
      y_apart left right =
          parted level_from level_to level_proper f g cf cg
          (λ v i. ge_towards (side K level_from level_to v) (let e = level_side v (wf v i) in let h = left v i in cc))
          (λ v i. le_towards (side K level_from level_to v) (let e = level_side v (wg v i) in let h = not_above v.y m (right v i) in cc))

module _ {A : Type 0} {k : ℕ} {surd : A → Surd ℤ} (numbers : SurdNumbers k surd) (f g : FoldedFace A) (cf : IsConvex numbers.ring f) (cg : IsConvex numbers.ring g)
    (sf : All (λ p. IsScaledPoint numbers p) f.corners) (sg : All (λ p. IsScaledPoint numbers p) g.corners) (e d : Extent A)
    (hf : All (λ v. Holds numbers.ring e v) f.corners) (hg : All (λ v. Holds numbers.ring d v) g.corners) where
  weight_f : (v : Point A) → Contains f.corners v → v.w ≡ numbers.int (pos 1)
  weight_f v i = (All-contains (λ p. IsScaledPoint numbers p) f.corners v sf i).whole

  weight_g : (v : Point A) → Contains g.corners v → v.w ≡ numbers.int (pos 1)
  weight_g v i = (All-contains (λ p. IsScaledPoint numbers p) g.corners v sg i).whole

  held_f : (v : Point A) → Contains f.corners v → Holds numbers.ring e v
  held_f v i = All-contains (λ p. Holds numbers.ring e p) f.corners v hf i

  held_g : (v : Point A) → Contains g.corners v → Holds numbers.ring d v
  held_g v i = All-contains (λ p. Holds numbers.ring d p) g.corners v hg i

  pub apart_share_none : AreApart numbers.ring e d → ¬ InsidesMeet numbers.ring f g
  apart_share_none (inl h) m =
      x_apart numbers.ring e.left g f cg cf weight_g weight_f (λ v i. goes_on numbers.ring e.left d.right v.x h (held_g v i).to_right) (λ v i. (held_f v i).from_left) (m.0, m.1, m.3, m.2)
  apart_share_none (inr (inl h)) m =
      x_apart numbers.ring d.left f g cf cg weight_f weight_g (λ v i. goes_on numbers.ring d.left e.right v.x h (held_f v i).to_right) (λ v i. (held_g v i).from_left) m
  apart_share_none (inr (inr (inl h))) m =
      y_apart numbers.ring e.bottom g f cg cf weight_g weight_f (λ v i. goes_on numbers.ring e.bottom d.top v.y h (held_g v i).to_top) (λ v i. (held_f v i).from_bottom) (m.0, m.1, m.3, m.2)
  apart_share_none (inr (inr (inr h))) m =
      y_apart numbers.ring d.bottom f g cf cg weight_f weight_g (λ v i. goes_on numbers.ring d.bottom e.top v.y h (held_f v i).to_top) (λ v i. (held_g v i).from_bottom) m
