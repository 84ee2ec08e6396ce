-- Drawn points are points, and small: what their coordinates and weights come to, from scaled points on.
use Prim.Native.Nat.{ℕ, ◌≤◌, ◌*◌, ◌^◌}
use native.Mathlib.Nat.{le_trans}
use mathlib.Core.Path.{ap, sym, subst, ◌∙◌}
use lib.IntN.{ℤ, pos}
use Rattle.std.proofs.Common.{inl, inr}
use Rattle.std.specs.Ordering.{match_ordering}
use Rattle.std.specs.declared.cmp.Ordering.{Ordering}
use Rattle.std.specs.declared.cmp.Ordering.TheVariants.{Less, Equal, Greater}
use Rattle.algebra.specs.Surd.{Surd}
use Rattle.algebra.specs.WholeSurds.{SurdNumbers}
use Rattle.algebra.proofs.Solvers.{bounded, bounded_add, bounded_sub, bounded_mul}
use Rattle.exact_number.proofs.WholeFits.{bounds, size_in_range}
use Rattle.exact_number.proofs.WholeSizes.{whole_sized}
use Rattle.exact_number.specs.Sizes.{whole_size}
use Rattle.plane.specs.declared.point.Point.{Point}
use Rattle.plane.specs.Lines.{line, meeting, value}
use Rattle.plane.specs.Points.{IsPoint, opposite_vector, x_from, y_from}
use Rattle.plane.proofs.Crossings.{crossing_point}
use Rattle.scaled_plane.specs.Drawn.{IsScaledWithin, IsScaledPoint, IsDrawnWithin, IsDrawn}
use Rattle.scaled_plane.specs.Sizes.{IsScaledSize, IsLineSize, IsDrawnSize}

module _ {A : Type 0} {k : ℕ} {surd : A → Surd ℤ} (numbers : SurdNumbers k surd) where
  pub scaled_point : {n : ℕ} (p : Point A) → IsScaledWithin numbers n p → IsPoint numbers.ring p
  scaled_point p h = ap numbers.sign h.whole ∙ numbers.sign_int (pos 1)

  pub drawn_point : {n : ℕ} (p : Point A) → IsDrawnWithin numbers n p → IsPoint numbers.ring p
  drawn_point p (inl h) = scaled_point p h
  drawn_point p (inr h) = subst (IsPoint numbers.ring) (sym h.is) (crossing_point numbers.ring h.a h.b h.c h.d h.not_parallel)

module _ {A : Type 0} {k : ℕ} {surd : A → Surd ℤ} (numbers : SurdNumbers k surd) (k_at_most : k ≤ 3) where
  pub scaled_size : (p : Point A) → IsScaledPoint numbers p → IsScaledSize surd p
  scaled_size p h = record {
    x_within = size_in_range numbers k_at_most (search bounds depth 20) tt;
    y_within = size_in_range numbers k_at_most (search bounds depth 20) tt;
    w_within = size_in_range numbers k_at_most (search bounds depth 20) tt;
  }

  pub line_size : (a b : Point A) → IsScaledPoint numbers a → IsScaledPoint numbers b → IsLineSize surd (line numbers.ops a b)
  line_size a b ha hb = record {
    a_within = size_in_range numbers k_at_most (search bounds depth 20) tt;
    b_within = size_in_range numbers k_at_most (search bounds depth 20) tt;
    c_within = size_in_range numbers k_at_most (search bounds depth 20) tt;
  }

  meeting_size : (a b c d : Point A) → IsScaledPoint numbers a → IsScaledPoint numbers b → IsScaledPoint numbers c → IsScaledPoint numbers d
      → IsDrawnSize surd (meeting numbers.ops (line numbers.ops a b) (line numbers.ops c d))
  meeting_size a b c d ha hb hc hd = record {
    x_within = size_in_range numbers k_at_most (search bounds depth 20 fits 50000) tt;
    y_within = size_in_range numbers k_at_most (search bounds depth 20 fits 50000) tt;
    w_within = size_in_range numbers k_at_most (search bounds depth 20 fits 50000) tt;
  }

  opposite_size : (p : Point A) → IsDrawnSize surd p → IsDrawnSize surd (opposite_vector numbers.ops p)
  opposite_size p h =
      let sized = whole_sized k surd numbers k_at_most in
      record {
        x_within = le_trans (sized.size_neg p.x) h.x_within;
        y_within = le_trans (sized.size_neg p.y) h.y_within;
        w_within = le_trans (sized.size_neg p.w) h.w_within;
      }

  as_point_size : (o : Ordering) (p : Point A) → IsDrawnSize surd p → IsDrawnSize surd (match_ordering o (opposite_vector numbers.ops p) p p)
  as_point_size Less p h = opposite_size p h
  as_point_size Equal p h = h
  as_point_size Greater p h = h

  small_as_drawn : (p : Point A) → IsScaledPoint numbers p → IsDrawnSize surd p
  small_as_drawn p h = record {
    x_within = size_in_range numbers k_at_most (search bounds depth 20) tt;
    y_within = size_in_range numbers k_at_most (search bounds depth 20) tt;
    w_within = size_in_range numbers k_at_most (search bounds depth 20) tt;
  }

  pub drawn_size : (p : Point A) → IsDrawn numbers p → IsDrawnSize surd p
  drawn_size p (inl h) = small_as_drawn p h
  drawn_size p (inr h) =
      let m = meeting numbers.ops (line numbers.ops h.a h.b) (line numbers.ops h.c h.d) in
      subst (IsDrawnSize surd) (sym h.is)
      (as_point_size (numbers.sign m.w) m (meeting_size h.a h.b h.c h.d h.a_scaled h.b_scaled h.c_scaled h.d_scaled))

  -- the side of a drawn point of a line through scaled points
  pub side_size : (a b p : Point A) → IsScaledPoint numbers a → IsScaledPoint numbers b → IsDrawn numbers p
      → whole_size (surd (value numbers.ops (line numbers.ops a b) p)) ≤ 243 * 2 ^ 92
  side_size a b p ha hb hp = by_sizes (line_size a b ha hb) (drawn_size p hp)
    where
      by_sizes : IsLineSize surd (line numbers.ops a b) → IsDrawnSize surd p → whole_size (surd (value numbers.ops (line numbers.ops a b) p)) ≤ 243 * 2 ^ 92
      by_sizes l h =
          size_in_range numbers k_at_most
          (bounded_add (bounded_add (bounded_mul (bounded l.a_within) (bounded h.x_within)) (bounded_mul (bounded l.b_within) (bounded h.y_within)))
          (bounded_mul (bounded l.c_within) (bounded h.w_within))) tt

  -- two drawn points compared
  pub x_size : (p q : Point A) → IsDrawn numbers p → IsDrawn numbers q → whole_size (surd (x_from numbers.ops q p)) ≤ 243 * 2 ^ 117
  x_size p q hp hq =
      let h : IsDrawnSize surd p = drawn_size p hp in
      let j : IsDrawnSize surd q = drawn_size q hq in
      size_in_range numbers k_at_most (bounded_sub (bounded_mul (bounded h.x_within) (bounded j.w_within)) (bounded_mul (bounded j.x_within) (bounded h.w_within))) tt

  pub y_size : (p q : Point A) → IsDrawn numbers p → IsDrawn numbers q → whole_size (surd (y_from numbers.ops q p)) ≤ 243 * 2 ^ 117
  y_size p q hp hq =
      let h : IsDrawnSize surd p = drawn_size p hp in
      let j : IsDrawnSize surd q = drawn_size q hq in
      size_in_range numbers k_at_most (bounded_sub (bounded_mul (bounded h.y_within) (bounded j.w_within)) (bounded_mul (bounded j.y_within) (bounded h.w_within))) tt

  -- ---- points drawn from parts of at most 2^15

  pub record IsSmallSize (p : Point A) : Type 0 where
    pub x_within : whole_size (surd p.x) ≤ 27 * 2 ^ 48
    pub y_within : whole_size (surd p.y) ≤ 27 * 2 ^ 48
    pub w_within : whole_size (surd p.w) ≤ 9 * 2 ^ 33

  small_scaled : (p : Point A) → IsScaledWithin numbers (2 ^ 15) p → IsSmallSize p
  small_scaled p h = record {
    x_within = size_in_range numbers k_at_most (search bounds depth 20) tt;
    y_within = size_in_range numbers k_at_most (search bounds depth 20) tt;
    w_within = size_in_range numbers k_at_most (search bounds depth 20) tt;
  }

  small_meeting : (a b c d : Point A) → IsScaledWithin numbers (2 ^ 15) a → IsScaledWithin numbers (2 ^ 15) b → IsScaledWithin numbers (2 ^ 15) c → IsScaledWithin numbers (2 ^ 15) d
      → IsSmallSize (meeting numbers.ops (line numbers.ops a b) (line numbers.ops c d))
  small_meeting a b c d ha hb hc hd = record {
    x_within = size_in_range numbers k_at_most (search bounds depth 20 fits 50000) tt;
    y_within = size_in_range numbers k_at_most (search bounds depth 20 fits 50000) tt;
    w_within = size_in_range numbers k_at_most (search bounds depth 20 fits 50000) tt;
  }

  small_point : (o : Ordering) (p : Point A) → IsSmallSize p → IsSmallSize (match_ordering o (opposite_vector numbers.ops p) p p)
  small_point Less p h =
      let sized = whole_sized k surd numbers k_at_most in
      record {
        x_within = le_trans (sized.size_neg p.x) h.x_within;
        y_within = le_trans (sized.size_neg p.y) h.y_within;
        w_within = le_trans (sized.size_neg p.w) h.w_within;
      }
  small_point Equal p h = h
  small_point Greater p h = h

  pub small_size : (p : Point A) → IsDrawnWithin numbers (2 ^ 15) p → IsSmallSize p
  small_size p (inl h) = small_scaled p h
  small_size p (inr h) =
      let m = meeting numbers.ops (line numbers.ops h.a h.b) (line numbers.ops h.c h.d) in
      subst IsSmallSize (sym h.is) (small_point (numbers.sign m.w) m (small_meeting h.a h.b h.c h.d h.a_scaled h.b_scaled h.c_scaled h.d_scaled))
