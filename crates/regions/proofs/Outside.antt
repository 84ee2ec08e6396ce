-- The outer region, which isn't bounded, and all others, which are.
use Prim.Native.Nat.{ℕ}
use mathlib.Core.Path.{◌≡◌, refl, sym, ap, ◌∙◌, subst}
use mathlib.Core.List.{List, [], ◌∷◌}
use mathlib.Core.Logic.{◌⊎◌, inl, inr}
use lib.IntN.{pos}
use Rattle.std.specs.Prelude.{IsTrue}
use Rattle.std.specs.declared.cmp.Ordering.{Ordering}
use Rattle.std.specs.declared.cmp.Ordering.TheVariants.{Less, Equal, Greater}
use Rattle.std.specs.Ordering.{is_ge, is_le, ordering_reverse}
use Rattle.algebra.specs.OrderedRing.{OrderedRing}
use Rattle.plane.specs.declared.point.Point.{Point}
use Rattle.plane.specs.Lines.{value, determinant, IsAbove, IsNotAbove}
use Rattle.plane.specs.Points.{x_from, y_from, IsPoint, IsSamePoint}
use Rattle.algebra.proofs.Solvers.{ring, reads, sign_from, sign_from_multiple, known, no_sign, given, number, sum, product, square, negated, positive, negative, not_negative, not_positive, any_sign, at_zero}
use Rattle.plane.proofs.Lines.{to_x_itself, value_to_x, same_refl, at_first, at_second, to_x}
use Rattle.regions.proofs.Drawings.{Piece, reversed, Among, IsDirected, IsPlane, IsVertex}
use Rattle.regions.proofs.Regions.{LeftAt, LeftOf, OneRegion, straight, bent, IsBounded}
use Rattle.scaled_plane.specs.Regions.{IsInBox}
use Rattle.plane.specs.declared.point.Line.{Line}
use Rattle.plane.proofs.Nearby.{Closer, near, closer_point, along}
use Rattle.plane.proofs.Separation.{parted_apart}
use Rattle.plane.proofs.Signs.{at_least, zero_is, equal_le, equal_ge}
use Rattle.regions.proofs.Neighbourhoods.{toward}
use Rattle.regions.proofs.InnerPoints.{Ends, ends, directed_ends, beside, beside_left, left_one_region, some_left, middle_inner}
use Rattle.regions.proofs.Corners.{Stars, NearBy, near_by, turn}
use Rattle.regions.proofs.Walks.{OneWalk}
use Rattle.regions.proofs.Directions.{directed_back}
use Rattle.regions.proofs.Outermost.{IsOuter}
use Rattle.regions.proofs.Tracing.{region_then, region_back, mirrored, mirrored_point, mirrored_sign, mirrored_side, star}
use Rattle.regions.proofs.Different.{OneLeft}

module _ {A : Type 0} (K : OrderedRing A) where
  -- ---- functionals of the four sides of a box

  -- d x - n w: with n and d of the box, above zero east of it; with -d, west of it
  abbrev past_x : A → A → Line A
  past_x n d = record { a = d; b = K.int (pos 0); c = K.neg n }

  abbrev past_y : A → A → Line A
  past_y n d = record { a = K.int (pos 0); b = d; c = K.neg n }

  value_past_x : (n d : A) (p : Point A) → value K.ops (past_x n d) p ≡ K.sub (K.mul d p.x) (K.mul n p.w)
  value_past_x n d p = ring K (n ∷ d ∷ p.x ∷ p.y ∷ p.w ∷ []) (search reads depth 40 fits 50000) (search reads depth 40 fits 50000) tt

  value_past_y : (n d : A) (p : Point A) → value K.ops (past_y n d) p ≡ K.sub (K.mul d p.y) (K.mul n p.w)
  value_past_y n d p = ring K (n ∷ d ∷ p.x ∷ p.y ∷ p.w ∷ []) (search reads depth 40 fits 50000) (search reads depth 40 fits 50000) tt

  above_x : (n d : A) (p : Point A) → K.sign (K.sub (K.mul d p.x) (K.mul n p.w)) ≡ Greater → IsAbove K (past_x n d) p
  above_x n d p h = ap K.sign (value_past_x n d p) ∙ h

  above_y : (n d : A) (p : Point A) → K.sign (K.sub (K.mul d p.y) (K.mul n p.w)) ≡ Greater → IsAbove K (past_y n d) p
  above_y n d p h = ap K.sign (value_past_y n d p) ∙ h

  not_above_x : (n d : A) (p : Point A) → IsTrue (is_le (K.sign (K.sub (K.mul d p.x) (K.mul n p.w)))) → IsNotAbove K (past_x n d) p
  not_above_x n d p h = rw (value_past_x n d p) h

  not_above_y : (n d : A) (p : Point A) → IsTrue (is_le (K.sign (K.sub (K.mul d p.y) (K.mul n p.w)))) → IsNotAbove K (past_y n d) p
  not_above_y n d p h = rw (value_past_y n d p) h

  not_past : (n d x w : A) → IsTrue (is_ge (K.sign (K.sub (K.mul n w) (K.mul d x)))) → IsTrue (is_le (K.sign (K.sub (K.mul d x) (K.mul n w))))
  not_past n d x w h = sign_from K (n ∷ d ∷ x ∷ w ∷ []) (known not_negative (search reads depth 40 fits 50000) h no_sign) not_positive (search reads depth 40 fits 50000) (negated (given 0)) tt tt

  not_past_back : (n d x w : A) → IsTrue (is_ge (K.sign (K.add (K.mul n w) (K.mul d x)))) → IsTrue (is_le (K.sign (K.sub (K.mul (K.neg d) x) (K.mul n w))))
  not_past_back n d x w h = sign_from K (n ∷ d ∷ x ∷ w ∷ []) (known not_negative (search reads depth 40 fits 50000) h no_sign) not_positive (search reads depth 40 fits 50000) (negated (given 0)) tt tt

  is_past : (n d x w : A) → K.sign (K.sub (K.mul n w) (K.mul d x)) ≡ Less → K.sign (K.sub (K.mul d x) (K.mul n w)) ≡ Greater
  is_past n d x w h = sign_from K (n ∷ d ∷ x ∷ w ∷ []) (known negative (search reads depth 40 fits 50000) h no_sign) positive (search reads depth 40 fits 50000) (negated (given 0)) tt tt

  is_past_back : (n d x w : A) → K.sign (K.add (K.mul n w) (K.mul d x)) ≡ Less → K.sign (K.sub (K.mul (K.neg d) x) (K.mul n w)) ≡ Greater
  is_past_back n d x w h = sign_from K (n ∷ d ∷ x ∷ w ∷ []) (known negative (search reads depth 40 fits 50000) h no_sign) positive (search reads depth 40 fits 50000) (negated (given 0)) tt tt

  corner_past : (n d : A) → K.sign d ≡ Greater → K.sign (K.sub (K.mul d (K.add n (K.int (pos 1)))) (K.mul n d)) ≡ Greater
  corner_past n d h = sign_from K (n ∷ d ∷ []) (known positive (search reads depth 40 fits 50000) h no_sign) positive (search reads depth 40 fits 50000) (given 0) tt tt

  corner_past_back : (n d : A) → K.sign d ≡ Greater → K.sign (K.sub (K.mul (K.neg d) (K.neg (K.add n (K.int (pos 1))))) (K.mul n d)) ≡ Greater
  corner_past_back n d h = sign_from K (n ∷ d ∷ []) (known positive (search reads depth 40 fits 50000) h no_sign) positive (search reads depth 40 fits 50000) (given 0) tt tt

  -- ---- a larger box

  abbrev larger : A → A → Point A → A
  larger n d p = K.add (K.mul n p.w) (K.mul d (K.add (K.add (K.mul p.x p.x) (K.mul p.y p.y)) (K.int (pos 1))))

  -- n w + d (x x + y y + 1) is more than d x in size
  more_than : (n d x y w : A) → IsTrue (is_ge (K.sign n)) → K.sign d ≡ Greater → K.sign w ≡ Greater
      → IsTrue (is_ge (K.sign (K.add (K.mul (K.add (K.mul n w) (K.mul d (K.add (K.add (K.mul x x) (K.mul y y)) (K.int (pos 1))))) w) (K.mul (K.mul d w) x))))
  more_than n d x y w hn hd hw =
      sign_from_multiple K (n ∷ d ∷ x ∷ y ∷ w ∷ [])
      (known not_negative (search reads depth 40 fits 50000) hn (known positive (search reads depth 40 fits 50000) hd (known positive (search reads depth 40 fits 50000) hw (known any_sign {a = x} (search reads depth 40 fits 50000) tt (known any_sign {a = K.add x (K.int (pos 1))} (search reads depth 40 fits 50000) tt (known any_sign {a = y} (search reads depth 40 fits 50000) tt no_sign))))))
      not_negative {w = K.int (pos 2)} (search reads depth 40 fits 50000) (K.sign_int (pos 2)) (search reads depth 40 fits 50000)
      (product (given 2) (sum (product (number (pos 2)) (product (given 0) (given 2)))
      (product (given 1) (sum (sum (square (given 3)) (square (given 4))) (sum (number (pos 1)) (product (number (pos 2)) (square (given 5)))))))) tt tt

  more_than_back : (n d x y w : A) → IsTrue (is_ge (K.sign n)) → K.sign d ≡ Greater → K.sign w ≡ Greater
      → IsTrue (is_ge (K.sign (K.sub (K.mul (K.add (K.mul n w) (K.mul d (K.add (K.add (K.mul x x) (K.mul y y)) (K.int (pos 1))))) w) (K.mul (K.mul d w) x))))
  more_than_back n d x y w hn hd hw =
      sign_from_multiple K (n ∷ d ∷ x ∷ y ∷ w ∷ [])
      (known not_negative (search reads depth 40 fits 50000) hn (known positive (search reads depth 40 fits 50000) hd (known positive (search reads depth 40 fits 50000) hw (known any_sign {a = x} (search reads depth 40 fits 50000) tt (known any_sign {a = K.sub x (K.int (pos 1))} (search reads depth 40 fits 50000) tt (known any_sign {a = y} (search reads depth 40 fits 50000) tt no_sign))))))
      not_negative {w = K.int (pos 2)} (search reads depth 40 fits 50000) (K.sign_int (pos 2)) (search reads depth 40 fits 50000)
      (product (given 2) (sum (product (number (pos 2)) (product (given 0) (given 2)))
      (product (given 1) (sum (sum (square (given 3)) (square (given 4))) (sum (number (pos 1)) (product (number (pos 2)) (square (given 5)))))))) tt tt

  swapped_squares : (n d x y w : A) → K.add (K.mul n w) (K.mul d (K.add (K.add (K.mul y y) (K.mul x x)) (K.int (pos 1)))) ≡ K.add (K.mul n w) (K.mul d (K.add (K.add (K.mul x x) (K.mul y y)) (K.int (pos 1))))
  swapped_squares n d x y w = ring K (n ∷ d ∷ x ∷ y ∷ w ∷ []) (search reads depth 40 fits 50000) (search reads depth 40 fits 50000) tt

  still_more : (n d x y w z v : A) → K.sign d ≡ Greater → K.sign w ≡ Greater → K.sign v ≡ Greater → IsTrue (is_ge (K.sign (K.add (K.mul n v) (K.mul d z))))
      → IsTrue (is_ge (K.sign (K.add (K.mul (K.add (K.mul n w) (K.mul d (K.add (K.add (K.mul x x) (K.mul y y)) (K.int (pos 1))))) v) (K.mul (K.mul d w) z))))
  still_more n d x y w z v hd hw hv h =
      sign_from K (n ∷ d ∷ x ∷ y ∷ w ∷ z ∷ v ∷ [])
      (known positive (search reads depth 40 fits 50000) hd (known positive (search reads depth 40 fits 50000) hw (known positive (search reads depth 40 fits 50000) hv (known not_negative (search reads depth 40 fits 50000) h (known any_sign {a = x} (search reads depth 40 fits 50000) tt (known any_sign {a = y} (search reads depth 40 fits 50000) tt no_sign))))))
      not_negative (search reads depth 40 fits 50000) (sum (product (given 1) (given 3)) (product (product (given 0) (given 2)) (sum (sum (square (given 4)) (square (given 5))) (number (pos 1))))) tt tt

  still_more_back : (n d x y w z v : A) → K.sign d ≡ Greater → K.sign w ≡ Greater → K.sign v ≡ Greater → IsTrue (is_ge (K.sign (K.sub (K.mul n v) (K.mul d z))))
      → IsTrue (is_ge (K.sign (K.sub (K.mul (K.add (K.mul n w) (K.mul d (K.add (K.add (K.mul x x) (K.mul y y)) (K.int (pos 1))))) v) (K.mul (K.mul d w) z))))
  still_more_back n d x y w z v hd hw hv h =
      sign_from K (n ∷ d ∷ x ∷ y ∷ w ∷ z ∷ v ∷ [])
      (known positive (search reads depth 40 fits 50000) hd (known positive (search reads depth 40 fits 50000) hw (known positive (search reads depth 40 fits 50000) hv (known not_negative (search reads depth 40 fits 50000) h (known any_sign {a = x} (search reads depth 40 fits 50000) tt (known any_sign {a = y} (search reads depth 40 fits 50000) tt no_sign))))))
      not_negative (search reads depth 40 fits 50000) (sum (product (given 1) (given 3)) (product (product (given 0) (given 2)) (sum (sum (square (given 4)) (square (given 5))) (number (pos 1))))) tt tt

  holds_point : (n d : A) (p : Point A) → IsTrue (is_ge (K.sign n)) → K.sign d ≡ Greater → IsPoint K p → IsInBox K (larger n d p) (K.mul d p.w) p
  holds_point n d p hn hd hp = record {
    west = more_than n d p.x p.y p.w hn hd hp;
    east = more_than_back n d p.x p.y p.w hn hd hp;
    south = subst (λ z. IsTrue (is_ge (K.sign (K.add (K.mul z p.w) (K.mul (K.mul d p.w) p.y))))) (swapped_squares n d p.x p.y p.w) (more_than n d p.y p.x p.w hn hd hp);
    north = subst (λ z. IsTrue (is_ge (K.sign (K.sub (K.mul z p.w) (K.mul (K.mul d p.w) p.y))))) (swapped_squares n d p.x p.y p.w) (more_than_back n d p.y p.x p.w hn hd hp);
  }

  holds_still : (n d : A) (p q : Point A) → K.sign d ≡ Greater → IsPoint K p → IsPoint K q → IsInBox K n d q → IsInBox K (larger n d p) (K.mul d p.w) q
  holds_still n d p q hd hp hq b = record {
    west = still_more n d p.x p.y p.w q.x q.w hd hp hq b.west;
    east = still_more_back n d p.x p.y p.w q.x q.w hd hp hq b.east;
    south = still_more n d p.x p.y p.w q.y q.w hd hp hq b.south;
    north = still_more_back n d p.x p.y p.w q.y q.w hd hp hq b.north;
  }

  larger_ge : (n d : A) (p : Point A) → IsTrue (is_ge (K.sign n)) → K.sign d ≡ Greater → IsPoint K p → IsTrue (is_ge (K.sign (larger n d p)))
  larger_ge n d p hn hd hp =
      sign_from K (n ∷ d ∷ p.x ∷ p.y ∷ p.w ∷ [])
      (known not_negative (search reads depth 40 fits 50000) hn (known positive (search reads depth 40 fits 50000) hd (known positive (search reads depth 40 fits 50000) hp (known any_sign {a = p.x} (search reads depth 40 fits 50000) tt (known any_sign {a = p.y} (search reads depth 40 fits 50000) tt no_sign)))))
      not_negative (search reads depth 40 fits 50000) (sum (product (given 0) (given 2)) (product (given 1) (sum (sum (square (given 3)) (square (given 4))) (number (pos 1))))) tt tt

  product_gt : (s t : A) → K.sign s ≡ Greater → K.sign t ≡ Greater → K.sign (K.mul s t) ≡ Greater
  product_gt s t hs ht = sign_from K (s ∷ t ∷ []) (known positive (search reads depth 40 fits 50000) hs (known positive (search reads depth 40 fits 50000) ht no_sign)) positive (search reads depth 40 fits 50000) (product (given 0) (given 1)) tt tt

  -- ---- outside of a box

  module _ (place : ℕ → Point A) (ps : List Piece) (plane : IsPlane K place ps) where
    -- a line that has no vertex at one side: all points there are in one region
    half_plane : (L : Line A) → ((f : Piece) → Among ps f → IsNotAbove K L (place f.tail) × IsNotAbove K L (place f.head)) → {x y : Point A} → IsPoint K x → IsPoint K y → IsAbove K L x → IsAbove K L y
        → OneRegion K place ps x y
    half_plane L none hx hy ax ay = straight hx hy (λ f i. parted_apart K (record { by = L; first_above = ax; second_above = ay; tail_not = (none f i).0; head_not = (none f i).1 }))

    region_end : {p q : Point A} → OneRegion K place ps p q → IsPoint K q
    region_end (straight hp hq c) = hq
    region_end (bent hp c l) = region_end l

    abbrev Boxed : A → A → List Piece → Type 0
    Boxed n d fs = (f : Piece) → Among fs f → IsInBox K n d (place f.tail) × IsInBox K n d (place f.head)

    box_more : (fs : List Piece) (n d : A) → ((f : Piece) → Among fs f → Ends K place f) → IsTrue (is_ge (K.sign n)) → K.sign d ≡ Greater → Boxed n d fs → (p : Point A) → IsPoint K p
        → Boxed (larger n d p) (K.mul d p.w) fs
    box_more fs n d points hn hd b p hp f i =
        (holds_still n d p (place f.tail) hd hp (points f i).tail_point (b f i).0, holds_still n d p (place f.head) hd hp (points f i).head_point (b f i).1)

    -- some box holds all vertices
    box : (fs : List Piece) → ((f : Piece) → Among fs f → Ends K place f) → (n : A) × (d : A) × IsTrue (is_ge (K.sign n)) × (K.sign d ≡ Greater) × Boxed n d fs
    box [] points = (K.int (pos 0), K.int (pos 1), equal_ge (K.sign_int (pos 0)), K.sign_int (pos 1), λ f i. absurd i)
    box (g ∷ fs) points =
        let r : (n : A) × (d : A) × IsTrue (is_ge (K.sign n)) × (K.sign d ≡ Greater) × Boxed n d fs = box fs (λ f i. points f (inr i)) in
        let e : Ends K place g = points g (inl refl) in
        let n : A = larger r.0 r.1 (place g.tail) in
        let d : A = K.mul r.1 (place g.tail).w in
        let hn : IsTrue (is_ge (K.sign n)) = larger_ge r.0 r.1 (place g.tail) r.2 r.3 e.tail_point in
        let hd : K.sign d ≡ Greater = product_gt r.1 (place g.tail).w r.3 e.tail_point in
        let b : Boxed n d fs = box_more fs r.0 r.1 (λ f i. points f (inr i)) r.2 r.3 r.4 (place g.tail) e.tail_point in (
          larger n d (place g.head),
          K.mul d (place g.head).w,
          larger_ge n d (place g.head) hn hd e.head_point,
          product_gt d (place g.head).w hd e.head_point,
          λ f. elim [
            | inl i ↦ subst (λ f. IsInBox K (larger n d (place g.head)) (K.mul d (place g.head).w) (place f.tail) × IsInBox K (larger n d (place g.head)) (K.mul d (place g.head).w) (place f.head)) i
                (holds_still n d (place g.head) (place g.tail) hd e.head_point e.tail_point (holds_point r.0 r.1 (place g.tail) r.2 r.3 e.tail_point), holds_point n d (place g.head) hn hd e.head_point)
            | inr i ↦ box_more fs n d (λ f i. points f (inr i)) hn hd b (place g.head) e.head_point f i
          ],
        )

    module _ (n d : A) (hd : K.sign d ≡ Greater) (boxed : Boxed n d ps) where
      abbrev far : A
      far = K.add n (K.int (pos 1))

      north_west : Point A
      north_west = record { x = K.neg far; y = far; w = d }

      north_east : Point A
      north_east = record { x = far; y = far; w = d }

      south_west : Point A
      south_west = record { x = K.neg far; y = K.neg far; w = d }

      west_free : (f : Piece) → Among ps f → IsNotAbove K (past_x n (K.neg d)) (place f.tail) × IsNotAbove K (past_x n (K.neg d)) (place f.head)
      west_free f i = (not_above_x n (K.neg d) (place f.tail) (not_past_back n d (place f.tail).x (place f.tail).w (boxed f i).0.west), not_above_x n (K.neg d) (place f.head) (not_past_back n d (place f.head).x (place f.head).w (boxed f i).1.west))

      east_free : (f : Piece) → Among ps f → IsNotAbove K (past_x n d) (place f.tail) × IsNotAbove K (past_x n d) (place f.head)
      east_free f i = (not_above_x n d (place f.tail) (not_past n d (place f.tail).x (place f.tail).w (boxed f i).0.east), not_above_x n d (place f.head) (not_past n d (place f.head).x (place f.head).w (boxed f i).1.east))

      south_free : (f : Piece) → Among ps f → IsNotAbove K (past_y n (K.neg d)) (place f.tail) × IsNotAbove K (past_y n (K.neg d)) (place f.head)
      south_free f i = (not_above_y n (K.neg d) (place f.tail) (not_past_back n d (place f.tail).y (place f.tail).w (boxed f i).0.south), not_above_y n (K.neg d) (place f.head) (not_past_back n d (place f.head).y (place f.head).w (boxed f i).1.south))

      north_free : (f : Piece) → Among ps f → IsNotAbove K (past_y n d) (place f.tail) × IsNotAbove K (past_y n d) (place f.head)
      north_free f i = (not_above_y n d (place f.tail) (not_past n d (place f.tail).y (place f.tail).w (boxed f i).0.north), not_above_y n d (place f.head) (not_past n d (place f.head).y (place f.head).w (boxed f i).1.north))

      -- a point outside of the box is in one region with its corner
      from_west : (q : Point A) → IsPoint K q → K.sign (K.add (K.mul n q.w) (K.mul d q.x)) ≡ Less → OneRegion K place ps q north_west
      unfolding north_west
      from_west q hq h = half_plane (past_x n (K.neg d)) west_free hq hd (above_x n (K.neg d) q (is_past_back n d q.x q.w h)) (above_x n (K.neg d) north_west (corner_past_back n d hd))

      from_east : (q : Point A) → IsPoint K q → K.sign (K.sub (K.mul n q.w) (K.mul d q.x)) ≡ Less → OneRegion K place ps q north_west
      unfolding north_west north_east
      from_east q hq h =
          region_then K place ps (half_plane (past_x n d) east_free {y = north_east} hq hd (above_x n d q (is_past n d q.x q.w h)) (above_x n d north_east (corner_past n d hd)))
          (half_plane (past_y n d) north_free {x = north_east} {y = north_west} hd hd (above_y n d north_east (corner_past n d hd)) (above_y n d north_west (corner_past n d hd)))

      from_south : (q : Point A) → IsPoint K q → K.sign (K.add (K.mul n q.w) (K.mul d q.y)) ≡ Less → OneRegion K place ps q north_west
      unfolding north_west south_west
      from_south q hq h =
          region_then K place ps (half_plane (past_y n (K.neg d)) south_free {y = south_west} hq hd (above_y n (K.neg d) q (is_past_back n d q.y q.w h)) (above_y n (K.neg d) south_west (corner_past_back n d hd)))
          (half_plane (past_x n (K.neg d)) west_free {x = south_west} {y = north_west} hd hd (above_x n (K.neg d) south_west (corner_past_back n d hd)) (above_x n (K.neg d) north_west (corner_past_back n d hd)))

      from_north : (q : Point A) → IsPoint K q → K.sign (K.sub (K.mul n q.w) (K.mul d q.y)) ≡ Less → OneRegion K place ps q north_west
      unfolding north_west
      from_north q hq h = half_plane (past_y n d) north_free hq hd (above_y n d q (is_past n d q.y q.w h)) (above_y n d north_west (corner_past n d hd))

      -- a point lies in the box, or in one region with its corner
      in_or_out : (q : Point A) → IsPoint K q → IsInBox K n d q ⊎ OneRegion K place ps q north_west
      in_or_out q hq =
          elim (at_least (K.sign (K.add (K.mul n q.w) (K.mul d q.x)))) [
            | inr h ↦ inr (from_west q hq h)
            | inl west ↦ elim (at_least (K.sign (K.sub (K.mul n q.w) (K.mul d q.x)))) [
              | inr h ↦ inr (from_east q hq h)
              | inl east ↦ elim (at_least (K.sign (K.add (K.mul n q.w) (K.mul d q.y)))) [
                | inr h ↦ inr (from_south q hq h)
                | inl south ↦ elim (at_least (K.sign (K.sub (K.mul n q.w) (K.mul d q.y)))) [
                  | inr h ↦ inr (from_north q hq h)
                  | inl north ↦ inl (record { west = west; east = east; south = south; north = north })
                ]
              ]
            ]
          ]

    -- ---- the region left of the outer walk

    module _ (o : Piece) (outer : IsOuter K place ps o) where
      abbrev V : Point A
      V = place o.tail

      abbrev W : Point A
      W = place o.head

      ends_o : Ends K place o
      ends_o = directed_ends K place ps plane o outer.1

      -- no vertex lies left of the least one, in the direction of smaller x
      at_vertex : (x : ℕ) → IsVertex ps x → IsNotAbove K (to_x K V) (place x)
      at_vertex x h = elim (outer.0.1 x h) [
        | inl e ↦ equal_le (subst (λ x. K.sign (value K.ops (to_x K V) (place x)) ≡ Equal) (sym e) (to_x_itself K V))
        | inr g ↦ elim g [
          | inl k ↦ sign_from K (V.x ∷ V.w ∷ (place x).x ∷ (place x).y ∷ (place x).w ∷ []) (known positive (search reads depth 40 fits 50000) k no_sign) not_positive (search reads depth 40 fits 50000) (negated (given 0)) tt tt
          | inr k ↦ sign_from K (V.x ∷ V.w ∷ (place x).x ∷ (place x).y ∷ (place x).w ∷ []) (known at_zero (search reads depth 40 fits 50000) k.0 no_sign) not_positive (search reads depth 40 fits 50000) (negated (given 0)) tt tt
        ]
      ]

      west_of : (f : Piece) → Among ps f → IsNotAbove K (to_x K V) (place f.tail) × IsNotAbove K (to_x K V) (place f.head)
      west_of f i = (at_vertex f.tail (f.head, inl i), at_vertex f.head (f.tail, inr i))

      -- a point west of all vertices that is in the region
      abbrev West : Point A → Type 0
      West p = (h : Point A) × IsPoint K h × IsAbove K (to_x K V) h × OneRegion K place ps p h

      -- where the first piece leads straight up, its left is west
      upwards : (p : Point A) → LeftOf K place ps o p → K.sign (x_from K.ops V W) ≡ Equal → K.sign (y_from K.ops V W) ≡ Greater → West p
      upwards p l level up = (
        p,
        l.point,
        sign_from_multiple K (V.x ∷ V.y ∷ V.w ∷ W.x ∷ W.y ∷ W.w ∷ p.x ∷ p.y ∷ p.w ∷ [])
            (known positive (search reads depth 40 fits 50000) l.left (known positive (search reads depth 40 fits 50000) ends_o.tail_point (known at_zero (search reads depth 40 fits 50000) level (known any_sign {a = y_from K.ops V p} (search reads depth 40 fits 50000) tt no_sign))))
            positive (search reads depth 40 fits 50000) up (search reads depth 40 fits 50000) (sum (product (given 1) (given 0)) (negated (product (given 2) (given 3)))) tt tt,
        left_one_region K place ps plane o outer.1 (middle_inner K place ps plane o outer.1) (middle_inner K place ps plane o outer.1) l l,
      )

      abbrev X : Point A
      X = mirrored K V W

      stars : Stars K place ps o.tail
      stars = star K place ps plane (reversed o) (directed_back ps o outer.1)

      near_x : (m : Point A) × NearBy K place ps o.tail stars X m
      near_x = near_by K place ps o.tail stars X

      near_w : (m : Point A) × NearBy K place ps o.tail stars W m
      near_w = near_by K place ps o.tail stars W

      left_beside : Point A
      left_beside = beside K V W V

      left_beside_greater : K.sign (determinant K.ops V W left_beside) ≡ Greater
      unfolding left_beside
      left_beside_greater = beside_left K V W V ends_o.different (zero_is K (at_first K V W))

      left_beside_point : IsPoint K left_beside
      unfolding left_beside
      left_beside_point = ends_o.tail_point

      reversed_less : (s : Ordering) → ordering_reverse s ≡ Less → s ≡ Greater
      reversed_less Less h = absurd (cc)
      reversed_less Equal h = absurd (cc)
      reversed_less Greater h = refl

      -- where it leads to the right, it is reached from the ray opposite to it
      rightwards : (p : Point A) → LeftOf K place ps o p → K.sign (x_from K.ops V W) ≡ Greater → West p
      rightwards p l right =
          let t : (p : Point A) × LeftAt K place ps X V near_x.0 p × LeftAt K place ps V W near_w.0 p
          = turn K place ps o.tail stars {a = X} {b = W} {c = left_beside}
          (mirrored_side K V W left_beside ends_o.tail_point ∙ ap ordering_reverse left_beside_greater) left_beside_greater
          (equal_le (mirrored_side K V W W ends_o.tail_point ∙ ap ordering_reverse (at_second K V W)))
          (λ y hy xy wy. outer.2 y hy wy)
          ends_o.tail_point left_beside_point near_x.1 near_w.1 in
          let west_w : K.sign (x_from K.ops W V) ≡ Less
          = sign_from K (V.x ∷ V.w ∷ W.x ∷ W.w ∷ []) (known positive (search reads depth 40 fits 50000) right no_sign) negative (search reads depth 40 fits 50000) (negated (given 0)) tt tt in
          let hm : IsPoint K near_x.0 = closer_point K near_x.1.closer ends_o.tail_point (mirrored_point K V W ends_o.tail_point ends_o.head_point) in
          let am : IsAbove K (to_x K V) near_x.0
          = along K (to_x K V) (to_x_itself K V) near_x.1.closer ∙ mirrored_sign K (to_x K V) V W ends_o.tail_point (to_x_itself K V) ∙ ap ordering_reverse (ap K.sign (value_to_x K V W) ∙ west_w) in
          let b : (b : Point A) × Closer K near_x.0 t.0 b × IsAbove K (to_x K V) b = near K (to_x K V) near_x.0 t.0 am in (
            b.0,
            closer_point K b.1 hm t.1.point,
            b.2,
            region_then K place ps (left_one_region K place ps plane o outer.1 (middle_inner K place ps plane o outer.1) near_w.1.closer l t.2)
                (straight t.1.point (closer_point K b.1 hm t.1.point) (toward K place ps t.1 b.1)),
          )

      west : (p : Point A) → LeftOf K place ps o p → West p
      west p l = elim (outer.0.1 o.head (o.tail, directed_back ps o outer.1)) [
        | inl e ↦ absurd (ends_o.different (subst (λ v. IsSamePoint K V (place v)) (sym e) (same_refl K V)))
        | inr g ↦ elim g [
          | inl k ↦ rightwards p l k
          | inr k ↦ upwards p l k.0 k.1
        ]
      ]

      -- as far west as one likes
      abbrev far_x : A → A → A
      far_x n d = K.neg (K.add (K.add (K.mul (K.mul n V.w) (K.mul n V.w)) (K.int (pos 1))) (K.add (K.mul (K.mul V.x d) (K.mul V.x d)) (K.int (pos 1))))

      far_west : (n d : A) → K.sign d ≡ Greater → (p : Point A) → LeftOf K place ps o p
          → (q : Point A) × OneRegion K place ps p q × (K.sign (K.add (K.mul n q.w) (K.mul d q.x)) ≡ Less)
      far_west n d hd p l =
          let h : West p = west p l in
          let q : Point A = record { x = far_x n d; y = K.int (pos 0); w = K.mul V.w d } in
          let hq : K.sign (K.mul V.w d) ≡ Greater = product_gt V.w d ends_o.tail_point hd in (
            q,
            region_then K place ps h.3 (half_plane (to_x K V) west_of {y = q} h.1 hq h.2
                (sign_from_multiple K (V.x ∷ V.w ∷ n ∷ d ∷ [])
                (known positive (search reads depth 40 fits 50000) ends_o.tail_point (known positive (search reads depth 40 fits 50000) hd (known any_sign {a = K.mul V.x d} (search reads depth 40 fits 50000) tt (known any_sign {a = K.add (K.mul V.x d) (K.int (pos 1))} (search reads depth 40 fits 50000) tt
                (known any_sign {a = K.mul n V.w} (search reads depth 40 fits 50000) tt no_sign)))))
                positive {w = K.int (pos 2)} (search reads depth 40 fits 50000) (K.sign_int (pos 2)) (search reads depth 40 fits 50000)
                (product (given 0) (sum (sum (square (given 2)) (square (given 3))) (sum (number (pos 3)) (product (number (pos 2)) (square (given 4)))))) tt tt)),
            sign_from_multiple K (V.x ∷ V.w ∷ n ∷ d ∷ [])
                (known positive (search reads depth 40 fits 50000) ends_o.tail_point (known positive (search reads depth 40 fits 50000) hd (known any_sign {a = K.mul n V.w} (search reads depth 40 fits 50000) tt (known any_sign {a = K.sub (K.mul n V.w) (K.int (pos 1))} (search reads depth 40 fits 50000) tt
                (known any_sign {a = K.mul V.x d} (search reads depth 40 fits 50000) tt no_sign)))))
                negative {w = K.int (pos 2)} (search reads depth 40 fits 50000) (K.sign_int (pos 2)) (search reads depth 40 fits 50000)
                (negated (product (given 1) (sum (sum (square (given 2)) (square (given 3))) (sum (number (pos 3)) (product (number (pos 2)) (square (given 4))))))) tt tt,
          )

      less_not_ge : {s : Ordering} → s ≡ Less → IsTrue (is_ge s) → ⊥
      less_not_ge h k = absurd (cc)

      -- the region of the outer walk isn't bounded
      pub outer_unbounded : (p : Point A) → LeftOf K place ps o p → ¬ IsBounded K place ps p
      outer_unbounded p l b =
          let f : (q : Point A) × OneRegion K place ps p q × (K.sign (K.add (K.mul b.0 q.w) (K.mul b.1 q.x)) ≡ Less) = far_west b.0 b.1 b.2 p l in
          less_not_ge f.2 (b.3 f.0 f.1).west

      -- those of all other walks are
      pub inner_bounded : ((d f : Piece) → IsDirected ps d → IsDirected ps f → OneLeft K place ps d f → OneWalk K place ps d f) → (d : Piece) (p : Point A) → IsDirected ps d → ¬ OneWalk K place ps o d → LeftOf K place ps d p → IsBounded K place ps p
      inner_bounded walk_of d p hd other l =
          let k : (n : A) × (d : A) × IsTrue (is_ge (K.sign n)) × (K.sign d ≡ Greater) × Boxed n d ps = box ps (ends K place ps plane) in (
            k.0,
            k.1,
            k.3,
            λ q one. elim (in_or_out k.0 k.1 k.3 k.4 q (region_end one)) [
              | inl held ↦ held
              | inr out ↦
                  let s : (r : Point A) × LeftOf K place ps o r = some_left K place ps plane o outer.1 (middle_inner K place ps plane o outer.1) in
                  let f : (q : Point A) × OneRegion K place ps s.0 q × (K.sign (K.add (K.mul k.0 q.w) (K.mul k.1 q.x)) ≡ Less) = far_west k.0 k.1 k.3 s.0 s.1 in
                  absurd (other (walk_of o d outer.1 hd (
                    s.0,
                    p,
                    s.1,
                    l,
                    region_then K place ps f.1 (region_then K place ps (from_west k.0 k.1 k.3 k.4 f.0 (region_end f.1) f.2) (region_back K place ps (region_then K place ps one out))),
                  )))
            ],
          )
