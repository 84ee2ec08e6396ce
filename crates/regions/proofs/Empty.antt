-- A drawing without pieces: the whole plane is one region, which isn't bounded, and there are no walks.
use Prim.Native.Nat.{ℕ}
use mathlib.Core.Path.{◌≡◌}
use mathlib.Core.List.{List, [], ◌∷◌}
use Rattle.plane.proofs.Members.{in_nil}
use Rattle.scaled_plane.specs.Walks.{FollowRound, IsWalk, pieces_round}
use lib.IntN.{pos}
use Rattle.std.specs.Prelude.{IsTrue}
use Rattle.std.specs.declared.cmp.Ordering.{Ordering}
use Rattle.std.specs.declared.cmp.Ordering.TheVariants.{Less}
use Rattle.std.specs.Ordering.{is_ge}
use Rattle.algebra.specs.OrderedRing.{OrderedRing}
use Rattle.plane.specs.declared.point.Point.{Point}
use Rattle.algebra.proofs.Solvers.{reads, sign_from_multiple, known, no_sign, given, number, sum, product, square, negated, positive, negative, any_sign}
use Rattle.plane.specs.Points.{IsPoint}
use Rattle.regions.proofs.Regions.{straight, IsBounded}

module _ {A : Type 0} (K : OrderedRing A) (place : ℕ → Point A) where
  less_not_ge : {s : Ordering} → s ≡ Less → IsTrue (is_ge s) → ⊥
  less_not_ge h k = absurd (cc)

  pub one_region_unbounded : (p : Point A) → IsPoint K p → ¬ IsBounded K place [] p
  one_region_unbounded p hp b =
      let q : Point A = record { x = K.neg (K.add (K.mul b.0 b.0) (K.int (pos 1))); y = K.int (pos 0); w = b.1 } in
      let west : K.sign (K.add (K.mul b.0 b.1) (K.mul b.1 (K.neg (K.add (K.mul b.0 b.0) (K.int (pos 1)))))) ≡ Less
      = sign_from_multiple K (b.0 ∷ b.1 ∷ []) (known positive (search reads depth 40 fits 50000) b.2 (known any_sign {a = b.0} (search reads depth 40 fits 50000) tt (known any_sign {a = K.sub b.0 (K.int (pos 1))} (search reads depth 40 fits 50000) tt no_sign)))
      negative {w = K.int (pos 2)} (search reads depth 40 fits 50000) (K.sign_int (pos 2)) (search reads depth 40 fits 50000) (negated (product (given 0) (sum (sum (square (given 1)) (square (given 2))) (number (pos 1))))) tt tt in
      less_not_ge west (b.3 q (straight hp b.2 (λ e i. absurd i))).west

module _ {A : Type 0} (K : OrderedRing A) (vertices : List (Point A)) where
  none_follow : (xs : List (ℕ × ℕ)) → FollowRound K vertices [] xs → ⊥
  none_follow [] f = f
  none_follow (p ∷ []) f = in_nil f.0.1.piece.0 f.0.1.piece.1
  none_follow (p ∷ q ∷ rest) f = in_nil f.0.1.piece.0 f.0.1.piece.1

  pub no_walk : (corners : List ℕ) → ¬ IsWalk K vertices [] corners
  no_walk corners w = none_follow (pieces_round corners) w.follow
