-- What grows, step by step, and what a test of two segments leaves to be found.
use mathlib.Core.Path.{◌≡◌, sym, subst}
use mathlib.Core.List.{List, [], ◌∷◌, map}
use Rattle.std.proofs.Common.{inl, inr}
use Rattle.std.specs.Prelude.{◌⊎◌, ⊤, true, false, OnOk, Ok, Err, Result, ℕ, ◌≤◌, ℤ, Contains}
use Rattle.std.specs.List.{AllByRecursion}
use Rattle.std.specs.List.Sorted.{IsStrictlySortedBy}
use Rattle.std.specs.declared.cmp.Ordering.TheVariants.{Less}
use Rattle.algebra.specs.OrderedRing.{OrderedRing}
use Rattle.algebra.specs.Surd.{Surd}
use Rattle.algebra.specs.WholeSurds.{SurdNumbers}
use Rattle.plane.specs.declared.point.Point.{Point}
use Rattle.scaled_plane.specs.declared.point.Segment.{Segment}
use Rattle.plane.specs.Points.{IsPoint, IsSamePoint, point_order}
use Rattle.scaled_plane.specs.Counts.{share_x}
use Rattle.scaled_plane.specs.Sizes.{IsDrawnSize}
use Rattle.scaled_plane.specs.Drawn.{IsDrawn}
use Rattle.plane.proofs.Lines.{same_through}
use Rattle.scaled_plane.proofs.DrawnSizes.{drawn_size}
use Rattle.plane.proofs.Crossings.{parallel_apart}
use Rattle.segment_tests.specs.declared.answer.Meet.{Meet}
use Rattle.segment_tests.specs.declared.answer.Meet.TheVariants.{Apart, Touches, Crosses, Along}
use Rattle.segment_tests.specs.Meets.{IsMeet, IsOneEnd}
use Rattle.scaled_plane.proofs.DrawnSizes.{scaled_point}
use Rattle.arrangement.specs.Found.{Has, Grows, HasEnds, HasCrossing, IsCrossed, IsUsable}
use Rattle.arrangement.proofs.Sharing.{test_names, Names, common_share_x}

module _ {A : Type 0} (K : OrderedRing A) where
  pub grows_not : (P : Point A → Type 0) (points : List (Point A)) → Grows K P points points
  grows_not P points = record { kept = λ p h. h; only = λ p h. inl h }

  pub has_kept : (P : Point A → Type 0) (a b : List (Point A)) (p : Point A) → Grows K P a b → Has K a p → Has K b p
  has_kept P a b p g h = (h.0, g.kept h.0 h.1, h.2)

  pub ends_kept : (P : Point A → Type 0) (a b : List (Point A)) (s : Segment A) → Grows K P a b → HasEnds K a s → HasEnds K b s
  ends_kept P a b s g h = (has_kept P a b s.from g h.0, has_kept P a b s.to g h.1)

  pub crossing_kept : (P : Point A → Type 0) (a b : List (Point A)) (s t : Segment A) → Grows K P a b → HasCrossing K a s t → HasCrossing K b s t
  crossing_kept P a b s t g h = λ p hp across common. has_kept P a b p g (h p hp across common)

  pub grows_on : (P : Point A → Type 0) (a b c : List (Point A)) → Grows K P a b → Grows K P b c → Grows K P a c
  grows_on P a b c g h = record {
    kept = λ p i. h.kept p (g.kept p i);
    only = λ p i. later p (h.only p i);
  }
    where
      later : (p : Point A) → Contains b p ⊎ (P p × ¬ Has K b p) → Contains a p ⊎ (P p × ¬ Has K a p)
      later p (inl i) = g.only p i
      later p (inr n) = inr (n.0, λ i. n.1 (has_kept P a b p g i))

  pub grows_by : (P Q : Point A → Type 0) (a b : List (Point A)) → ((p : Point A) → P p → Q p) → Grows K P a b → Grows K Q a b
  grows_by P Q a b f g = record { kept = g.kept; only = λ p i. weaker p (g.only p i) }
    where
      weaker : (p : Point A) → Contains a p ⊎ (P p × ¬ Has K a p) → Contains a p ⊎ (Q p × ¬ Has K a p)
      weaker p (inl i) = inl i
      weaker p (inr n) = inr (f p n.0, n.1)

  pub has_same : (points : List (Point A)) (p q : Point A) → IsPoint K q → IsSamePoint K p q → Has K points q → Has K points p
  has_same points p q hq e h = (h.0, h.1, same_through K p q h.0 hq e h.2)

  above : {V : Type 0} (f : V → Point A) (x : V) (ys : List V) → AllByRecursion (λ w. point_order K (f x) (f w) ≡ Less) ys → AllByRecursion (λ q. point_order K (f x) q ≡ Less) (map f ys)
  above f x [] a = tt
  above f x (y ∷ ys) a = (a.0, above f x ys a.1)

  -- an order of elements is one of what they are seen as
  pub map_sorted : {V : Type 0} (f : V → Point A) (ks : List V) → IsStrictlySortedBy (λ v w. point_order K (f v) (f w)) ks → IsStrictlySortedBy (point_order K) (map f ks)
  unfolding IsStrictlySortedBy
  map_sorted f [] h = tt
  map_sorted f (x ∷ xs) h = (above f x xs h.0, map_sorted f xs h.1)

module _ {A : Type 0} {k : ℕ} {surd : A → Surd ℤ} (numbers : SurdNumbers k surd) (s t : Segment A) (hs : IsUsable numbers s) (ht : IsUsable numbers t) where
  -- the answer's crossing is there
  abbrev pub Seen : List (Point A) → Meet A → Type 0
  Seen points Apart = ⊤
  Seen points (Touches q) = ⊤
  Seen points (Crosses q) = Has numbers.ring points q
  Seen points (Along q r) = ⊤

  end_there : (points : List (Point A)) (q : Point A) → HasEnds numbers.ring points s → HasEnds numbers.ring points t → IsOneEnd numbers.ring s t q → IsPoint numbers.ring q × Has numbers.ring points q
  end_there points q h k (inl e) = subst (λ p. IsPoint numbers.ring p × Has numbers.ring points p) (sym e) (scaled_point numbers s.from hs.from, h.0)
  end_there points q h k (inr (inl e)) = subst (λ p. IsPoint numbers.ring p × Has numbers.ring points p) (sym e) (scaled_point numbers s.to hs.to, h.1)
  end_there points q h k (inr (inr (inl e))) = subst (λ p. IsPoint numbers.ring p × Has numbers.ring points p) (sym e) (scaled_point numbers t.from ht.from, k.0)
  end_there points q h k (inr (inr (inr e))) = subst (λ p. IsPoint numbers.ring p × Has numbers.ring points p) (sym e) (scaled_point numbers t.to ht.to, k.1)

  -- after a test each common point of two that aren't parallel is there
  pub tested : (points : List (Point A)) (answer : Meet A) → IsMeet numbers.ring s t answer → HasEnds numbers.ring points s → HasEnds numbers.ring points t
      → Seen points answer → HasCrossing numbers.ring points s t
  tested points answer m h k seen p hp across common =
      at answer m seen (test_names numbers.ring s t (scaled_point numbers s.from hs.from) (scaled_point numbers s.to hs.to)
      (scaled_point numbers t.from ht.from) (scaled_point numbers t.to ht.to) across answer p m hp common)
    where
      at : (answer : Meet A) → IsMeet numbers.ring s t answer → Seen points answer → Names numbers.ring answer p → Has numbers.ring points p
      at Apart m seen n = absurd n
      at (Touches q) m seen n =
          let there = end_there points q h k m.1 in
          has_same numbers.ring points p q there.0 n there.1
      at (Crosses q) m seen n = has_same numbers.ring points p q m.0.point n seen
      at (Along q r) m seen n = absurd n

  pub crossed : (q : Point A) → IsMeet numbers.ring s t (Crosses q) → IsCrossed numbers.ring s t q
  crossed q m = record {
    point = m.0.point;
    across = parallel_apart numbers.ring s.from s.to t.from t.to (subst (IsPoint numbers.ring) m.3 m.0.point);
    common = m.0.common;
    is = m.3;
  }

  pub crossed_drawn : (q : Point A) → IsCrossed numbers.ring s t q → IsDrawn numbers q
  crossed_drawn q m = inr (record {
    a = s.from;
    b = s.to;
    c = t.from;
    d = t.to;
    a_scaled = hs.from;
    b_scaled = hs.to;
    c_scaled = ht.from;
    d_scaled = ht.to;
    not_parallel = m.across;
    is = m.is;
  })

  pub crossed_within : (k_at_most : k ≤ 3) (q : Point A) → IsMeet numbers.ring s t (Crosses q) → IsDrawnSize surd q
  crossed_within k_at_most q m = drawn_size numbers k_at_most q (crossed_drawn q (crossed q m))

  pub crossed_grows : (old new : List (Point A)) (q : Point A) → IsMeet numbers.ring s t (Crosses q) → Grows numbers.ring (λ p. p ≡ q) old new
      → Grows numbers.ring (IsCrossed numbers.ring s t) old new
  crossed_grows old new q m g =
      grows_by numbers.ring (λ p. p ≡ q) (IsCrossed numbers.ring s t) old new (λ p e. subst (IsCrossed numbers.ring s t) (sym e) (crossed q m)) g

  pub crossed_has : (old new : List (Point A)) (q : Point A) → IsMeet numbers.ring s t (Crosses q) → HasEnds numbers.ring old s → HasEnds numbers.ring old t
      → Grows numbers.ring (λ p. p ≡ q) old new → Has numbers.ring new q → HasCrossing numbers.ring new s t
  crossed_has old new q m h k g seen =
      tested new (Crosses q) m (ends_kept numbers.ring (λ p. p ≡ q) old new s g h) (ends_kept numbers.ring (λ p. p ≡ q) old new t g k) seen

  -- two that share no x have no common point
  pub far_apart : (points : List (Point A)) → share_x numbers.ring s t ≡ false → HasCrossing numbers.ring points s t
  far_apart points e p hp across common =
      let yes : share_x numbers.ring s t ≡ true = common_share_x numbers.ring s t p (scaled_point numbers s.from hs.from) (scaled_point numbers s.to hs.to)
      (scaled_point numbers t.from ht.from) (scaled_point numbers t.to ht.to) hp common in
      absurd (cc)

pub ok_then : {X E P Q : Type 0} (r : Result X E) → (P → Q) → OnOk r P → OnOk r Q
ok_then (Ok x) f h = f h
ok_then (Err e) f h = h
