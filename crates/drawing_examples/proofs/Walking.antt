-- Walks round small drawings, by tests: that a list of corners is a walk, a least rotation, the
-- outer walk or another.
use mathlib.Core.Path.{◌≡◌, refl, sym, subst}
use mathlib.Core.Bool.{Bool, true, false}
use mathlib.Core.List.{List, [], ◌∷◌, ◌++◌}
use mathlib.Core.Logic.{inl, inr}
use Prim.Native.Nat.{ℕ, ◌<◌}
use Rattle.std.proofs.Common.{arith}
use Rattle.std.proofs.lemmas.Bool.Decides.{Decides-eqb, Decides-ltb}
use Rattle.std.proofs.lemmas.List.Kept.{AllPairs-cons}
use Rattle.std.proofs.lemmas.List.{append-nil, append_assoc}
use Rattle.std.specs.Cmp.Lexicographic.{slice_cmp}
use Rattle.std.specs.Ordering.{nat_cmp, is_le, is_lt}
use Rattle.std.specs.Prelude.{◌&&◌, ◌||◌, not, AllPairs, Contains, length, nat_eq, slice_index_or}
use lib.Dec.{ltb}
use Rattle.algebra.specs.OrderedRing.{OrderedRing}
use Rattle.plane.specs.declared.point.Point.{Point}
use Rattle.plane.specs.Directions.{west}
use Rattle.plane.specs.Points.{point_order}
use Rattle.scaled_plane.specs.declared.drawing.Edge.{Edge}
use Rattle.scaled_plane.specs.Pieces.{point_at}
use Rattle.scaled_plane.specs.Walks.{FollowOn, FollowRound, IsFaceWalk, IsLeastRotation, IsOuterWalk, IsOutside, IsWalk, pieces_round, way}
use Rattle.drawing_examples.proofs.Cutting.{not_is}
use Rattle.drawing_examples.proofs.Following.{after_is, clockwise, clockwise_decides, comes_after, joined, joins, where_at}
use Rattle.drawing_examples.proofs.Lists.{and_first, and_second, at_place, below, below_of, every, every_of, or_either, some}
use Rattle.drawing_examples.proofs.Tests.{less_decides}

-- ---- rotations

-- a test of each rotation of front ++ back that begins in the back
abbrev each_turn : (List ℕ → Bool) → List ℕ → List ℕ → Bool
each_turn f front [] = f front
each_turn f front (x ∷ back) = f ((x ∷ back) ++ front) && each_turn f (front ++ x ∷ []) back

turned_passes : (f : List ℕ → Bool) (start front back : List ℕ) → each_turn f start (front ++ back) ≡ true → f (back ++ (start ++ front)) ≡ true
turned_passes f start [] [] h = subst (λ xs. f xs ≡ true) (sym (append-nil start)) h
turned_passes f start [] (x ∷ back) h =
    subst (λ xs. f ((x ∷ back) ++ xs) ≡ true) (sym (append-nil start)) (and_first (f ((x ∷ back) ++ start)) (each_turn f (start ++ x ∷ []) back) h)
turned_passes f start (y ∷ front) back h =
    subst (λ xs. f (back ++ xs) ≡ true) (append_assoc start (y ∷ []) front)
    (turned_passes f (start ++ y ∷ []) front back (and_second (f ((y ∷ front ++ back) ++ start)) (each_turn f (start ++ y ∷ []) (front ++ back)) h))

abbrev pub is_least : List ℕ → Bool
is_least corners = each_turn (λ other. is_le (slice_cmp nat_cmp corners other)) [] corners

pub least_is : (corners : List ℕ) → is_least corners ≡ true → IsLeastRotation corners
least_is corners h other r =
    let passes = λ (xs : List ℕ). is_le (slice_cmp nat_cmp corners xs) in
    subst (λ xs. passes xs ≡ true) (sym r.3) (turned_passes passes [] r.0 r.1 (subst (λ xs. each_turn passes [] xs ≡ true) r.2 h))

-- ---- walks

abbrev same_piece : ℕ × ℕ → ℕ × ℕ → Bool
same_piece p q = nat_eq p.0 q.0 && nat_eq p.1 q.1

same_is : (p q : ℕ × ℕ) → p ≡ q → same_piece p q ≡ true
same_is p q e = subst (λ r. same_piece p r ≡ true) e (both (nat_eq p.0 p.0) (nat_eq p.1 p.1) ((Decides-eqb p.0 p.0).1 refl) ((Decides-eqb p.1 p.1).1 refl))
  where
    both : (a b : Bool) → a ≡ true → b ≡ true → (a && b) ≡ true
    both true b h k = k
    both false b h k = absurd (cc)

abbrev distinct : List (ℕ × ℕ) → Bool
distinct [] = true
distinct (p ∷ rest) = every (λ q. not (same_piece p q)) rest && distinct rest

distinct_is : (ps : List (ℕ × ℕ)) → distinct ps ≡ true → AllPairs (λ p q. ¬ (p ≡ q)) ps
distinct_is [] h = λ i j d lt within. absurd (omega (arith, within))
distinct_is (p ∷ rest) h =
    AllPairs-cons (λ (r s : ℕ × ℕ). ¬ (r ≡ s)) p rest
    (λ k d l e. not_is (same_piece p (slice_index_or rest k d))
    (every_of (λ q. not (same_piece p q)) rest (and_first (every (λ q. not (same_piece p q)) rest) (distinct rest) h) (slice_index_or rest k d) (at_place rest d k l))
    (same_is p (slice_index_or rest k d) e))
    (distinct_is rest (and_second (every (λ q. not (same_piece p q)) rest) (distinct rest) h))

module _ {A : Type 0} (K : OrderedRing A) (vertices : List (Point A)) (edges : List Edge) where
  abbrev follows : ℕ × ℕ → ℕ × ℕ → Bool
  follows p q = nat_eq p.1 q.0 && comes_after K vertices edges p.0 p.1 q.1

  abbrev follow_on : ℕ × ℕ → List (ℕ × ℕ) → Bool
  follow_on p [] = true
  follow_on p (q ∷ rest) = follows p q && follow_on q rest

  abbrev follow_round : List (ℕ × ℕ) → Bool
  follow_round [] = false
  follow_round (p ∷ rest) = follow_on p (rest ++ p ∷ [])

  on_is : (p : ℕ × ℕ) (rest : List (ℕ × ℕ)) → follow_on p rest ≡ true → FollowOn K vertices edges p rest
  on_is p [] h = tt
  on_is p (q ∷ rest) h =
      let step = and_first (follows p q) (follow_on q rest) h in (
        (
          (Decides-eqb p.1 q.0).0 (and_first (nat_eq p.1 q.0) (comes_after K vertices edges p.0 p.1 q.1) step),
          after_is K vertices edges p.0 p.1 q.1 (and_second (nat_eq p.1 q.0) (comes_after K vertices edges p.0 p.1 q.1) step),
        ),
        on_is q rest (and_second (follows p q) (follow_on q rest) h),
      )

  round_is : (ps : List (ℕ × ℕ)) → follow_round ps ≡ true → FollowRound K vertices edges ps
  round_is [] h = absurd (cc)
  round_is (p ∷ rest) h = on_is p (rest ++ p ∷ []) h

  abbrev pub is_walk : List ℕ → Bool
  is_walk corners = follow_round (pieces_round corners) && distinct (pieces_round corners)

  pub walk_is : (corners : List ℕ) → is_walk corners ≡ true → IsWalk K vertices edges corners
  walk_is corners h = record {
    follow = round_is (pieces_round corners) (and_first (follow_round (pieces_round corners)) (distinct (pieces_round corners)) h);
    once = distinct_is (pieces_round corners) (and_second (follow_round (pieces_round corners)) (distinct (pieces_round corners)) h);
  }

  -- ---- outside

  abbrev position : ℕ → Point A
  position v = point_at K vertices v

  abbrev least_point : ℕ → ℕ → Bool
  least_point u v = nat_eq v u || is_lt (point_order K (position u) (position v))

  abbrev turns_first : ℕ → ℕ → ℕ → Bool
  turns_first u w x = nat_eq x w || clockwise K (west K.ops) (way K vertices edges u w) (way K vertices edges u x)

  abbrev all_turn_later : ℕ → ℕ → Edge → Bool
  all_turn_later u w e = (not (nat_eq e.from u) || turns_first u w e.to) && (not (nat_eq e.to u) || turns_first u w e.from)

  abbrev is_outside : ℕ → ℕ → Bool
  is_outside u w = (ltb u (length vertices) && below (least_point u) (length vertices)) && (some (joins K vertices edges u w) edges && every (all_turn_later u w) edges)

  turns_later : (u w x : ℕ) → turns_first u w x ≡ true → ¬ (x ≡ w)
      → clockwise K (west K.ops) (way K vertices edges u w) (way K vertices edges u x) ≡ true
  turns_later u w x h not_w =
      elim (or_either (nat_eq x w) (clockwise K (west K.ops) (way K vertices edges u w) (way K vertices edges u x)) h) [
        | inl e ↦ absurd (not_w ((Decides-eqb x w).0 e))
        | inr g ↦ g
      ]

  outside_is : (u w : ℕ) → is_outside u w ≡ true → IsOutside K vertices edges u w
  outside_is u w h =
      let point = and_first (ltb u (length vertices) && below (least_point u) (length vertices)) (some (joins K vertices edges u w) edges && every (all_turn_later u w) edges) h in
      let turn = and_second (ltb u (length vertices) && below (least_point u) (length vertices)) (some (joins K vertices edges u w) edges && every (all_turn_later u w) edges) h in
      record {
        in_range = (Decides-ltb u (length vertices)).0 (and_first (ltb u (length vertices)) (below (least_point u) (length vertices)) point);
        least = λ v l not_u.
            elim (or_either (nat_eq v u) (is_lt (point_order K (position u) (position v)))
            (below_of (least_point u) (length vertices) (and_second (ltb u (length vertices)) (below (least_point u) (length vertices)) point) v l)) [
              | inl e ↦ absurd (not_u ((Decides-eqb v u).0 e))
              | inr g ↦ (less_decides (point_order K (position u) (position v))).0 g
            ];
        first = record {
          neighbour = joined K vertices edges u w (and_first (some (joins K vertices edges u w) edges) (every (all_turn_later u w) edges) turn);
          first = λ x piece none not_w.
              let e = piece.0 in
              let both = every_of (all_turn_later u w) edges (and_second (some (joins K vertices edges u w) edges) (every (all_turn_later u w) edges) turn) e piece.1 in
              let out = and_first (not (nat_eq e.from u) || turns_first u w e.to) (not (nat_eq e.to u) || turns_first u w e.from) both in
              let back = and_second (not (nat_eq e.from u) || turns_first u w e.to) (not (nat_eq e.to u) || turns_first u w e.from) both in
              (clockwise_decides K (west K.ops) (way K vertices edges u w) (way K vertices edges u x)).0
              (elim piece.2 [
                | inl ends ↦ turns_later u w x (subst (λ (y : ℕ). turns_first u w y ≡ true) ends.1 (where_at K vertices edges e.from u (turns_first u w e.to) ends.0 out)) not_w
                | inr ends ↦ turns_later u w x (subst (λ (y : ℕ). turns_first u w y ≡ true) ends.0 (where_at K vertices edges e.to u (turns_first u w e.from) ends.1 back)) not_w
              ]);
        };
      }

  pub outer_is : (corners : List ℕ) (u w : ℕ) → is_walk corners ≡ true → is_least corners ≡ true → is_outside u w ≡ true
      → Contains (pieces_round corners) (u, w) → IsOuterWalk K vertices edges corners
  outer_is corners u w h k o i = record { walk = walk_is corners h; least = least_is corners k; outer = (u, w, outside_is u w o, i) }

  -- u isn't the least vertex, as vertex 0 is less, or x comes before w clockwise from the west
  abbrev is_within : ℕ → ℕ × ℕ → Bool
  is_within x p = (not (nat_eq 0 p.0) && not (is_lt (point_order K (position p.0) (position 0))))
      || (some (joins K vertices edges p.0 x) edges && (not (nat_eq x p.1) && not (clockwise K (west K.ops) (way K vertices edges p.0 p.1) (way K vertices edges p.0 x))))

  within_is : (x : ℕ) → 0 < length vertices → (u w : ℕ) → is_within x (u, w) ≡ true → ¬ IsOutside K vertices edges u w
  within_is x some_vertex u w h o =
      elim (or_either (not (nat_eq 0 u) && not (is_lt (point_order K (position u) (position 0))))
      (some (joins K vertices edges u x) edges && (not (nat_eq x w) && not (clockwise K (west K.ops) (way K vertices edges u w) (way K vertices edges u x)))) h) [
        | inl e ↦
            not_is (is_lt (point_order K (position u) (position 0))) (and_second (not (nat_eq 0 u)) (not (is_lt (point_order K (position u) (position 0)))) e)
            ((less_decides (point_order K (position u) (position 0))).1
            (o.least 0 some_vertex (λ same. not_is (nat_eq 0 u) (and_first (not (nat_eq 0 u)) (not (is_lt (point_order K (position u) (position 0)))) e) ((Decides-eqb 0 u).1 same))))
        | inr e ↦
            let rest = and_second (some (joins K vertices edges u x) edges) (not (nat_eq x w) && not (clockwise K (west K.ops) (way K vertices edges u w) (way K vertices edges u x))) e in
            not_is (clockwise K (west K.ops) (way K vertices edges u w) (way K vertices edges u x))
            (and_second (not (nat_eq x w)) (not (clockwise K (west K.ops) (way K vertices edges u w) (way K vertices edges u x))) rest)
            ((clockwise_decides K (west K.ops) (way K vertices edges u w) (way K vertices edges u x)).1
            (o.first.first x (joined K vertices edges u x (and_first (some (joins K vertices edges u x) edges) (not (nat_eq x w) && not (clockwise K (west K.ops) (way K vertices edges u w) (way K vertices edges u x))) e)) (λ none. none)
            (λ same. not_is (nat_eq x w) (and_first (not (nat_eq x w)) (not (clockwise K (west K.ops) (way K vertices edges u w) (way K vertices edges u x))) rest) ((Decides-eqb x w).1 same))))
      ]

  pub face_is : (corners : List ℕ) (x : ℕ) → 0 < length vertices → is_walk corners ≡ true → is_least corners ≡ true
      → every (is_within x) (pieces_round corners) ≡ true → IsFaceWalk K vertices edges corners
  face_is corners x some_vertex h k e = record {
    walk = walk_is corners h;
    least = least_is corners k;
    inner = λ o. within_is x some_vertex o.0 o.1 (every_of (is_within x) (pieces_round corners) e (o.0, o.1) o.3) o.2;
  }
