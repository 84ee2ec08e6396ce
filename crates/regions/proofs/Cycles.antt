-- Through each directed piece goes a walk: what comes after it leads back to it, since there are finitely many pieces.
use Prim.Native.Nat.{ℕ, zero, suc, ◌<◌, ◌+◌, ◌≤◌}
use mathlib.Core.Path.{◌≡◌, refl, sym, ap, subst, ◌∙◌}
use mathlib.Core.List.{List, [], ◌∷◌, ◌++◌}
use mathlib.Core.Logic.{◌⊎◌, inl, inr}
use Rattle.std.proofs.Common.{arith}
use Rattle.std.proofs.lemmas.List.{get_or_default}
use Rattle.std.proofs.lemmas.List.Kept.{AllPairs-cons}
use Rattle.std.specs.Prelude.{Contains, AllPairs, length}
use Rattle.algebra.specs.OrderedRing.{OrderedRing}
use Rattle.plane.specs.declared.point.Point.{Point}
use Rattle.plane.proofs.First.{same_or_not}
use Rattle.plane.proofs.Members.{in_cons, in_head, in_tail, in_nil}
use Rattle.scaled_plane.specs.declared.drawing.Edge.{Edge}
use Rattle.scaled_plane.specs.Walks.{ComesAfter, FollowOn, FollowRound, Follows as FollowsOn, IsDirectedPiece, IsWalk, pieces_on_to, pieces_round}
use Rattle.scaled_plane.proofs.After.{before_once}
use Rattle.regions.specs.Faces.{IsPlane as IsPlaneDrawing, IsOfWalk}
use Rattle.regions.proofs.Drawings.{Piece, piece}
use Rattle.regions.proofs.Walks.{Follows}
use Rattle.regions.proofs.Followers.{follower}
use Rattle.regions.proofs.Pieces.{place, ps, directed, is_plane}
use Rattle.regions.proofs.Rounds.{follows_after}

abbrev pub Pair : Type 0
Pair = ℕ × ℕ

same_pair_or_not : (p q : Pair) → (p ≡ q) ⊎ ¬ (p ≡ q)
same_pair_or_not p q = elim (same_or_not p.0 q.0) [
  | inr n ↦ inr (λ e. n (ap (λ (r : Pair). r.0) e))
  | inl a ↦ elim (same_or_not p.1 q.1) [
    | inr n ↦ inr (λ e. n (ap (λ (r : Pair). r.1) e))
    | inl b ↦ inl (λ k. (a k, b k))
  ]
]

in_or_not : (xs : List Pair) (q : Pair) → Contains xs q ⊎ ¬ Contains xs q
in_or_not [] q = inr (λ i. in_nil q i)
in_or_not (p ∷ xs) q = elim (same_pair_or_not p q) [
  | inl e ↦ inl (subst (λ (r : Pair). Contains (p ∷ xs) r) e (in_head p xs))
  | inr n ↦ elim (in_or_not xs q) [
    | inl i ↦ inl (in_tail p xs q i)
    | inr m ↦ inr (λ i. elim (in_cons p xs q i) [ inl e ↦ n e | inr j ↦ m j ])
  ]
]

-- ---- lists in which nothing stands twice

abbrev pub AreOnce : List Pair → Type 0
AreOnce [] = Unit {0}
AreOnce (p ∷ xs) = (¬ Contains xs p) × AreOnce xs

pub once_pairs : (xs : List Pair) → AreOnce xs → AllPairs (λ p q. ¬ (p ≡ q)) xs
once_pairs [] h = λ i j d l within. absurd (omega (arith, within))
once_pairs (p ∷ xs) h =
    AllPairs-cons (λ p q. ¬ (p ≡ q)) p xs (λ k d l e. h.0 (k, l, get_or_default xs k p d l ∙ sym e)) (once_pairs xs h.1)

-- a list without one of its members
without : (ys : List Pair) (x : Pair) → Contains ys x
    → (zs : List Pair) × (length ys ≡ suc (length zs)) × ((y : Pair) → Contains ys y → ¬ (y ≡ x) → Contains zs y)
without [] x i = absurd (in_nil x i)
without (y ∷ ys) x i = elim (in_cons y ys x i) [
  | inl e ↦ (ys, omega arith, λ z j n. elim (in_cons y ys z j) [ inl f ↦ absurd (n (sym f ∙ e)) | inr k ↦ k ])
  | inr j ↦
      let r : (zs : List Pair) × (length ys ≡ suc (length zs)) × ((z : Pair) → Contains ys z → ¬ (z ≡ x) → Contains zs z) = without ys x j in (
        y ∷ r.0,
        omega (arith, r.1),
        λ z k n. elim (in_cons y ys z k) [
          | inl f ↦ subst (λ (t : Pair). Contains (y ∷ r.0) t) f (in_head y r.0)
          | inr m ↦ in_tail y r.0 z (r.2 z m n)
        ],
      )
]

-- it is no longer than a list that holds all of it
fits : (xs ys : List Pair) → AreOnce xs → ((x : Pair) → Contains xs x → Contains ys x) → length xs ≤ length ys
fits [] ys h sub = omega arith
fits (x ∷ xs) ys h sub =
    let r : (zs : List Pair) × (length ys ≡ suc (length zs)) × ((z : Pair) → Contains ys z → ¬ (z ≡ x) → Contains zs z) = without ys x (sub x (in_head x xs)) in
    let rest : length xs ≤ length r.0
    = fits xs r.0 h.1 (λ z i. r.2 z (sub z (in_tail x xs z i)) (λ e. h.0 (subst (λ (t : Pair). Contains xs t) e i))) in
    omega (arith, rest, r.1)

-- ---- the directed pieces of a drawing, as a list

sides : List Edge → List Pair
sides [] = []
sides (e ∷ es) = (e.from, e.to) ∷ (e.to, e.from) ∷ sides es

in_sides : (es : List Edge) (u v : ℕ) → IsDirectedPiece es u v → Contains (sides es) (u, v)
unfolding sides
in_sides [] u v p = absurd (in_nil p.0 p.1)
in_sides (e ∷ es) u v p = elim (in_cons e es p.0 p.1) [
  | inr j ↦ in_tail (e.from, e.to) ((e.to, e.from) ∷ sides es) (u, v) (in_tail (e.to, e.from) (sides es) (u, v) (in_sides es u v (p.0, j, p.2)))
  | inl s ↦ elim (subst (λ (f : Edge). ((f.from ≡ u) × (f.to ≡ v)) ⊎ ((f.from ≡ v) × (f.to ≡ u))) (sym s) p.2) [
    | inl q ↦ subst (λ (t : Pair). Contains ((e.from, e.to) ∷ (e.to, e.from) ∷ sides es) t) (λ k. (q.0 k, q.1 k)) (in_head (e.from, e.to) ((e.to, e.from) ∷ sides es))
    | inr q ↦ in_tail (e.from, e.to) ((e.to, e.from) ∷ sides es) (u, v)
        (subst (λ (t : Pair). Contains ((e.to, e.from) ∷ sides es) t) (λ k. (q.1 k, q.0 k)) (in_head (e.to, e.from) (sides es)))
  ]
]

abbrev pub tails : List Pair → List ℕ
tails [] = []
tails (p ∷ xs) = p.0 ∷ tails xs

module _ {A : Type 0} (K : OrderedRing A) (vertices : List (Point A)) (edges : List Edge) (h : IsPlaneDrawing K vertices edges) where
  abbrev at : ℕ → Point A
  at v = place K vertices edges v

  abbrev all : List Piece
  all = ps K vertices edges

  abbrev After : Pair → Pair → Type 0
  After p q = FollowsOn K vertices edges p q

  abbrev On : Pair → List Pair → Type 0
  On p xs = FollowOn K vertices edges p xs

  -- some piece comes after each
  pub some_after : (u v : ℕ) → IsDirectedPiece edges u v → (w : ℕ) × ComesAfter K vertices edges u v w
  some_after u v p =
      let f : (e : Piece) × Follows K at all (piece u v) e = follower K at all (is_plane K vertices edges h) (piece u v) (directed edges u v p) in
      (f.0.head, follows_after K vertices edges h (piece u v) f.0 f.1)

  module _ (start : Pair) where
    -- a way from the start to p, through these others
    record Path (seen : List Pair) (p : Pair) : Type 0 where
      here : IsDirectedPiece edges p.0 p.1
      earlier : (x : Pair) → Contains seen x → IsDirectedPiece edges x.0 x.1
      once : AreOnce (p ∷ seen)
      from : (x : Pair) → Contains (p ∷ seen) x → (x ≡ start) ⊎ ((y : Pair) × Contains seen y × After y x)

    -- from p on to the start again, through no others than new ones
    record Rest (seen : List Pair) (p : Pair) : Type 0 where
      pieces : List Pair
      follow : On p (pieces ++ start ∷ [])
      new : AreOnce (p ∷ pieces)
      others : (x : Pair) → Contains (p ∷ pieces) x → ¬ Contains seen x

    directed_seen : (seen : List Pair) (p : Pair) → Path seen p → (x : Pair) → Contains (p ∷ seen) x → IsDirectedPiece edges x.0 x.1
    directed_seen seen p w x i = elim (in_cons p seen x i) [
      | inl e ↦ subst (λ (t : Pair). IsDirectedPiece edges t.0 t.1) e w.here
      | inr j ↦ w.earlier x j
    ]

    next_directed : (p : Pair) (w : ℕ) → ComesAfter K vertices edges p.0 p.1 w → IsDirectedPiece edges p.1 w
    next_directed p w c = c.next.neighbour

    onward : (seen : List Pair) (p q : Pair) → Path seen p → After p q → ¬ Contains (p ∷ seen) q → Path (p ∷ seen) q
    onward seen p q w a new = record {
      here = subst (λ (t : ℕ). IsDirectedPiece edges t q.1) a.0 (next_directed p q.1 a.1);
      earlier = directed_seen seen p w;
      once = (new, w.once);
      from = λ x i. elim (in_cons q (p ∷ seen) x i) [
        | inl e ↦ inr (p, in_head p seen, subst (λ (t : Pair). After p t) e a)
        | inr j ↦ elim (w.from x j) [ inl e ↦ inl e | inr r ↦ inr (r.0, in_tail p seen r.0 r.1, r.2) ]
      ];
    }

    closed : (seen : List Pair) (p : Pair) → Path seen p → After p start → Rest seen p
    closed seen p w a = record {
      pieces = [];
      follow = (a, tt);
      new = ((λ i. in_nil p i), tt);
      others = λ x i. elim (in_cons p [] x i) [
        | inl e ↦ subst (λ (t : Pair). ¬ Contains seen t) e w.once.0
        | inr j ↦ absurd (in_nil x j)
      ];
    }

    longer : (seen : List Pair) (p q : Pair) → Path seen p → After p q → Rest (p ∷ seen) q → Rest seen p
    longer seen p q w a r = record {
      pieces = q ∷ r.pieces;
      follow = (a, r.follow);
      new = ((λ i. r.others p i (in_head p seen)), r.new);
      others = λ x i. elim (in_cons p (q ∷ r.pieces) x i) [
        | inl e ↦ subst (λ (t : Pair). ¬ Contains seen t) e w.once.0
        | inr j ↦ λ s. r.others x j (in_tail p seen x s)
      ];
    }

    same_before : (p q x : Pair) → After p q → After x q → x ≡ p
    same_before p q x a b =
        let head : x.1 ≡ p.1 = b.0 ∙ sym a.0 in
        let tail : x.0 ≡ p.0 = before_once K vertices edges x.0 p.0 p.1 q.1 (subst (λ (v : ℕ). ComesAfter K vertices edges x.0 v q.1) head b.1) a.1 in
        λ k. (tail k, head k)

    go : (n : ℕ) (seen : List Pair) (p : Pair) → Path seen p → length (sides edges) < n + length (p ∷ seen) → Rest seen p
    go zero seen p w enough =
        let few : length (p ∷ seen) ≤ length (sides edges) = fits (p ∷ seen) (sides edges) w.once (λ x i. in_sides edges x.0 x.1 (directed_seen seen p w x i)) in
        absurd (omega (arith, few, enough))
    go (suc n) seen p w enough =
        let next : (t : ℕ) × ComesAfter K vertices edges p.0 p.1 t = some_after p.0 p.1 w.here in
        let q : Pair = (p.1, next.0) in
        let a : After p q = (refl, next.1) in
        elim (in_or_not (p ∷ seen) q) [
          | inl i ↦ elim (w.from q i) [
            | inl e ↦ closed seen p w (subst (λ (t : Pair). After p t) e a)
            | inr r ↦ absurd (w.once.0 (subst (λ (t : Pair). Contains seen t) (same_before p q r.0 a r.2) r.1))
          ]
          | inr new ↦ longer seen p q w a (go n (p ∷ seen) q (onward seen p q w a new) (omega (arith, enough)))
        ]

    round : IsDirectedPiece edges start.0 start.1 → Rest [] start
    round d = go (suc (length (sides edges))) [] start (record {
      here = d;
      earlier = λ x i. absurd (in_nil x i);
      once = ((λ i. in_nil start i), tt);
      from = λ x i. elim (in_cons start [] x i) [ inl e ↦ inl (sym e) | inr j ↦ absurd (in_nil x j) ];
    }) (omega arith)

  -- ---- the corners of a walk are where its pieces begin

  tails_on : (first : ℕ) (p : Pair) (xs : List Pair) (z : Pair) → z.0 ≡ first → On p (xs ++ z ∷ []) → pieces_on_to first (tails (p ∷ xs)) ≡ p ∷ xs
  tails_on first p [] z e f = λ k. (p.0, sym (f.0.0 ∙ e) k) ∷ []
  tails_on first p (q ∷ xs) z e f = λ k. (p.0, sym f.0.0 k) ∷ tails_on first q xs z e f.1 k

  tails_round : (p : Pair) (xs : List Pair) → FollowRound K vertices edges (p ∷ xs) → pieces_round (tails (p ∷ xs)) ≡ p ∷ xs
  tails_round p xs f = tails_on p.0 p xs p refl f

  pub walk_through : (u v : ℕ) → IsDirectedPiece edges u v → (corners : List ℕ) × IsWalk K vertices edges corners × IsOfWalk corners u v
  walk_through u v d =
      let r : Rest (u, v) [] (u, v) = round (u, v) d in
      let e : pieces_round (tails ((u, v) ∷ r.pieces)) ≡ (u, v) ∷ r.pieces = tails_round (u, v) r.pieces r.follow in (
        tails ((u, v) ∷ r.pieces),
        record {
          follow = subst (λ (xs : List Pair). FollowRound K vertices edges xs) (sym e) r.follow;
          once = once_pairs (pieces_round (tails ((u, v) ∷ r.pieces))) (subst (λ (xs : List Pair). AreOnce xs) (sym e) r.new);
        },
        subst (λ (xs : List Pair). Contains xs (u, v)) (sym e) (in_head (u, v) r.pieces),
      )
