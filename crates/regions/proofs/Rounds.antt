-- Walks as lists of corners: the directed pieces of one hold each that is linked with one of them.
use Prim.Native.Nat.{ℕ}
use mathlib.Core.Path.{◌≡◌, sym, subst, ◌∙◌}
use mathlib.Core.List.{List, [], ◌∷◌, ◌++◌}
use mathlib.Core.Logic.{inl, inr}
use Rattle.std.specs.Prelude.{Contains}
use Rattle.algebra.specs.OrderedRing.{OrderedRing}
use Rattle.plane.specs.declared.point.Point.{Point}
use Rattle.plane.proofs.Members.{in_cons, in_head, in_tail, in_nil}
use Rattle.scaled_plane.specs.declared.drawing.Edge.{Edge}
use Rattle.scaled_plane.specs.Walks.{ComesAfter, FollowOn, FollowRound, Follows as FollowsOn}
use Rattle.scaled_plane.proofs.After.{after_once, before_once}
use Rattle.regions.specs.Faces.{IsPlane as IsPlaneDrawing}
use Rattle.regions.proofs.Drawings.{Piece, piece, IsDirected}
use Rattle.regions.proofs.Walks.{Follows, OneWalk, Linked, same, onward, back}
use Rattle.regions.proofs.Followers.{throughout_walk}
use Rattle.regions.proofs.Pieces.{place, ps, directed, is_plane}
use Rattle.regions.proofs.Following.{follows_of, after_of}

pub last_first : {X : Type 0} (p : X) (xs : List X) (y : X) → Contains (xs ++ p ∷ []) y → Contains (p ∷ xs) y
last_first p [] y i = i
last_first p (q ∷ xs) y i = elim (in_cons q (xs ++ p ∷ []) y i) [
  | inl e ↦ in_tail p (q ∷ xs) y (subst (λ z. Contains (q ∷ xs) z) e (in_head q xs))
  | inr j ↦ elim (in_cons p xs y (last_first p xs y j)) [
    | inl e ↦ subst (λ z. Contains (p ∷ q ∷ xs) z) e (in_head p (q ∷ xs))
    | inr k ↦ in_tail p (q ∷ xs) y (in_tail q xs y k)
  ]
]

in_last : {X : Type 0} (p : X) (xs : List X) → Contains (xs ++ p ∷ []) p
in_last p [] = in_head p []
in_last p (q ∷ xs) = in_tail q (xs ++ p ∷ []) p (in_last p xs)

in_before : {X : Type 0} (p : X) (xs : List X) (y : X) → Contains xs y → Contains (xs ++ p ∷ []) y
in_before p [] y i = absurd (in_nil y i)
in_before p (q ∷ xs) y i = elim (in_cons q xs y i) [
  | inl e ↦ subst (λ z. Contains (q ∷ xs ++ p ∷ []) z) e (in_head q (xs ++ p ∷ []))
  | inr j ↦ in_tail q (xs ++ p ∷ []) y (in_before p xs y j)
]

pub first_last : {X : Type 0} (p : X) (xs : List X) (y : X) → Contains (p ∷ xs) y → Contains (xs ++ p ∷ []) y
first_last p xs y i = elim (in_cons p xs y i) [
  | inl e ↦ subst (λ z. Contains (xs ++ p ∷ []) z) e (in_last p xs)
  | inr j ↦ in_before p xs y j
]

pub linked_then : {D : Type 0} {R : D → D → Type 0} {d e f : D} → Linked R d e → Linked R e f → Linked R d f
linked_then same k = k
linked_then (onward h l) k = onward h (linked_then l k)
linked_then (back h l) k = back h (linked_then l k)

pub linked_back : {D : Type 0} {R : D → D → Type 0} {d e : D} → Linked R d e → Linked R e d
linked_back same = same
linked_back (onward h l) = linked_then (linked_back l) (back h same)
linked_back (back h l) = linked_then (linked_back l) (onward h same)

module _ {A : Type 0} (K : OrderedRing A) (vertices : List (Point A)) (edges : List Edge) (h : IsPlaneDrawing K vertices edges) where
  abbrev at : ℕ → Point A
  at v = place K vertices edges v

  abbrev all : List Piece
  all = ps K vertices edges

  abbrev Pair : Type 0
  Pair = ℕ × ℕ

  abbrev After : Pair → Pair → Type 0
  After p q = FollowsOn K vertices edges p q

  abbrev On : Pair → List Pair → Type 0
  On p xs = FollowOn K vertices edges p xs

  abbrev as_piece : Pair → Piece
  as_piece p = piece p.0 p.1

  abbrev One : Pair → Pair → Type 0
  One p q = OneWalk K at all (as_piece p) (as_piece q)

  -- ---- each has one after it and one before it

  on_next : (p : Pair) (xs : List Pair) (z : Pair) → On p (xs ++ z ∷ []) → (x : Pair) → Contains (p ∷ xs) x
      → (y : Pair) × Contains (xs ++ z ∷ []) y × After x y
  on_next p [] z f x i = elim (in_cons p [] x i) [
    | inl e ↦ (z, in_head z [], subst (λ (t : Pair). After t z) e f.0)
    | inr j ↦ absurd (in_nil x j)
  ]
  on_next p (q ∷ xs) z f x i = elim (in_cons p (q ∷ xs) x i) [
    | inl e ↦ (q, in_head q (xs ++ z ∷ []), subst (λ (t : Pair). After t q) e f.0)
    | inr j ↦
        let r : (y : Pair) × Contains (xs ++ z ∷ []) y × After x y = on_next q xs z f.1 x j in
        (r.0, in_tail q (xs ++ z ∷ []) r.0 r.1, r.2)
  ]

  on_previous : (p : Pair) (xs : List Pair) (z : Pair) → On p (xs ++ z ∷ []) → (y : Pair) → Contains (xs ++ z ∷ []) y
      → (x : Pair) × Contains (p ∷ xs) x × After x y
  on_previous p [] z f y i = elim (in_cons z [] y i) [
    | inl e ↦ (p, in_head p [], subst (λ (t : Pair). After p t) e f.0)
    | inr j ↦ absurd (in_nil y j)
  ]
  on_previous p (q ∷ xs) z f y i = elim (in_cons q (xs ++ z ∷ []) y i) [
    | inl e ↦ (p, in_head p (q ∷ xs), subst (λ (t : Pair). After p t) e f.0)
    | inr j ↦
        let r : (x : Pair) × Contains (q ∷ xs) x × After x y = on_previous q xs z f.1 y j in
        (r.0, in_tail p (q ∷ xs) r.0 r.1, r.2)
  ]

  -- ---- they are linked

  after_follows : (p q : Pair) → After p q → Follows K at all (as_piece p) (as_piece q)
  after_follows p q f =
      subst (λ (t : ℕ). Follows K at all (as_piece p) (piece t q.1)) f.0 (follows_of K vertices edges h p.0 p.1 q.1 f.1)

  pub follows_after : (d e : Piece) → Follows K at all d e → ComesAfter K vertices edges d.tail d.head e.head
  follows_after d e f =
      after_of K vertices edges h d.tail d.head e.head
      (subst (λ (t : ℕ). Follows K at all d (piece t e.head)) f.turns_at f)

  linked_on : (p : Pair) (xs : List Pair) → On p xs → (y : Pair) → Contains xs y → One p y
  linked_on p [] f y i = absurd (in_nil y i)
  linked_on p (q ∷ xs) f y i = elim (in_cons q xs y i) [
    | inl e ↦ subst (λ (t : Pair). One p t) e (onward (after_follows p q f.0) same)
    | inr j ↦ onward (after_follows p q f.0) (linked_on q xs f.1 y j)
  ]

  pub all_linked : (xs : List Pair) → FollowRound K vertices edges xs → (x y : Pair) → Contains xs x → Contains xs y → One x y
  all_linked [] f x y i j = absurd f
  all_linked (p ∷ rest) f x y i j =
      linked_then (linked_back (linked_on p (rest ++ p ∷ []) f x (first_last p rest x i))) (linked_on p (rest ++ p ∷ []) f y (first_last p rest y j))

  pub some_piece : (xs : List Pair) → FollowRound K vertices edges xs → (x : Pair) × Contains xs x
  some_piece [] f = absurd f
  some_piece (p ∷ rest) f = (p, in_head p rest)

  pub one_before_it : (xs : List Pair) → FollowRound K vertices edges xs → (y : Pair) → Contains xs y → (x : Pair) × After x y
  one_before_it [] f y i = absurd f
  one_before_it (p ∷ rest) f y i =
      let r : (x : Pair) × Contains (p ∷ rest) x × After x y = on_previous p rest p f y (first_last p rest y i) in
      (r.0, r.2)

  pub all_directed : (xs : List Pair) → FollowRound K vertices edges xs → (x : Pair) → Contains xs x → IsDirected all (as_piece x)
  all_directed [] f x i = absurd f
  all_directed (p ∷ rest) f x i =
      let r : (y : Pair) × Contains (rest ++ p ∷ []) y × After x y = on_next p rest p f x i in
      directed edges x.0 x.1 r.2.1.piece

  -- ---- they hold all of the walk

  step_on : (xs : List Pair) → FollowRound K vertices edges xs → (d e : Piece) → Follows K at all d e
      → Contains xs (d.tail, d.head) → Contains xs (e.tail, e.head)
  step_on [] f d e g i = absurd f
  step_on (p ∷ rest) f d e g i =
      let r : (y : Pair) × Contains (rest ++ p ∷ []) y × After (d.tail, d.head) y = on_next p rest p f (d.tail, d.head) i in
      let head : r.0.1 ≡ e.head = after_once K vertices edges d.tail d.head r.0.1 e.head r.2.1 (follows_after d e g) in
      let tail : r.0.0 ≡ e.tail = sym r.2.0 ∙ sym g.turns_at in
      subst (λ (t : Pair). Contains (p ∷ rest) t) (λ k. (tail k, head k)) (last_first p rest r.0 r.1)

  step_back : (xs : List Pair) → FollowRound K vertices edges xs → (d e : Piece) → Follows K at all d e
      → Contains xs (e.tail, e.head) → Contains xs (d.tail, d.head)
  step_back [] f d e g i = absurd f
  step_back (p ∷ rest) f d e g i =
      let r : (x : Pair) × Contains (p ∷ rest) x × After x (e.tail, e.head) = on_previous p rest p f (e.tail, e.head) (first_last p rest (e.tail, e.head) i) in
      let head : r.0.1 ≡ d.head = r.2.0 ∙ g.turns_at in
      let after : ComesAfter K vertices edges r.0.0 d.head e.head = subst (λ (v : ℕ). ComesAfter K vertices edges r.0.0 v e.head) head r.2.1 in
      let tail : r.0.0 ≡ d.tail = before_once K vertices edges r.0.0 d.tail d.head e.head after (follows_after d e g) in
      subst (λ (t : Pair). Contains (p ∷ rest) t) (λ k. (tail k, head k)) r.1

  pub walk_holds : (xs : List Pair) → FollowRound K vertices edges xs → {d e : Piece} → OneWalk K at all d e
      → Contains xs (d.tail, d.head) → Contains xs (e.tail, e.head)
  walk_holds xs f w i =
      throughout_walk K at all (is_plane K vertices edges h) (λ d. Contains xs (d.tail, d.head))
      (λ d e g. (step_on xs f d e g, step_back xs f d e g)) w i
