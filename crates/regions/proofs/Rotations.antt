-- Lists turned round as a ring: the least of them, and walks that begin at another corner.
use Prim.Native.Nat.{ℕ, zero, suc, ◌<◌, ◌+◌}
use mathlib.Core.Path.{◌≡◌, refl, sym, ap, subst, subst₂, ◌∙◌}
use mathlib.Core.List.{List, [], ◌∷◌, ◌++◌}
use mathlib.Core.Logic.{◌⊎◌, inl, inr}
use Rattle.std.proofs.Common.{arith}
use Rattle.std.proofs.lemmas.Cmp.{nat_list_cmp_total, ranked, tied_itself, upto}
use Rattle.std.proofs.lemmas.List.{append_assoc, append-nil, length-append}
use Rattle.std.proofs.lemmas.List.Quantifiers.{all_pairs_push}
use Rattle.std.specs.Prelude.{Contains, AllPairs, length, IsTrue, false}
use Rattle.std.specs.Cmp.Lexicographic.{slice_cmp}
use Rattle.std.specs.Ordering.{nat_cmp, is_le, is_gt, ordering_reverse}
use Rattle.std.specs.declared.cmp.Ordering.{Ordering}
use Rattle.std.specs.declared.cmp.Ordering.TheVariants.{Less, Equal, Greater}
use Rattle.algebra.specs.OrderedRing.{OrderedRing}
use Rattle.plane.specs.declared.point.Point.{Point}
use Rattle.plane.proofs.First.{same_or_not}
use Rattle.plane.proofs.Members.{in_cons, in_head, in_tail, in_nil}
use Rattle.plane.proofs.Order.{both_equal}
use Rattle.scaled_plane.specs.declared.drawing.Edge.{Edge}
use Rattle.scaled_plane.specs.Lists.{IsRotation}
use Rattle.scaled_plane.specs.Walks.{FollowOn, FollowRound, Follows as FollowsOn, IsLeastRotation, IsWalk, pieces_on_to, pieces_round}
use Rattle.scaled_plane.proofs.After.{after_once}
use Rattle.regions.specs.Faces.{IsOfWalk}
use Rattle.regions.proofs.Cycles.{Pair, tails}
use Rattle.regions.proofs.Rounds.{first_last}

-- ---- lists turned round

abbrev turned : {X : Type 0} → List X → List X
turned [] = []
turned (x ∷ xs) = xs ++ x ∷ []

abbrev turned_by : {X : Type 0} → ℕ → List X → List X
turned_by zero xs = xs
turned_by (suc n) xs = turned_by n (turned xs)

past_front : {X : Type 0} (front back : List X) → turned_by (length front) (front ++ back) ≡ back ++ front
past_front [] back = sym (append-nil back)
past_front (x ∷ front) back =
    ap (λ xs. turned_by (length front) xs) (append_assoc front back (x ∷ [])) ∙ past_front front (back ++ x ∷ []) ∙ append_assoc back (x ∷ []) front

turns_of : {X : Type 0} (xs ys : List X) → IsRotation xs ys → (n : ℕ) × (n < suc (length xs)) × (ys ≡ turned_by n xs)
turns_of xs ys r =
    let long : length xs ≡ length r.0 + length r.1 = ap (λ zs. length zs) r.2 ∙ length-append r.0 r.1 in
    (length r.0, omega (arith, long), r.3 ∙ sym (past_front r.0 r.1) ∙ ap (λ zs. turned_by (length r.0) zs) (sym r.2))

itself : {X : Type 0} (xs : List X) → IsRotation xs xs
itself xs = ([], xs, refl, sym (append-nil xs))

pub rotated_back : {X : Type 0} (xs ys : List X) → IsRotation xs ys → IsRotation ys xs
rotated_back xs ys r = (r.1, r.0, r.3, r.2)

one_turn : {X : Type 0} (front back : List X) → IsRotation (front ++ back) (turned (back ++ front))
one_turn [] [] = ([], [], refl, refl)
one_turn (x ∷ front) [] = (x ∷ [], front, append-nil (x ∷ front), refl)
one_turn front (x ∷ back) = (front ++ x ∷ [], back, sym (append_assoc front (x ∷ []) back), append_assoc back front (x ∷ []))

rotation_turned : {X : Type 0} (xs ys : List X) → IsRotation xs ys → IsRotation xs (turned ys)
rotation_turned xs ys r = subst₂ (λ cs ds. IsRotation cs (turned ds)) (sym r.2) (sym r.3) (one_turn r.0 r.1)

rotation_by : {X : Type 0} (n : ℕ) (xs ys : List X) → IsRotation xs ys → IsRotation xs (turned_by n ys)
rotation_by zero xs ys r = r
rotation_by (suc n) xs ys r = rotation_by n xs (turned ys) (rotation_turned xs ys r)

pub rotated_then : {X : Type 0} (xs ys zs : List X) → IsRotation xs ys → IsRotation ys zs → IsRotation xs zs
rotated_then xs ys zs r s =
    let t : (n : ℕ) × (n < suc (length ys)) × (zs ≡ turned_by n ys) = turns_of ys zs s in
    subst (λ cs. IsRotation xs cs) (sym t.2) (rotation_by t.0 xs ys r)

-- ---- the least one

abbrev order : List ℕ → List ℕ → Ordering
order xs ys = slice_cmp nat_cmp xs ys

turned_order : (xs ys : List ℕ) → order ys xs ≡ ordering_reverse (order xs ys)
turned_order xs ys = nat_list_cmp_total.antisymm ys xs

equal_lists : (xs ys : List ℕ) → order xs ys ≡ Equal → xs ≡ ys
equal_lists [] [] e = refl
equal_lists [] (y ∷ ys) e = absurd (cc)
equal_lists (x ∷ xs) [] e = absurd (cc)
equal_lists (x ∷ xs) (y ∷ ys) e =
    let both : (nat_cmp x y ≡ Equal) × (order xs ys ≡ Equal) = both_equal (nat_cmp x y) (order xs ys) e in
    let first : x ≡ y = ranked x y Equal (sym both.0) in
    let rest : xs ≡ ys = equal_lists xs ys both.1 in
    λ k. first k ∷ rest k

both_ways : (o : Ordering) → IsTrue (is_le o) → IsTrue (is_le (ordering_reverse o)) → o ≡ Equal
both_ways Less h k = absurd (cc)
both_ways Equal h k = refl
both_ways Greater h k = absurd (cc)

-- of rotations of each other that are least, there is one
pub one_least : (xs ys : List ℕ) → IsLeastRotation xs → IsLeastRotation ys → IsRotation xs ys → xs ≡ ys
one_least xs ys h k r =
    equal_lists xs ys (both_ways (order xs ys) (h ys r) (subst (λ o. IsTrue (is_le o)) (turned_order xs ys) (k xs (rotated_back xs ys r))))

not_above : (o : Ordering) → IsTrue (is_le o) → is_gt o ≡ false
not_above Less h = refl
not_above Equal h = refl
not_above Greater h = absurd (cc)

at_most : (o : Ordering) → is_gt o ≡ false → IsTrue (is_le o)
at_most Less h = refl
at_most Equal h = refl
at_most Greater h = absurd (cc)

abbrev Below : List ℕ → List ℕ → Type 0
Below xs ys = IsTrue (is_le (order xs ys))

below_then : (xs ys zs : List ℕ) → Below xs ys → Below ys zs → Below xs zs
below_then xs ys zs h k =
    at_most (order xs zs) (upto nat_list_cmp_total xs ys zs (not_above (order xs ys) h) (not_above (order ys zs) k))

below_itself : (xs : List ℕ) → Below xs xs
below_itself xs = subst (λ o. IsTrue (is_le o)) (sym (tied_itself nat_list_cmp_total xs)) refl

below_or_above : (xs ys : List ℕ) → Below xs ys ⊎ Below ys xs
below_or_above xs ys = by (order xs ys) (turned_order xs ys)
  where
    by : (o : Ordering) → order ys xs ≡ ordering_reverse o → IsTrue (is_le o) ⊎ Below ys xs
    by Less e = inl refl
    by Equal e = inl refl
    by Greater e = inr (subst (λ o. IsTrue (is_le o)) (sym e) refl)

module _ (xs : List ℕ) where
  abbrev LeastTurn : ℕ → Type 0
  LeastTurn n = (k : ℕ) × ((m : ℕ) → m < n → Below (turned_by k xs) (turned_by m xs))

  least_turn : (n : ℕ) → LeastTurn n
  least_turn zero = (0, λ m l. absurd (omega (arith, l)))
  least_turn (suc n) =
      let r : LeastTurn n = least_turn n in
      elim (below_or_above (turned_by r.0 xs) (turned_by n xs)) [
        | inl h ↦ (
          r.0,
          λ m l. elim (same_or_not m n) [
            | inl e ↦ subst (λ (t : ℕ). Below (turned_by r.0 xs) (turned_by t xs)) (sym e) h
            | inr other ↦ r.1 m (omega (arith, l, other))
          ],
        )
        | inr h ↦ (
          n,
          λ m l. elim (same_or_not m n) [
            | inl e ↦ subst (λ (t : ℕ). Below (turned_by n xs) (turned_by t xs)) (sym e) (below_itself (turned_by n xs))
            | inr other ↦ below_then (turned_by n xs) (turned_by r.0 xs) (turned_by m xs) h (r.1 m (omega (arith, l, other)))
          ],
        )
      ]

  pub least_rotation : (ys : List ℕ) × IsRotation xs ys × IsLeastRotation ys
  least_rotation =
      let r : LeastTurn (suc (length xs)) = least_turn (suc (length xs)) in
      let on : IsRotation xs (turned_by r.0 xs) = rotation_by r.0 xs xs (itself xs) in (
        turned_by r.0 xs,
        on,
        λ other s.
            let t : (n : ℕ) × (n < suc (length xs)) × (other ≡ turned_by n xs) = turns_of xs other (rotated_then xs (turned_by r.0 xs) other on s) in
            subst (λ zs. Below (turned_by r.0 xs) zs) (sym t.2) (r.1 t.0 t.1),
      )

-- ---- the pieces of a walk that begins at another corner

on_to_more : (first last x : ℕ) (xs : List ℕ) → pieces_on_to first (x ∷ (xs ++ last ∷ [])) ≡ pieces_on_to last (x ∷ xs) ++ (last, first) ∷ []
on_to_more first last x [] = refl
on_to_more first last x (y ∷ ys) = ap (λ (zs : List Pair). (x, y) ∷ zs) (on_to_more first last y ys)

pieces_turned : (c : List ℕ) → pieces_round (turned c) ≡ turned (pieces_round c)
pieces_turned [] = refl
pieces_turned (u ∷ []) = refl
pieces_turned (u ∷ v ∷ rest) = on_to_more v u v rest

pieces_turned_by : (n : ℕ) (c : List ℕ) → pieces_round (turned_by n c) ≡ turned_by n (pieces_round c)
pieces_turned_by zero c = refl
pieces_turned_by (suc n) c = pieces_turned_by n (turned c) ∙ ap (λ (xs : List Pair). turned_by n xs) (pieces_turned c)

in_turned : (xs : List Pair) (p : Pair) → Contains xs p → Contains (turned xs) p
in_turned [] p i = absurd (in_nil p i)
in_turned (q ∷ xs) p i = first_last q xs p i

abbrev IsOnce : List Pair → Type 0
IsOnce xs = AllPairs (λ p q. ¬ (p ≡ q)) xs

once_turned : (xs : List Pair) → IsOnce xs → IsOnce (turned xs)
once_turned [] h = h
once_turned (p ∷ xs) h =
    all_pairs_push (λ p q. ¬ (p ≡ q)) xs p (λ i j d l within. h (suc i) (suc j) d (omega (arith, l)) (omega (arith, within)))
    (λ k d l e. h 0 (suc k) d (omega arith) (omega (arith, l)) (sym e))

tails_on_to : (first : ℕ) (c : List ℕ) → tails (pieces_on_to first c) ≡ c
tails_on_to first [] = refl
tails_on_to first (u ∷ []) = refl
tails_on_to first (u ∷ v ∷ rest) = ap (λ (xs : List ℕ). u ∷ xs) (tails_on_to first (v ∷ rest))

tails_of : (c : List ℕ) → tails (pieces_round c) ≡ c
tails_of [] = refl
tails_of (u ∷ rest) = tails_on_to u (u ∷ rest)

parted_at : (xs : List Pair) (p : Pair) → Contains xs p → (front back : List Pair) × (xs ≡ front ++ p ∷ back)
parted_at [] p i = absurd (in_nil p i)
parted_at (q ∷ xs) p i = elim (in_cons q xs p i) [
  | inl e ↦ ([], xs, λ k. e k ∷ xs)
  | inr j ↦
      let r : (front back : List Pair) × (xs ≡ front ++ p ∷ back) = parted_at xs p j in
      (q ∷ r.0, r.1, λ k. q ∷ r.2 k)
]

-- a walk can be begun at each of its pieces
begun_at : (c : List ℕ) (u v : ℕ) → IsOfWalk c u v → (d : List ℕ) × IsRotation c d × ((xs : List Pair) × (pieces_round d ≡ (u, v) ∷ xs))
begun_at c u v i =
    let r : (front back : List Pair) × (pieces_round c ≡ front ++ (u, v) ∷ back) = parted_at (pieces_round c) (u, v) i in (
      turned_by (length r.0) c,
      rotation_by (length r.0) c c (itself c),
      (r.1 ++ r.0, pieces_turned_by (length r.0) c ∙ ap (λ (xs : List Pair). turned_by (length r.0) xs) r.2 ∙ past_front r.0 ((u, v) ∷ r.1)),
    )

module _ {A : Type 0} (K : OrderedRing A) (vertices : List (Point A)) (edges : List Edge) where
  abbrev After : Pair → Pair → Type 0
  After p q = FollowsOn K vertices edges p q

  abbrev On : Pair → List Pair → Type 0
  On p xs = FollowOn K vertices edges p xs

  on_more : (q : Pair) (ys : List Pair) (p z : Pair) → On q (ys ++ p ∷ []) → After p z → On q ((ys ++ p ∷ []) ++ z ∷ [])
  on_more q [] p z f a = (f.0, (a, tt))
  on_more q (y ∷ ys) p z f a = (f.0, on_more y ys p z f.1 a)

  follow_turned : (xs : List Pair) → FollowRound K vertices edges xs → FollowRound K vertices edges (turned xs)
  follow_turned [] f = absurd f
  follow_turned (p ∷ []) f = f
  follow_turned (p ∷ q ∷ xs) f = on_more q xs p q f.1 f.0

  walk_turned : (c : List ℕ) → IsWalk K vertices edges c → IsWalk K vertices edges (turned c)
  walk_turned c w = record {
    follow = subst (λ (xs : List Pair). FollowRound K vertices edges xs) (sym (pieces_turned c)) (follow_turned (pieces_round c) w.follow);
    once = subst (λ (xs : List Pair). IsOnce xs) (sym (pieces_turned c)) (once_turned (pieces_round c) w.once);
  }

  walk_by : (n : ℕ) (c : List ℕ) → IsWalk K vertices edges c → IsWalk K vertices edges (turned_by n c)
  walk_by zero c w = w
  walk_by (suc n) c w = walk_by n (turned c) (walk_turned c w)

  of_by : (n : ℕ) (c : List ℕ) (u v : ℕ) → IsOfWalk c u v → IsOfWalk (turned_by n c) u v
  of_by zero c u v i = i
  of_by (suc n) c u v i = of_by n (turned c) u v (subst (λ (xs : List Pair). Contains xs (u, v)) (sym (pieces_turned c)) (in_turned (pieces_round c) (u, v) i))

  pub rotated_walk : (c d : List ℕ) → IsRotation c d → IsWalk K vertices edges c → IsWalk K vertices edges d
  rotated_walk c d r w =
      let t : (n : ℕ) × (n < suc (length c)) × (d ≡ turned_by n c) = turns_of c d r in
      subst (λ (xs : List ℕ). IsWalk K vertices edges xs) (sym t.2) (walk_by t.0 c w)

  pub of_rotated : (c d : List ℕ) → IsRotation c d → (u v : ℕ) → IsOfWalk c u v → IsOfWalk d u v
  of_rotated c d r u v i =
      let t : (n : ℕ) × (n < suc (length c)) × (d ≡ turned_by n c) = turns_of c d r in
      subst (λ (xs : List ℕ). IsOfWalk xs u v) (sym t.2) (of_by t.0 c u v i)

  -- ---- two walks with one piece

  one_after : (p q r : Pair) → After p q → After p r → q ≡ r
  one_after p q r a b =
      let tail : q.0 ≡ r.0 = sym a.0 ∙ b.0 in
      let head : q.1 ≡ r.1 = after_once K vertices edges p.0 p.1 q.1 r.1 a.1 b.1 in
      λ k. (tail k, head k)

  same_on : (p : Pair) (xs ys : List Pair) (z : Pair) → On p (xs ++ z ∷ []) → On p (ys ++ z ∷ []) → ¬ Contains xs z → ¬ Contains ys z → xs ≡ ys
  same_on p [] [] z f g n m = refl
  same_on p [] (y ∷ ys) z f g n m = absurd (m (subst (λ (t : Pair). Contains (y ∷ ys) t) (one_after p y z g.0 f.0) (in_head y ys)))
  same_on p (x ∷ xs) [] z f g n m = absurd (n (subst (λ (t : Pair). Contains (x ∷ xs) t) (one_after p x z f.0 g.0) (in_head x xs)))
  same_on p (x ∷ xs) (y ∷ ys) z f g n m =
      let first : x ≡ y = one_after p x y f.0 g.0 in
      let rest : xs ≡ ys = same_on x xs ys z f.1 (subst (λ (t : Pair). On t (ys ++ z ∷ [])) (sym first) g.1) (λ i. n (in_tail x xs z i)) (λ i. m (in_tail y ys z i)) in
      λ k. first k ∷ rest k

  not_again : (p : Pair) (xs : List Pair) → IsOnce (p ∷ xs) → ¬ Contains xs p
  not_again p xs h i = h 0 (suc i.0) p (omega arith) (omega (arith, i.1)) (sym i.2)

  pub same_from : (c d : List ℕ) (p : Pair) (xs ys : List Pair) → IsWalk K vertices edges c → IsWalk K vertices edges d
      → pieces_round c ≡ p ∷ xs → pieces_round d ≡ p ∷ ys → c ≡ d
  same_from c d p xs ys w z e f =
      let rest : xs ≡ ys
      = same_on p xs ys p (subst (λ (l : List Pair). FollowRound K vertices edges l) e w.follow) (subst (λ (l : List Pair). FollowRound K vertices edges l) f z.follow)
      (not_again p xs (subst (λ (l : List Pair). IsOnce l) e w.once)) (not_again p ys (subst (λ (l : List Pair). IsOnce l) f z.once)) in
      let pieces : pieces_round c ≡ pieces_round d = e ∙ ap (λ (l : List Pair). p ∷ l) rest ∙ sym f in
      sym (tails_of c) ∙ ap (λ (l : List Pair). tails l) pieces ∙ tails_of d

  pub one_walk_round : (c d : List ℕ) → IsWalk K vertices edges c → IsWalk K vertices edges d → (u v : ℕ) → IsOfWalk c u v → IsOfWalk d u v → IsRotation c d
  one_walk_round c d w z u v i j =
      let a : (e : List ℕ) × IsRotation c e × ((xs : List Pair) × (pieces_round e ≡ (u, v) ∷ xs)) = begun_at c u v i in
      let b : (e : List ℕ) × IsRotation d e × ((xs : List Pair) × (pieces_round e ≡ (u, v) ∷ xs)) = begun_at d u v j in
      let one : a.0 ≡ b.0 = same_from a.0 b.0 (u, v) a.2.0 b.2.0 (rotated_walk c a.0 a.1 w) (rotated_walk d b.0 b.1 z) a.2.1 b.2.1 in
      rotated_then c b.0 d (subst (λ (e : List ℕ). IsRotation c e) one a.1) (rotated_back d b.0 b.1)
