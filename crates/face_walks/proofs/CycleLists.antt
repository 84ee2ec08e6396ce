-- Half-edges in order, and marks.
use Rattle.std.proofs.Common.{◌≡◌, ◌⊎◌, inl, inr, ℕ, ◌<◌, ◌≤◌, List, [], ◌∷◌, ◌++◌, Bool, true, false, length, get_or, refl, sym, ap, subst, ◌∙◌, arith}
use Rattle.std.specs.Prelude.{Contains, Err, IsTrue, MatchBool, Ok, OnOk, Result, slice_set}
use Rattle.std.specs.Cmp.{IsTotalOrder}
use Rattle.std.specs.List.Sorted.{IsPermutation, IsSortedBy}
use Rattle.std.specs.Ordering.{is_lt, nat_cmp, ordering_reverse, ordering_then}
use Rattle.std.specs.declared.cmp.Ordering.{Ordering}
use Rattle.std.specs.declared.cmp.Ordering.TheVariants.{Less, Equal, Greater}
use Rattle.std.proofs.lemmas.Cmp.{nat_cmp_total, on_total, then_total}
use Rattle.std.proofs.lemmas.List.{get_or-map, get_or-set_same, get_or-set_other, get_or_default, get_or_past, length-map, length-set}
use Rattle.std.proofs.lemmas.List.Elements.{Contains-append_left, Contains-get_or, Contains-push, Contains-push_cases}
use Rattle.std.proofs.lemmas.List.Sorted.{Contains-permutation, IsPermutation-sym, ranks_by, sorted_far}
use Rattle.half_edges.specs.declared.arena.HalfId.{HalfId}
use Rattle.scaled_plane.specs.declared.drawing.Face.{Face}
use Rattle.half_edges.specs.Cycles.{IsCycle, ids}
use Rattle.half_edges.specs.Halves.{Halves, count}
use Rattle.face_walks.specs.Linked.{piece_at}
use Rattle.face_walks.specs.Orders.{AreInOrder, AreMarked, IsWalkFound, corners_of, half_in, piece_order}
use Rattle.face_walks.specs.Searches.{is_seen}
use Rattle.face_walks.proofs.RingLists.{same_or_not}

abbrev Entry : Type 0
Entry = (ℕ × ℕ) × ℕ

abbrev entry_order : Entry → Entry → Ordering
entry_order x y = ordering_then (piece_order x.0 y.0) (nat_cmp x.1 y.1)

pub piece_total : IsTotalOrder piece_order
piece_total = then_total (on_total (λ (p : ℕ × ℕ). p.0) nat_cmp_total) (on_total (λ (p : ℕ × ℕ). p.1) nat_cmp_total)

entry_total : IsTotalOrder entry_order
entry_total = then_total (on_total (λ (x : Entry). x.0) piece_total) (on_total (λ (x : Entry). x.1) nat_cmp_total)

not_lt : (o : Ordering) (p : Ordering) → is_lt (ordering_then (ordering_reverse o) p) ≡ false → ¬ (o ≡ Greater)
not_lt Less p h e = absurd (cc)
not_lt Equal p h e = absurd (cc)
not_lt Greater p h e = absurd (cc)

module _ (arena : Halves (ℕ × ℕ)) (old new : List Entry) (as_many : length old ≡ count arena)
    (entries : (i : ℕ) → i < count arena → get_or old i ((0, 0), 0) ≡ (piece_at arena i, i)) (moved : IsPermutation old new)
    (sorted : IsSortedBy (λ x y. is_lt (entry_order x y)) new) where
  -- an entry is a half-edge beside its directed piece
  entry : (x : Entry) → Contains new x → (x.1 < count arena) × (x.0 ≡ piece_at arena x.1)
  entry x i =
      let j : Contains old x = Contains-permutation new old x (IsPermutation-sym old new moved) i in
      let below : j.0 < count arena = subst (λ (n : ℕ). j.0 < n) as_many j.1 in
      let e : x ≡ (piece_at arena j.0, j.0) = sym j.2 ∙ get_or_default old j.0 x ((0, 0), 0) j.1 ∙ entries j.0 below in
      let half : x.1 ≡ j.0 = ap (λ (y : Entry). y.1) e in
      (subst (λ (n : ℕ). n < count arena) (sym half) below, ap (λ (y : Entry). y.0) e ∙ ap (λ (h : ℕ). piece_at arena h) (sym half))

  at : (i : ℕ) → i < length new → (half_in new i < count arena) × ((get_or new i ((0, 0), 0)).0 ≡ piece_at arena (half_in new i))
  at i l = entry (get_or new i ((0, 0), 0)) (Contains-get_or new i ((0, 0), 0) l)

  pub are_in_order : AreInOrder arena new
  are_in_order = record {
    in_range = λ i l. (at i l).0;
    every = λ h l.
        let i : Contains old (piece_at arena h, h) = (
          h,
          subst (λ (n : ℕ). h < n) (sym as_many) l,
          get_or_default old h (piece_at arena h, h) ((0, 0), 0) (subst (λ (n : ℕ). h < n) (sym as_many) l) ∙ entries h l,
        ) in
        let j : Contains new (piece_at arena h, h) = Contains-permutation old new (piece_at arena h, h) moved i in
        (j.0, j.1, ap (λ (y : Entry). y.1) (get_or_default new j.0 ((0, 0), 0) (piece_at arena h, h) j.1 ∙ j.2));
    sorted = λ i j l m.
        let far : is_lt (entry_order (get_or new j ((0, 0), 0)) (get_or new i ((0, 0), 0))) ≡ false
        = sorted_far (λ x y. is_lt (entry_order x y)) (ranks_by entry_total (λ (x : Entry). x)) new sorted i j ((0, 0), 0) l m in
        let x = get_or new i ((0, 0), 0) in
        let y = get_or new j ((0, 0), 0) in
        let li : i < length new = omega arith in
        let turned : piece_order y.0 x.0 ≡ ordering_reverse (piece_order x.0 y.0) = piece_total.antisymm y.0 x.0 in
        let not : ¬ (piece_order x.0 y.0 ≡ Greater)
        = not_lt (piece_order x.0 y.0) (nat_cmp y.1 x.1) (subst (λ (o : Ordering). is_lt (ordering_then o (nat_cmp y.1 x.1)) ≡ false) turned far) in
        subst (λ (p : ℕ × ℕ). ¬ (piece_order p (piece_at arena (half_in new j)) ≡ Greater)) (at i li).1
        (subst (λ (p : ℕ × ℕ). ¬ (piece_order x.0 p ≡ Greater)) (at j m).1 not);
  }

-- ---- marks

pub id_in : (cycle : List HalfId) (i : ℕ) (d : HalfId) → i < length cycle → Contains (ids cycle) (get_or cycle i d).0
id_in cycle i d l = (
  i,
  subst (λ (n : ℕ). i < n) (sym (length-map cycle (λ (h : HalfId). h.0))) l,
  get_or-map (λ (h : HalfId). h.0) cycle i d (get_or cycle i d).0 l,
)

pub marked_none : (seen : List Bool) → AreMarked seen [] seen
marked_none seen = record {
  as_many = refl;
  kept = λ h s. s;
  marked = λ h i. absurd (omega (arith, i.1));
  only = λ h s. inl s;
}

module _ (seen : List Bool) (cycle : List ℕ) (seen' : List Bool) (h : ℕ) (m : AreMarked seen cycle seen') (l : h < length seen) where
  here : is_seen (slice_set seen' h true) h ≡ true
  here = get_or-set_same seen' h true false (subst (λ (n : ℕ). h < n) (sym m.as_many) l)

  set_kept : (g : ℕ) → is_seen seen' g ≡ true → is_seen (slice_set seen' h true) g ≡ true
  set_kept g s = elim (same_or_not g h) [
    | inl e ↦ ap (λ (x : ℕ). is_seen (slice_set seen' h true) x) e ∙ here
    | inr n ↦ get_or-set_other seen' h g true false n ∙ s
  ]

  set_only : (g : ℕ) → (g ≡ h) ⊎ ¬ (g ≡ h) → is_seen (slice_set seen' h true) g ≡ true → (is_seen seen g ≡ true) ⊎ Contains (cycle ++ h ∷ []) g
  set_only g (inl e) s = inr (subst (λ (x : ℕ). Contains (cycle ++ h ∷ []) x) (sym e) (Contains-push cycle h))
  set_only g (inr n) s = elim (m.only g (sym (get_or-set_other seen' h g true false n) ∙ s)) [
    | inl o ↦ inl o
    | inr i ↦ inr (Contains-append_left cycle (h ∷ []) g i)
  ]

  pub marked_more : AreMarked seen (cycle ++ h ∷ []) (slice_set seen' h true)
  marked_more = record {
    as_many = length-set seen' h true ∙ m.as_many;
    kept = λ g s. set_kept g (m.kept g s);
    marked = λ g i. elim (Contains-push_cases cycle h g i) [
      | inl j ↦ set_kept g (m.marked g j)
      | inr e ↦ ap (λ (x : ℕ). is_seen (slice_set seen' h true) x) (sym e) ∙ here
    ];
    only = λ g s. set_only g (same_or_not g h) s;
  }

pub in_seen : (seen : List Bool) (h : ℕ) → is_seen seen h ≡ true → h < length seen
in_seen seen h s = elim (lt_or h (length seen)) [ inl l ↦ l | inr m ↦ absurd (let no : true ≡ false = sym s ∙ get_or_past seen h false m in cc) ]
  where
    lt_or : (a b : ℕ) → (a < b) ⊎ (b ≤ a)
    lt_or a b = grind arith

-- ---- a walk that is found

pub on_ok_then : {T E : Type 0} {P Q : Type 0} (r : Result T E) → (P → Q) → OnOk r P → OnOk r Q
on_ok_then (Ok x) f h = f h
on_ok_then (Err e) f h = tt

pub walk_found : (arena : Halves (ℕ × ℕ)) (half outside : ℕ) (faces : List Face) (outer : Face) (seen : List Bool) (faces' : List Face) (outer' : Face) (seen' : List Bool)
    (cycle : List ℕ) → IsCycle arena half cycle → AreMarked seen cycle seen' → (face : Face) → face.corners ≡ corners_of arena cycle
    → (b : Bool) → (IsTrue b → Contains cycle outside) → (Contains cycle outside → IsTrue b)
    → MatchBool b ((outer' ≡ face) × (faces' ≡ faces)) ((outer' ≡ outer) × (faces' ≡ faces ++ face ∷ []))
    → IsWalkFound arena half outside faces outer seen faces' outer' seen'
walk_found arena half outside faces outer seen faces' outer' seen' cycle is marks face corners true on back kept = record {
  cycle = cycle;
  is = is;
  marks = marks;
  added = inl (on refl, ap (λ (f : Face). f.corners) kept.0 ∙ corners, kept.1);
}
walk_found arena half outside faces outer seen faces' outer' seen' cycle is marks face corners false on back kept = record {
  cycle = cycle;
  is = is;
  marks = marks;
  added = inr (
    (λ i. let no : false ≡ true = back i in cc),
    kept.0,
    kept.1 ∙ ap (λ (cs : List ℕ). faces ++ record { corners = cs } ∷ []) corners,
  );
}
