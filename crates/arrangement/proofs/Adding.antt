-- A point that is put into a set of vertices, seen as a list of vectors.
use mathlib.Core.Path.{◌≡◌, refl, sym, ap, subst}
use mathlib.Core.List.{List, [], ◌∷◌, map}
use mathlib.Core.Bool.{Bool, true, false, not, ◌||◌}
use Rattle.std.proofs.Common.{inl, inr}
use Rattle.std.specs.Prelude.{◌⊎◌, Contains}
use Rattle.std.specs.Bool.{OnFalse}
use Rattle.std.specs.List.{list_any}
use Rattle.std.specs.Ordering.{match_ordering, is_eq}
use Rattle.std.specs.declared.cmp.Ordering.{Ordering}
use Rattle.std.specs.declared.cmp.Ordering.TheVariants.{Less, Equal, Greater}
use Rattle.std.specs.BTreeSet.{insert_key}
use Rattle.std.specs.BTreeMap.{is_at}
use Rattle.plane.proofs.Members.{in_cons, in_head, in_nil, in_tail}
use Rattle.algebra.specs.OrderedRing.{OrderedRing}
use Rattle.plane.specs.declared.point.Point.{Point}
use Rattle.plane.specs.Points.{IsSamePoint, point_order}
use Rattle.plane.proofs.Lines.{same_refl}
use Rattle.plane.proofs.Order.{same_of_equal, equal_of_same}
use Rattle.arrangement.specs.Found.{Has, Grows}

module _ {A : Type 0} (K : OrderedRing A) {V : Type 0} (f : V → Point A) where
  abbrev pub by_point : V → V → Ordering
  by_point v w = point_order K (f v) (f w)

  abbrev Put : V → List V → V → Ordering → List V
  Put x xs k o = match_ordering o (k ∷ x ∷ xs) (x ∷ xs) (x ∷ insert_key by_point xs k)

  kept_at : (x : V) (xs : List V) (k : V) (p : Point A) (o : Ordering) → (Contains (map f xs) p → Contains (map f (insert_key by_point xs k)) p)
      → Contains (map f (x ∷ xs)) p → Contains (map f (Put x xs k o)) p
  kept_at x xs k p Less rest h = in_tail (f k) (f x ∷ map f xs) p h
  kept_at x xs k p Equal rest h = h
  kept_at x xs k p Greater rest h = kept_tail (in_cons (f x) (map f xs) p h)
    where
      kept_tail : (f x ≡ p) ⊎ Contains (map f xs) p → Contains (map f (x ∷ insert_key by_point xs k)) p
      kept_tail (inl e) = subst (Contains (map f (x ∷ insert_key by_point xs k))) e (in_head (f x) (map f (insert_key by_point xs k)))
      kept_tail (inr n) = in_tail (f x) (map f (insert_key by_point xs k)) p (rest n)

  insert_kept : (ks : List V) (k : V) (p : Point A) → Contains (map f ks) p → Contains (map f (insert_key by_point ks k)) p
  insert_kept [] k p h = absurd (in_nil p h)
  insert_kept (x ∷ xs) k p h = kept_at x xs k p (by_point k x) (insert_kept xs k p) h

  only_at : (x : V) (xs : List V) (k : V) (p : Point A) (o : Ordering) → (Contains (map f (insert_key by_point xs k)) p → Contains (map f xs) p ⊎ (p ≡ f k))
      → Contains (map f (Put x xs k o)) p → Contains (map f (x ∷ xs)) p ⊎ (p ≡ f k)
  only_at x xs k p Less rest h = swapped (in_cons (f k) (f x ∷ map f xs) p h)
    where
      swapped : (f k ≡ p) ⊎ Contains (f x ∷ map f xs) p → Contains (f x ∷ map f xs) p ⊎ (p ≡ f k)
      swapped (inl e) = inr (sym e)
      swapped (inr n) = inl n
  only_at x xs k p Equal rest h = inl h
  only_at x xs k p Greater rest h = only_tail (in_cons (f x) (map f (insert_key by_point xs k)) p h)
    where
      deeper : Contains (map f xs) p ⊎ (p ≡ f k) → Contains (f x ∷ map f xs) p ⊎ (p ≡ f k)
      deeper (inl n) = inl (in_tail (f x) (map f xs) p n)
      deeper (inr e) = inr e

      only_tail : (f x ≡ p) ⊎ Contains (map f (insert_key by_point xs k)) p → Contains (map f (x ∷ xs)) p ⊎ (p ≡ f k)
      only_tail (inl e) = inl (subst (Contains (f x ∷ map f xs)) e (in_head (f x) (map f xs)))
      only_tail (inr n) = deeper (rest n)

  insert_only : (ks : List V) (k : V) (p : Point A) → Contains (map f (insert_key by_point ks k)) p → Contains (map f ks) p ⊎ (p ≡ f k)
  insert_only [] k p h = only_new (in_cons (f k) [] p h)
    where
      only_new : (f k ≡ p) ⊎ Contains [] p → Contains [] p ⊎ (p ≡ f k)
      only_new (inl e) = inr (sym e)
      only_new (inr n) = inl n
  insert_only (x ∷ xs) k p h = only_at x xs k p (by_point k x) (insert_only xs k p) h

  more_has : (x : V) (ps : List (Point A)) (p : Point A) → Has K ps p → Has K (f x ∷ ps) p
  more_has x ps p h = (h.0, in_tail (f x) ps h.0 h.1, h.2)

  has_at : (x : V) (xs : List V) (k : V) (o : Ordering) → by_point k x ≡ o → Has K (map f (insert_key by_point xs k)) (f k) → Has K (map f (Put x xs k o)) (f k)
  has_at x xs k Less e rest = (f k, in_head (f k) (f x ∷ map f xs), same_refl K (f k))
  has_at x xs k Equal e rest = (f x, in_head (f x) (map f xs), same_of_equal K (f k) (f x) e)
  has_at x xs k Greater e rest = more_has x (map f (insert_key by_point xs k)) (f k) rest

  insert_has : (ks : List V) (k : V) → Has K (map f (insert_key by_point ks k)) (f k)
  insert_has [] k = (f k, in_head (f k) [], same_refl K (f k))
  insert_has (x ∷ xs) k = has_at x xs k (by_point k x) refl (insert_has xs k)

  both_false : (a b : Bool) → (a || b) ≡ false → (a ≡ false) × (b ≡ false)
  both_false true b h = absurd (cc)
  both_false false b h = (refl, h)

  -- a point that the set doesn't contain has no vector in it
  none_has : (ks : List V) (k : V) → list_any (is_at (by_point k)) ks ≡ false → ¬ Has K (map f ks) (f k)
  none_has [] k e h = in_nil h.0 h.1
  none_has (x ∷ xs) k e h = at (none_has xs k) (both_false (is_eq (by_point k x)) (list_any (is_at (by_point k)) xs) e) (in_cons (f x) (map f xs) h.0 h.1)
    where
      at : (list_any (is_at (by_point k)) xs ≡ false → ¬ Has K (map f xs) (f k)) → (is_eq (by_point k x) ≡ false) × (list_any (is_at (by_point k)) xs ≡ false) → (f x ≡ h.0) ⊎ Contains (map f xs) h.0 → ⊥
      at rest n (inl q) = absurd (let yes : is_eq (by_point k x) ≡ true = ap is_eq (equal_of_same K (f k) (f x) (subst (IsSamePoint K (f k)) (sym q) h.2)) in cc)
      at rest n (inr later) = rest n.1 (h.0, later, h.2)

  -- what `insert` did
  pub insert_grows : (old new : List V) (k : V) (added : Bool) → added ≡ not (list_any (is_at (by_point k)) old) → (added ≡ false → new ≡ old) → new ≡ insert_key by_point old k
      → Grows K (λ p. p ≡ f k) (map f old) (map f new)
  insert_grows old new k false a same e =
      subst (λ ks. Grows K (λ p. p ≡ f k) (map f old) (map f ks)) (sym (same refl)) (record { kept = λ p h. h; only = λ p h. inl h })
  insert_grows old new k true a same e =
      subst (λ ks. Grows K (λ p. p ≡ f k) (map f old) (map f ks)) (sym e)
      (record { kept = insert_kept old k; only = λ p h. new_one p (insert_only old k p h) })
    where
      absent : (b : Bool) → true ≡ not b → b ≡ false
      absent true h = absurd (cc)
      absent false h = refl

      new_one : (p : Point A) → Contains (map f old) p ⊎ (p ≡ f k) → Contains (map f old) p ⊎ ((p ≡ f k) × ¬ Has K (map f old) p)
      new_one p (inl h) = inl h
      new_one p (inr q) = inr (q, subst (λ r. ¬ Has K (map f old) r) (sym q) (none_has old k (absent (list_any (is_at (by_point k)) old) a)))

  pub insert_here : (old new : List V) (k : V) → new ≡ insert_key by_point old k → Has K (map f new) (f k)
  insert_here old new k e = subst (λ ks. Has K (map f ks) (f k)) (sym e) (insert_has old k)

pub where_false : (b : Bool) (P : Type 0) → OnFalse b P → b ≡ false → P
where_false true P h e = absurd (cc)
where_false false P h e = h
