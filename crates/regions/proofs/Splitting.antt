-- What adding a piece does to walks and regions: where two directed pieces have one region at their left, they are in one
-- walk, if that was so before. No fact of the plane is used but those that are named as premises.
use mathlib.Core.Path.{◌≡◌}
use mathlib.Core.Logic.{◌⊎◌, inl, inr}
use Rattle.regions.proofs.Walks.{Linked, same, onward, back}

module _ {D : Type 0} {R : D → D → Type 0} where
  pub linked_then : {d e f : D} → Linked R d e → Linked R e f → Linked R d f
  linked_then same m = m
  linked_then (onward h l) m = onward h (linked_then l m)
  linked_then (back h l) m = back h (linked_then l m)

  pub linked_back : {d e : D} → Linked R d e → Linked R e d
  linked_back same = same
  linked_back (onward h l) = linked_then (linked_back l) (back h same)
  linked_back (back h l) = linked_then (linked_back l) (onward h same)

  pub linked_once : {d e : D} → R d e → Linked R d e
  linked_once h = onward h same

-- Old and New are what follows in the old and in the new drawing, e and r the two directions of the new piece
module _ {D : Type 0} (Old New : D → D → Type 0) (e r : D) where
  -- d is in a walk of the new piece
  abbrev pub Reaches : D → Type 0
  Reaches d = Linked New d e ⊎ Linked New d r

  abbrev pub Kept : Type 0
  Kept = (d f : D) → Old d f → New d f ⊎ (Reaches d × Reaches f)

  reaches_along : {d f : D} → Linked New d f → Reaches f → Reaches d
  reaches_along l (inl m) = inl (linked_then l m)
  reaches_along l (inr m) = inr (linked_then l m)

  pub kept_or_reached : Kept → {d f : D} → Linked Old d f → Linked New d f ⊎ (Reaches d × Reaches f)
  kept_or_reached kept same = inl same
  kept_or_reached kept (onward h l) = join (kept _ _ h) (kept_or_reached kept l)
    where
      join : {d e f : D} → New d e ⊎ (Reaches d × Reaches e) → Linked New e f ⊎ (Reaches e × Reaches f) → Linked New d f ⊎ (Reaches d × Reaches f)
      join (inl h) (inl l) = inl (onward h l)
      join (inl h) (inr m) = inr (reaches_along (linked_once h) m.0, m.1)
      join (inr m) (inl l) = inr (m.0, reaches_along (linked_back l) m.1)
      join (inr m) (inr n) = inr (m.0, n.1)
  kept_or_reached kept (back h l) = join (kept _ _ h) (kept_or_reached kept l)
    where
      join : {d e f : D} → New e d ⊎ (Reaches e × Reaches d) → Linked New e f ⊎ (Reaches e × Reaches f) → Linked New d f ⊎ (Reaches d × Reaches f)
      join (inl h) (inl l) = inl (back h l)
      join (inl h) (inr m) = inr (reaches_along (linked_back (linked_once h)) m.0, m.1)
      join (inr m) (inl l) = inr (m.1, reaches_along (linked_back l) m.0)
      join (inr m) (inr n) = inr (m.1, n.1)

  -- Joined is that two directed pieces have one region at their left, in the new drawing
  module _ (IsOld : D → Type 0) (Joined : D → D → Type 0)
      (joined_back : (d f : D) → Joined d f → Joined f d)
      (joined_then : (d f g : D) → Joined d f → Joined f g → Joined d g)
      (walk_joined : (d f : D) → (IsOld d ⊎ (d ≡ e) ⊎ (d ≡ r)) → Linked New d f → Joined d f)
      (was_one_walk : (d f : D) → IsOld d → IsOld f → Joined d f → Linked Old d f)
      (kept : Kept)
      (sides : Linked New e r ⊎ ¬ Joined e r)
      (old_with_e : (g : D) × IsOld g × Linked New e g)
      (old_with_r : (g : D) × IsOld g × Linked New r g) where
    abbrev IsNew : D → Type 0
    IsNew d = IsOld d ⊎ (d ≡ e) ⊎ (d ≡ r)

    met_twice : {d f : D} → IsNew d → IsNew f → Joined d f → Reaches d → Reaches f → Linked New d f
    met_twice hd hf j (inl l) (inl m) = linked_then l (linked_back m)
    met_twice hd hf j (inr l) (inr m) = linked_then l (linked_back m)
    met_twice hd hf j (inl l) (inr m) = elim sides [
      | inl s ↦ linked_then l (linked_then s (linked_back m))
      | inr apart ↦ absurd (apart (joined_then _ _ _ (joined_back _ _ (walk_joined _ _ hd l)) (joined_then _ _ _ j (walk_joined _ _ hf m))))
    ]
    met_twice hd hf j (inr l) (inl m) = elim sides [
      | inl s ↦ linked_then l (linked_then (linked_back s) (linked_back m))
      | inr apart ↦ absurd (apart (joined_then _ _ _ (joined_back _ _ (walk_joined _ _ hf m)) (joined_then _ _ _ (joined_back _ _ j) (walk_joined _ _ hd l))))
    ]

    old_one_walk : {d f : D} → IsOld d → IsOld f → Joined d f → Linked New d f
    old_one_walk hd hf j = elim (kept_or_reached kept (was_one_walk _ _ hd hf j)) [
      | inl l ↦ l
      | inr m ↦ met_twice (inl hd) (inl hf) j m.0 m.1
    ]

    -- each directed piece is in the walk of an old one
    with_old : {d : D} → IsNew d → (g : D) × IsOld g × Linked New d g
    with_old {d} (inl h) = (d, h, same)
    with_old (inr (inl h)) = rw h old_with_e
    with_old (inr (inr h)) = rw h old_with_r

    -- where two directed pieces of the new drawing have one region at their left, they are in one walk
    pub one_walk : {d f : D} → IsNew d → IsNew f → Joined d f → Linked New d f
    one_walk {d} {f} hd hf j =
        let a : (g : D) × IsOld g × Linked New d g = with_old hd in
        let b : (g : D) × IsOld g × Linked New f g = with_old hf in
        linked_then a.2 (linked_then (old_one_walk a.1 b.1 (joined_then _ _ _ (joined_back _ _ (walk_joined _ _ hd a.2)) (joined_then _ _ _ j (walk_joined _ _ hf b.2)))) (linked_back b.2))
