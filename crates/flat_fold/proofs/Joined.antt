-- Whether edges lead from one vertex to another is decided: edge by edge, since one edge more joins what lies at its two ends.
use Rattle.std.proofs.Common.{◌≡◌, ◌∙◌, sym, refl, subst, ℕ, List, [], ◌∷◌, inl, inr, ◌⊎◌}
use Rattle.std.specs.List.{Contains}
use Rattle.plane.proofs.First.{same_or_not}
use Rattle.plane.proofs.Members.{in_cons, in_head, in_nil, in_tail}
use Rattle.scaled_plane.specs.Lists.{IsReached}
use Rattle.scaled_plane.specs.Lists.IsReached.{begun, gone_on}
use Rattle.scaled_plane.specs.Walks.{AreJoined, IsDirectedPiece}
use Rattle.scaled_plane.specs.declared.drawing.Edge.{Edge}

-- what edges join they join with one edge more
pub joined-more : (es : List Edge) (e : Edge) (u v : ℕ) → AreJoined es u v → AreJoined (e ∷ es) u v
joined-more es e u v begun = begun
joined-more es e u v (gone_on w before step) = gone_on w (joined-more es e u w before) (step.0, in_tail e es step.0 step.1, step.2)

module _ (e : Edge) (es : List Edge) (u : ℕ) where
  -- by the other edges alone, or by way of e in one of its two directions
  pub data ByWayOf (v : ℕ) : Type 0 where
    without : AreJoined es u v → ByWayOf v
    along : AreJoined es u e.from → AreJoined es e.to v → ByWayOf v
    back : AreJoined es u e.to → AreJoined es e.from v → ByWayOf v

  more : {w : ℕ} (v : ℕ) → ByWayOf w → IsDirectedPiece es w v → ByWayOf v
  more {w} v (without a) s = without (gone_on w a s)
  more {w} v (along a b) s = along a (gone_on w b s)
  more {w} v (back a b) s = back a (gone_on w b s)

  there : {w : ℕ} → ByWayOf w → e.from ≡ w → ByWayOf e.to
  there (without a) s = along (subst (λ (x : ℕ). AreJoined es u x) (sym s) a) begun
  there (along a b) s = along a begun
  there (back a b) s = without a

  here : {w : ℕ} → ByWayOf w → e.to ≡ w → ByWayOf e.from
  here (without a) s = back (subst (λ (x : ℕ). AreJoined es u x) (sym s) a) begun
  here (along a b) s = without a
  here (back a b) s = back a begun

  by_way : {v : ℕ} → AreJoined (e ∷ es) u v → ByWayOf v
  by_way begun = without begun
  by_way (gone_on {v} w before step) = elim (in_cons e es step.0 step.1) [
    | inr i ↦ more v (by_way before) (step.0, i, step.2)
    | inl same ↦ elim (subst (λ (f : Edge). ((f.from ≡ w) × (f.to ≡ v)) ⊎ ((f.from ≡ v) × (f.to ≡ w))) (sym same) step.2) [
      | inl s ↦ subst (λ (x : ℕ). ByWayOf x) s.1 (there (by_way before) s.0)
      | inr s ↦ subst (λ (x : ℕ). ByWayOf x) s.0 (here (by_way before) s.1)
    ]
  ]

-- one way after another
pub joined-then : (es : List Edge) (u v w : ℕ) → AreJoined es u v → AreJoined es v w → AreJoined es u w
joined-then es u v w a begun = a
joined-then es u v w a (gone_on x before step) = gone_on x (joined-then es u v x a before) step

none_joined : {u v : ℕ} → AreJoined [] u v → u ≡ v
none_joined begun = refl
none_joined (gone_on w before step) = absurd (in_nil step.0 step.1)

pub joined-or_not : (es : List Edge) (u v : ℕ) → AreJoined es u v ⊎ ¬ AreJoined es u v
joined-or_not [] u v = elim (same_or_not u v) [
  | inl same ↦ inl (subst (λ (x : ℕ). AreJoined [] u x) same begun)
  | inr other ↦ inr (λ j. other (none_joined j))
]
joined-or_not (e ∷ es) u v =
    at (joined-or_not es u v) (joined-or_not es u e.from) (joined-or_not es e.to v) (joined-or_not es u e.to) (joined-or_not es e.from v)
  where
    by_e : AreJoined (e ∷ es) e.from e.to
    by_e = gone_on e.from begun (e, in_head e es, inl (refl, refl))

    back_by_e : AreJoined (e ∷ es) e.to e.from
    back_by_e = gone_on e.to begun (e, in_head e es, inr (refl, refl))

    through : AreJoined es u e.from → AreJoined es e.to v → AreJoined (e ∷ es) u v
    through a b =
        joined-then (e ∷ es) u e.from v (joined-more es e u e.from a) (joined-then (e ∷ es) e.from e.to v by_e (joined-more es e e.to v b))

    through_back : AreJoined es u e.to → AreJoined es e.from v → AreJoined (e ∷ es) u v
    through_back a b =
        joined-then (e ∷ es) u e.to v (joined-more es e u e.to a) (joined-then (e ∷ es) e.to e.from v back_by_e (joined-more es e e.from v b))

    not_by : ¬ AreJoined es u v → ¬ (AreJoined es u e.from × AreJoined es e.to v) → ¬ (AreJoined es u e.to × AreJoined es e.from v) → ByWayOf e es u v → ⊥
    not_by n there other (without a) = n a
    not_by n there other (along a b) = there (a, b)
    not_by n there other (back a b) = other (a, b)

    at : AreJoined es u v ⊎ ¬ AreJoined es u v → AreJoined es u e.from ⊎ ¬ AreJoined es u e.from → AreJoined es e.to v ⊎ ¬ AreJoined es e.to v
        → AreJoined es u e.to ⊎ ¬ AreJoined es u e.to → AreJoined es e.from v ⊎ ¬ AreJoined es e.from v → AreJoined (e ∷ es) u v ⊎ ¬ AreJoined (e ∷ es) u v
    at (inl a) b c d f = inl (joined-more es e u v a)
    at (inr a) (inl b) (inl c) d f = inl (through b c)
    at (inr a) (inr b) c (inl d) (inl f) = inl (through_back d f)
    at (inr a) (inl b) (inr c) (inl d) (inl f) = inl (through_back d f)
    at (inr a) (inr b) c (inr d) f = inr (λ j. not_by a (λ p. b p.0) (λ p. d p.0) (by_way e es u j))
    at (inr a) (inr b) c (inl d) (inr f) = inr (λ j. not_by a (λ p. b p.0) (λ p. f p.1) (by_way e es u j))
    at (inr a) (inl b) (inr c) (inr d) f = inr (λ j. not_by a (λ p. c p.1) (λ p. d p.0) (by_way e es u j))
    at (inr a) (inl b) (inr c) (inl d) (inr f) = inr (λ j. not_by a (λ p. c p.1) (λ p. f p.1) (by_way e es u j))
