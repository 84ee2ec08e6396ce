-- Orders have one verdict, or one fault of theirs.
use Rattle.std.proofs.Common.{◌≡◌, ◌∙◌, ap, sym, subst, refl, inl, inr, ℕ, ◌<◌, List, arith}
use Rattle.std.specs.Prelude.{◌↔◌}
use Rattle.std.specs.Cmp.{IsTotalOrder}
use Rattle.std.specs.Ordering.{ordering_reverse}
use Rattle.std.specs.declared.cmp.Ordering.{Ordering}
use Rattle.std.specs.declared.cmp.Ordering.TheVariants.{Less, Equal, Greater}
use Rattle.std.proofs.lemmas.Bool.{cases_lt}
use Rattle.algebra.specs.OrderedRing.{OrderedRing}
use Rattle.layers.specs.declared.crossing.Crossing.{Crossing}
use Rattle.layers.specs.Sheets.{FoldedSheet}
use Rattle.layers.specs.Orders.{LayerOrder, Above, NoClash, Opposed, RanksOverlaps, Unranked}
use Rattle.layers.specs.Crossings.{crossing_order}
use Rattle.layer_judge.specs.declared.answer.Verdict.{Verdict}
use Rattle.layer_judge.specs.declared.answer.Verdict.TheVariants.{Fits, Crosses}
use Rattle.layer_judge.specs.declared.answer.JudgeFault.{JudgeFault}
use Rattle.layer_judge.specs.declared.answer.JudgeFault.TheVariants.{OrderClash, NoOrder, Memory}
use Rattle.layer_judge.specs.Judging.{IsFirstClash, IsFirstCrossing, IsFirstUnranked, IsOfOrders, IsVerdict, RefusesOrders}

-- two numbers of which neither is less than the other are one
same_if_no_less : (m n : ℕ) → ¬ (m < n) → ¬ (n < m) → m ≡ n
same_if_no_less m n a b = elim (cases_lt m n) [ inl less ↦ absurd (a less) | inr more ↦ elim (cases_lt n m) [ inl less ↦ absurd (b less) | inr other ↦ omega arith ] ]

module _ {A : Type 0} (K : OrderedRing A) (sheet : FoldedSheet A) (orders : List LayerOrder) where
  module _ (total : IsTotalOrder crossing_order) (same : (c d : Crossing) → crossing_order c d ≡ Equal ↔ c ≡ d) where
    compared : (c d : Crossing) (o : Ordering) → crossing_order c d ≡ o → IsFirstCrossing K sheet orders c → IsFirstCrossing K sheet orders d → c ≡ d
    compared c d Less e a b = absurd (b.none_before c e a.occurs)
    compared c d Equal e a b = (same c d).0 e
    compared c d Greater e a b = absurd (a.none_before d (total.antisymm d c ∙ ap ordering_reverse e) b.occurs)

    pub one_answer : (v w : Verdict) → IsVerdict K sheet orders v → IsVerdict K sheet orders w → v ≡ w
    one_answer Fits Fits a b = refl
    one_answer Fits (Crosses c) a b = absurd (a.answer c b.answer.occurs)
    one_answer (Crosses c) Fits a b = absurd (b.answer c a.answer.occurs)
    one_answer (Crosses c) (Crosses d) a b = ap Crosses (compared c d (crossing_order c d) refl a.answer b.answer)

  one_second : (i j k l : ℕ) → IsFirstClash sheet orders i j → IsFirstClash sheet orders k l → j ≡ l
  one_second i j k l a b = same_if_no_less j l (λ less. b.none_sooner i j a.before less a.opposed) (λ less. a.none_sooner k l b.before less b.opposed)

  one_first : (i k j : ℕ) → IsFirstClash sheet orders i j → IsFirstClash sheet orders k j → i ≡ k
  one_first i k j a b = same_if_no_less i k (λ less. b.none_earlier i less a.opposed) (λ less. a.none_earlier k less b.opposed)

  one_clash : (i j k l : ℕ) → j ≡ l → IsFirstClash sheet orders i j → IsFirstClash sheet orders k l → OrderClash i j ≡ OrderClash k l
  one_clash i j k l e a b = let b' : IsFirstClash sheet orders k j = subst (IsFirstClash sheet orders k) (sym e) b in let d = one_first i k j a b' in cc

  one_low : (f g h k : ℕ) → IsFirstUnranked K sheet orders f g → IsFirstUnranked K sheet orders h k → f ≡ h
  one_low f g h k a b = same_if_no_less f h (λ less. b.none_lower f less g a.unranked) (λ less. a.none_lower h less k b.unranked)

  one_high : (f g k : ℕ) → IsFirstUnranked K sheet orders f g → IsFirstUnranked K sheet orders f k → g ≡ k
  one_high f g k a b = same_if_no_less g k (λ less. b.none_between g less a.unranked) (λ less. a.none_between k less b.unranked)

  one_pair : (f g h k : ℕ) → f ≡ h → IsFirstUnranked K sheet orders f g → IsFirstUnranked K sheet orders h k → NoOrder f g ≡ NoOrder h k
  one_pair f g h k e a b = let b' : IsFirstUnranked K sheet orders f k = subst (λ x. IsFirstUnranked K sheet orders x k) (sym e) b in let d = one_high f g k a b' in cc

  module _ (one_way : ((i j : ℕ) → i < j → ¬ Opposed sheet orders i j) ↔ NoClash (Above sheet orders)) where
    clashes : (i j : ℕ) → IsFirstClash sheet orders i j → ¬ NoClash (Above sheet orders)
    clashes i j a none = one_way.1 none i j a.before a.opposed

    pub one_refusal : (e d : JudgeFault) → IsOfOrders e → IsOfOrders d → RefusesOrders K sheet orders e → RefusesOrders K sheet orders d → e ≡ d
    one_refusal (OrderClash i j) (OrderClash k l) p q a b = one_clash i j k l (one_second i j k l a b) a b
    one_refusal (OrderClash i j) (NoOrder f g) p q a b = absurd (clashes i j a b.no_clash)
    one_refusal (OrderClash i j) (Memory x) p q a b = absurd q
    one_refusal (NoOrder f g) (OrderClash i j) p q a b = absurd (clashes i j b a.no_clash)
    one_refusal (NoOrder f g) (NoOrder h k) p q a b = one_pair f g h k (one_low f g h k a b) a b
    one_refusal (NoOrder f g) (Memory x) p q a b = absurd q
    one_refusal (Memory x) d p q a b = absurd p

    pub verdict_or_fault : ((f g : ℕ) → ¬ Unranked K sheet (Above sheet orders) f g) ↔ RanksOverlaps K sheet (Above sheet orders) → (v : Verdict) (e : JudgeFault) → IsVerdict K sheet orders v → IsOfOrders e → ¬ RefusesOrders K sheet orders e
    verdict_or_fault ranked v (OrderClash i j) a p b = clashes i j b a.rank.no_clash
    verdict_or_fault ranked v (NoOrder f g) a p b = ranked.1 a.rank.ranked f g b.unranked
    verdict_or_fault ranked v (Memory x) a p b = p
