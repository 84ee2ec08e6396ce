-- Whether an order says that one face is above another can be found out, so overlaps are ranked
-- where none is unranked.
use mathlib.Core.Path.{◌≡◌, refl, sym, ap, subst, ◌∙◌}
use mathlib.Core.List.{List, [], ◌∷◌}
use mathlib.Core.Logic.{◌⊎◌, inl, inr}
use Prim.Native.Nat.{ℕ, ◌<◌}
use Rattle.std.proofs.Common.{arith}
use Rattle.std.proofs.lemmas.Bool.{cases_eq, cases_order}
use Rattle.std.specs.Prelude.{Option, Some, None}
use Rattle.std.specs.List.{slice_get}
use Rattle.std.specs.declared.cmp.Ordering.TheVariants.{Less, Greater}
use Rattle.algebra.specs.OrderedRing.{OrderedRing}
use Rattle.plane.proofs.Members.{in_cons, in_head, in_tail, in_nil}
use Rattle.layers.proofs.Places.{at_place, stands_at}
use Rattle.layers.proofs.Stacks.{same_ordering}
use Rattle.layers.specs.Sheets.{FoldedFace, FoldedSheet}
use Rattle.layers.specs.Orders.{LayerOrder, seen_from_above, Says, Above, Opposed, NoClash, RanksOverlaps, Unranked}

both : {P Q : Type 0} → P ⊎ ¬ P → Q ⊎ ¬ Q → (P × Q) ⊎ ¬ (P × Q)
both (inl p) (inl q) = inl (p, q)
both (inl p) (inr n) = inr (λ h. n h.1)
both (inr n) q = inr (λ h. n h.0)

three : {P Q R : Type 0} → P ⊎ ¬ P → Q ⊎ ¬ Q → R ⊎ ¬ R → (P × Q × R) ⊎ ¬ (P × Q × R)
three (inl p) (inl q) (inl r) = inl (p, q, r)
three (inl p) (inl q) (inr n) = inr (λ h. n h.2)
three (inl p) (inr n) r = inr (λ h. n h.1)
three (inr n) q r = inr (λ h. n h.0)

either : {P Q : Type 0} → P ⊎ ¬ P → Q ⊎ ¬ Q → (P ⊎ Q) ⊎ ¬ (P ⊎ Q)
either (inl p) q = inl (inl p)
either (inr n) (inl q) = inl (inr q)
either (inr n) (inr m) = inr (λ h. elim h [ inl p ↦ n p | inr q ↦ m q ])

-- what the order says of f and g, where its other face is this one
abbrev pub Tells : {A : Type 0} → LayerOrder → FoldedFace A → ℕ → ℕ → Type 0
Tells order face f g =
    (order.face ≡ f) × (order.other ≡ g) × (seen_from_above face.turned order.normal_side ≡ Greater)
    ⊎ (order.face ≡ g) × (order.other ≡ f) × (seen_from_above face.turned order.normal_side ≡ Less)

module _ {A : Type 0} (sheet : FoldedSheet A) (f g : ℕ) where
  says_or_not : (order : LayerOrder) → Says sheet order f g ⊎ ¬ Says sheet order f g
  says_or_not order = at (cases_eq f g) (slice_get sheet.faces order.other) refl
    where
      found : ¬ (f ≡ g) → (face : FoldedFace A) → slice_get sheet.faces order.other ≡ Some face → Tells order face f g ⊎ ¬ Tells order face f g → Says sheet order f g ⊎ ¬ Says sheet order f g
      found n face e (inl h) = inl (record { different = n; other = face; is_other = e; says = h })
      found n face e (inr m) = inr (λ s. let a = s.is_other in let same : s.other ≡ face = cc in m (subst (λ (x : FoldedFace A). Tells order x f g) same s.says))

      at : (f ≡ g) ⊎ ¬ (f ≡ g) → (o : Option (FoldedFace A)) → slice_get sheet.faces order.other ≡ o → Says sheet order f g ⊎ ¬ Says sheet order f g
      at (inl e) o i = inr (λ s. s.different e)
      at (inr n) None i = inr (λ s. let a = s.is_other in cc)
      at (inr n) (Some face) i = found n face i
          (either (three (cases_eq order.face f) (cases_eq order.other g) (same_ordering (seen_from_above face.turned order.normal_side) Greater))
          (three (cases_eq order.face g) (cases_eq order.other f) (same_ordering (seen_from_above face.turned order.normal_side) Less)))

  pub above_or_not : (orders : List LayerOrder) → Above sheet orders f g ⊎ ¬ Above sheet orders f g
  above_or_not [] = inr (λ a. in_nil a.order a.is_order)
  above_or_not (o ∷ os) = of (says_or_not o) (above_or_not os)
    where
      of : Says sheet o f g ⊎ ¬ Says sheet o f g → Above sheet os f g ⊎ ¬ Above sheet os f g → Above sheet (o ∷ os) f g ⊎ ¬ Above sheet (o ∷ os) f g
      of (inl s) r = inl (record { order = o; is_order = in_head o os; says = s })
      of (inr n) (inl r) = inl (record { order = r.order; is_order = in_tail o os r.order r.is_order; says = r.says })
      of (inr n) (inr m) = inr (λ a. elim (in_cons o os a.order a.is_order) [
        | inl e ↦ n (subst (λ x. Says sheet x f g) (sym e) a.says)
        | inr j ↦ m (record { order = a.order; is_order = j; says = a.says })
      ])

  -- no order says both things
  one_thing : (order : LayerOrder) → Says sheet order f g → ¬ Says sheet order g f
  one_thing order s t = go s.says t.says
    where
      same : s.other ≡ t.other
      same = let a = s.is_other in let b = t.is_other in cc

      seen : seen_from_above s.other.turned order.normal_side ≡ seen_from_above t.other.turned order.normal_side
      seen = ap (λ (x : FoldedFace A). seen_from_above x.turned order.normal_side) same

      go : Tells order s.other f g
          → Tells order t.other g f → ⊥
      go (inl a) (inl b) = s.different (sym a.0 ∙ b.0)
      go (inl a) (inr b) = let p = sym a.2 ∙ seen ∙ b.2 in cc
      go (inr a) (inl b) = let p = sym a.2 ∙ seen ∙ b.2 in cc
      go (inr a) (inr b) = s.different (sym b.0 ∙ a.0)

-- where the orders at no two places of the list are opposed, none is above and below another
pub no_clash : {A : Type 0} (sheet : FoldedSheet A) (orders : List LayerOrder) → ((i j : ℕ) → i < j → ¬ Opposed sheet orders i j) → NoClash (Above sheet orders)
no_clash {A} sheet orders none f g a b = go (cases_order a.is_order.0 b.is_order.0)
  where
    go : (a.is_order.0 ≡ b.is_order.0) ⊎ ((a.is_order.0 < b.is_order.0) ⊎ (b.is_order.0 < a.is_order.0)) → ⊥
    go (inl e) =
        let i = stands_at orders a.order a.is_order in let j = stands_at orders b.order b.is_order in
        let k : slice_get orders b.is_order.0 ≡ Some a.order = subst (λ n. slice_get orders n ≡ Some a.order) e i in
        let same : a.order ≡ b.order = cc in
        one_thing sheet f g b.order (subst (λ o. Says sheet o f g) same a.says) b.says
    go (inr (inl lt)) = none a.is_order.0 b.is_order.0 lt (record { upper = f; lower = g; first = a.order; is_first = stands_at orders a.order a.is_order; first_says = a.says; second = b.order; is_second = stands_at orders b.order b.is_order; second_says = b.says })
    go (inr (inr gt)) = none b.is_order.0 a.is_order.0 gt (record { upper = g; lower = f; first = b.order; is_first = stands_at orders b.order b.is_order; first_says = b.says; second = a.order; is_second = stands_at orders a.order a.is_order; second_says = a.says })

-- where no two faces are unranked, the orders rank all overlaps
pub all_ranked : {A : Type 0} (K : OrderedRing A) (sheet : FoldedSheet A) (orders : List LayerOrder) → ((f g : ℕ) → ¬ Unranked K sheet (Above sheet orders) f g) → RanksOverlaps K sheet (Above sheet orders)
all_ranked {A} K sheet orders none f g n o = of (above_or_not sheet f g orders) (above_or_not sheet g f orders) (cases_order f g)
  where
    of : Above sheet orders f g ⊎ ¬ Above sheet orders f g → Above sheet orders g f ⊎ ¬ Above sheet orders g f → (f ≡ g) ⊎ ((f < g) ⊎ (g < f)) → Above sheet orders f g ⊎ Above sheet orders g f
    of (inl a) b c = inl a
    of (inr a) (inl b) c = inr b
    of (inr a) (inr b) (inl e) = absurd (n e)
    of (inr a) (inr b) (inr (inl lt)) = absurd (none f g (record { ordered = lt; overlap = o; not_above = a; not_below = b }))
    of (inr a) (inr b) (inr (inr gt)) = absurd (none g f (record { ordered = gt; overlap = record { point = o.point; is_point = o.is_point; in_first = o.in_second; in_second = o.in_first }; not_above = b; not_below = a }))

pub none_opposed : {A : Type 0} (sheet : FoldedSheet A) (orders : List LayerOrder) → NoClash (Above sheet orders) → (i j : ℕ) → ¬ Opposed sheet orders i j
none_opposed sheet orders one_way i j o =
    one_way o.upper o.lower (record { order = o.first; is_order = at_place orders i o.first o.is_first; says = o.first_says }) (record { order = o.second; is_order = at_place orders j o.second o.is_second; says = o.second_says })

pub none_unranked : {A : Type 0} (K : OrderedRing A) (sheet : FoldedSheet A) (above : ℕ → ℕ → Type 0) → RanksOverlaps K sheet above → (f g : ℕ) → ¬ Unranked K sheet above f g
none_unranked K sheet above ranks f g u = elim (ranks f g (λ e. let l = u.ordered in absurd (omega (arith))) u.overlap) [ inl a ↦ u.not_above a | inr b ↦ u.not_below b ]
