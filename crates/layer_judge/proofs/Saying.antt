-- What an order says, by what it says seen from above.
use Rattle.std.proofs.Common.{◌≡◌, ◌∙◌, ap, sym, subst, ◌⊎◌, inl, inr, refl, ℕ, ◌<◌, length, Some}
use Rattle.std.specs.Prelude.{◌↔◌, slice_get}
use Rattle.std.specs.declared.cmp.Ordering.{Ordering}
use Rattle.std.specs.declared.cmp.Ordering.TheVariants.{Less, Equal, Greater}
use Rattle.std.proofs.lemmas.Option.{get_or_from_slice_get, slice_get-get_or}
use Rattle.layers.specs.Sheets.{FoldedFace, FoldedSheet}
use Rattle.layers.specs.Orders.{LayerOrder, Says, seen_from_above}
use Rattle.half_planes.specs.Views.{face_at}
use Rattle.fold_keys.specs.declared.value.FaceOrder.{FaceOrder}
use Rattle.layer_judge.specs.Judging.{IsOrderOf, as_layer_order}
use Rattle.layer_judge.specs.Rankings.{IsSaid, SaysNothing}

module _ {A : Type 0} (sheet : FoldedSheet A) (order : LayerOrder) where
  -- the side that the order says, seen from above
  abbrev pub seen : Ordering
  seen = seen_from_above (face_at sheet order.other).turned order.normal_side

  as_seen : (face : FoldedFace A) → slice_get sheet.faces order.other ≡ Some face → seen ≡ seen_from_above face.turned order.normal_side
  as_seen face is = ap (λ (x : FoldedFace A). seen_from_above x.turned order.normal_side) (get_or_from_slice_get sheet.faces order.other face _ is)

  pub says_nothing_of_itself : order.face ≡ order.other → SaysNothing sheet order
  says_nothing_of_itself e f g s = elim s.says [ inl p ↦ s.different (sym p.0 ∙ e ∙ p.1) | inr p ↦ s.different (sym p.1 ∙ sym e ∙ p.0) ]

  pub says_nothing : seen ≡ Equal → SaysNothing sheet order
  says_nothing e f g s =
      let same = as_seen s.other s.is_other in
      elim s.says [ inl p ↦ let q = p.2 in cc | inr p ↦ let q = p.2 in cc ]

  module _ (different : ¬ (order.face ≡ order.other)) (within : order.other < length sheet.faces) where
    pub says_above : seen ≡ Greater → IsSaid sheet order (order.face, order.other)
    says_above e f g = (
      (λ s. let same = as_seen s.other s.is_other in elim s.says [ inl p ↦ (sym p.0, sym p.1) | inr p ↦ let q = p.2 in cc ]),
      (λ p. record {
        different = λ h. different (sym p.0 ∙ h ∙ p.1);
        other = face_at sheet order.other;
        is_other = slice_get-get_or sheet.faces order.other _ within;
        says = inl (sym p.0, sym p.1, e);
      }),
    )

    pub says_below : seen ≡ Less → IsSaid sheet order (order.other, order.face)
    says_below e f g = (
      (λ s. let same = as_seen s.other s.is_other in elim s.says [ inl p ↦ let q = p.2 in cc | inr p ↦ (sym p.1, sym p.0) ]),
      (λ p. record {
        different = λ h. different (sym p.1 ∙ sym h ∙ p.0);
        other = face_at sheet order.other;
        is_other = slice_get-get_or sheet.faces order.other _ within;
        says = inr (sym p.1, sym p.0, e);
      }),
    )

-- the faces of which an order says something are those that it names
pub said_within : {A : Type 0} (sheet : FoldedSheet A) (count : ℕ) (order : FaceOrder) (pair : ℕ × ℕ) → IsOrderOf count order → IsSaid sheet (as_layer_order order) pair → (pair.0 < count) × (pair.1 < count)
said_within sheet count order pair named is = elim ((is pair.0 pair.1).1 (refl, refl)).says [
  | inl p ↦ (subst (λ x. x < count) p.0 named.first_within, subst (λ x. x < count) p.1 named.second_within)
  | inr p ↦ (subst (λ x. x < count) p.1 named.second_within, subst (λ x. x < count) p.0 named.first_within)
]
