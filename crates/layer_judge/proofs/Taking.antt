-- A table that takes up one order after another tells what those say that it has taken up.
use Rattle.std.proofs.Common.{◌≡◌, ◌∙◌, ap, sym, subst, ◌⊎◌, inl, inr, refl, ℕ, ◌<◌, ◌≤◌, ◌+◌, List, map, length, Bool, Some, arith}
use Rattle.std.specs.Prelude.{◌↔◌, slice_get, slice_index_or, Contains, Option}
use Rattle.std.specs.Option.{option_map}
use Rattle.std.proofs.lemmas.Bool.{cases_lt}
use Rattle.std.proofs.lemmas.Option.{get_or_from_slice_get, slice_get-get_or, slice_get_within, slice_get-map, slice_get_read}
use Rattle.fold_keys.specs.declared.value.FaceOrder.{FaceOrder}
use Rattle.layers.specs.Sheets.{FoldedSheet}
use Rattle.layers.specs.Orders.{LayerOrder, Above, Opposed, Says}
use Rattle.layer_judge.specs.Judging.{as_layer_order, layer_orders}
use Rattle.layer_judge.specs.Rankings.{AreOpposed, Contradicts, IsMarked, IsSaid, SaysNothing, TakesUp, Tells}

pub order_at : (orders : List FaceOrder) (k : ℕ) (d : FaceOrder) → k < length orders → slice_get (layer_orders orders) k ≡ Some (as_layer_order (slice_index_or orders k d))
order_at orders k d within = slice_get-map as_layer_order orders k ∙ ap (option_map as_layer_order) (slice_get-get_or orders k d within)

-- what an order says is marked, or is nothing, or contradicts what is marked
module _ {A : Type 0} (sheet : FoldedSheet A) (count : ℕ) (cells : List Bool) (order : LayerOrder) where
  pub takes_nothing : SaysNothing sheet order → TakesUp sheet count cells order cells
  takes_nothing none = record {
    marks = λ f g. ((λ m. inl m), (λ o. elim o [ inl m ↦ m | inr s ↦ absurd (none f g s) ]));
    agrees = λ f g s. absurd (none f g s);
  }

  module _ (pair : ℕ × ℕ) (is : IsSaid sheet order pair) where
    pub takes_said : (marked : List Bool) → ((f g : ℕ) → IsMarked count marked f g ↔ (IsMarked count cells f g ⊎ (f ≡ pair.0) × (g ≡ pair.1))) → ¬ IsMarked count cells pair.1 pair.0
        → TakesUp sheet count cells order marked
    takes_said marked more free = record {
      marks = λ f g. (
        (λ m. elim ((more f g).0 m) [ inl a ↦ inl a | inr e ↦ inr ((is f g).1 e) ]),
        (λ o. (more f g).1 (elim o [ inl a ↦ inl a | inr s ↦ inr ((is f g).0 s) ])),
      );
      agrees = λ f g s m. let e = (is f g).0 s in free (subst (λ x. IsMarked count cells x pair.0) e.1 (subst (λ x. IsMarked count cells g x) e.0 m));
    }

    pub contradicts_said : IsMarked count cells pair.1 pair.0 → Contradicts sheet count cells order
    contradicts_said m = record { upper = pair.0; lower = pair.1; says = (is pair.0 pair.1).1 (refl, refl); marked = m }

module _ {A : Type 0} (sheet : FoldedSheet A) (orders : List LayerOrder) where
  -- an order that stands before the place k says that f is above g
  pub record SaidBefore (k f g : ℕ) : Type 0 where
    pub place : ℕ
    pub before : place < k
    pub order : LayerOrder
    pub is_order : slice_get orders place ≡ Some order
    pub says : Says sheet order f g

  abbrev pub TellsBefore : ℕ → ℕ → List Bool → Type 0
  TellsBefore k count cells = (f g : ℕ) → IsMarked count cells f g ↔ SaidBefore k f g

  abbrev pub AgreeBefore : ℕ → Type 0
  AgreeBefore k = (i j : ℕ) → i < j → j < k → ¬ Opposed sheet orders i j

  pub opposed_at : (i j : ℕ) (one other : LayerOrder) → slice_get orders i ≡ Some one → slice_get orders j ≡ Some other → AreOpposed sheet one other ↔ Opposed sheet orders i j
  opposed_at i j one other is_one is_other = (
    (λ o. record { upper = o.upper; lower = o.lower; first = one; is_first = is_one; first_says = o.first_says; second = other; is_second = is_other; second_says = o.second_says }),
    (λ o. record {
      upper = o.upper;
      lower = o.lower;
      first_says = subst (λ x. Says sheet x o.upper o.lower) (let a = o.is_first in cc) o.first_says;
      second_says = subst (λ x. Says sheet x o.lower o.upper) (let a = o.is_second in cc) o.second_says;
    }),
  )

  module _ (k count : ℕ) (cells : List Bool) (order : LayerOrder) (here : slice_get orders k ≡ Some order) (tells : TellsBefore k count cells) where
    one_more : (f g : ℕ) → SaidBefore k f g ⊎ Says sheet order f g → SaidBefore (k + 1) f g
    one_more f g (inl s) = record { place = s.place; before = let b = s.before in omega arith; order = s.order; is_order = s.is_order; says = s.says }
    one_more f g (inr s) = record { place = k; before = omega arith; order = order; is_order = here; says = s }

    one_less : (f g : ℕ) (s : SaidBefore (k + 1) f g) → (s.place < k) ⊎ (k ≤ s.place) → SaidBefore k f g ⊎ Says sheet order f g
    one_less f g s (inl b) = inl (record { place = s.place; before = b; order = s.order; is_order = s.is_order; says = s.says })
    one_less f g s (inr b) = inr (subst (λ x. Says sheet x f g) (let a : s.place ≡ k = (let c = s.before in omega arith) in let e = subst (λ i. slice_get orders i ≡ Some s.order) a s.is_order in cc) s.says)

    pub tells_more : (marked : List Bool) → TakesUp sheet count cells order marked → TellsBefore (k + 1) count marked
    tells_more marked t f g = (
      (λ m. one_more f g (elim ((t.marks f g).0 m) [ inl a ↦ inl ((tells f g).0 a) | inr s ↦ inr s ])),
      (λ s. (t.marks f g).1 (elim (one_less f g s (cases_lt s.place k)) [ inl a ↦ inl ((tells f g).1 a) | inr b ↦ inr b ])),
    )

    opposed_before : (i : ℕ) → i < k → (o : Opposed sheet orders i k) → SaidBefore k o.upper o.lower
    opposed_before i b o = record { place = i; before = b; order = o.first; is_order = o.is_first; says = o.first_says }

    pub agree_more : (marked : List Bool) → TakesUp sheet count cells order marked → AgreeBefore k → AgreeBefore (k + 1)
    agree_more marked t agree i j less before o = elim (cases_lt j k) [
      | inl b ↦ agree i j less b o
      | inr b ↦
          let e : j ≡ k = omega arith in
          let p : Opposed sheet orders i k = subst (Opposed sheet orders i) e o in
          t.agrees p.lower p.upper (subst (λ x. Says sheet x p.lower p.upper) (let a = p.is_second in cc) p.second_says) ((tells p.upper p.lower).1 (opposed_before i (omega arith) p))
    ]

    pub some_opposed : Contradicts sheet count cells order → (i : ℕ) × (i < k) × Opposed sheet orders i k
    some_opposed c = of ((tells c.lower c.upper).0 c.marked)
      where
        of : SaidBefore k c.lower c.upper → (i : ℕ) × (i < k) × Opposed sheet orders i k
        of s = (s.place, s.before, record { upper = c.lower; lower = c.upper; first = s.order; is_first = s.is_order; first_says = s.says; second = order; is_second = here; second_says = c.says })

  pub nothing_before : (f g : ℕ) → ¬ SaidBefore 0 f g
  nothing_before f g s = let b = s.before in omega arith

  pub tells_all : (count : ℕ) (cells : List Bool) → TellsBefore (length orders) count cells → Tells sheet count cells orders
  tells_all count cells tells f g = (
    (λ m. of ((tells f g).0 m)),
    (λ a. (tells f g).1 (record {
      place = a.is_order.0;
      before = a.is_order.1;
      order = a.order;
      is_order = slice_get_read orders (length orders) a.is_order.0 a.order refl a.is_order.1 (sym a.is_order.2);
      says = a.says;
    })),
  )
    where
      of : SaidBefore (length orders) f g → Above sheet orders f g
      of s = record { order = s.order; is_order = (s.place, s.before, get_or_from_slice_get orders s.place s.order s.order s.is_order); says = s.says }

  pub agree_all : AgreeBefore (length orders) → (i j : ℕ) → i < j → ¬ Opposed sheet orders i j
  agree_all agree i j less o = agree i j less (slice_get_within orders j o.second o.is_second) o
