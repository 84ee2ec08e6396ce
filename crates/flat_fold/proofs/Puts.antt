-- A map before and after an entry is put, by orders of keys that tell all keys apart.
use Rattle.std.proofs.Common.{◌≡◌, ◌∙◌, ap, sym, refl, Bool, true, false, Option, Some, None, ◌⊎◌, inl, inr}
use Rattle.std.specs.Ordering.{is_eq, nat_cmp, int_cmp, ordering_then}
use Rattle.std.specs.declared.cmp.Ordering.{Ordering}
use Rattle.std.specs.declared.cmp.Ordering.TheVariants.{Less, Equal, Greater}
use Rattle.std.proofs.lemmas.Map.Lookups.{CmpEqualImpliesEq, exact_pairs, exact_unsigned, exact_signed}
use Rattle.flat_fold.specs.Places.{laid_order}
use Rattle.flat_fold.specs.Numbers.{Puts, place_order, PlaceKey}

pub exact_triples : {A B C : Type 0} (P : A → A → Ordering) (Q : B → B → Ordering) (R : C → C → Ordering) → CmpEqualImpliesEq P → CmpEqualImpliesEq Q → CmpEqualImpliesEq R
    → CmpEqualImpliesEq (λ (x y : A × B × C). ordering_then (ordering_then (P x.0 y.0) (Q x.1 y.1)) (R x.2 y.2))
exact_triples {A} {B} {C} P Q R p q r x y e =
    let same : ((x.0, x.1), x.2) ≡ ((y.0, y.1), y.2)
    = exact_pairs (λ (s t : A × B). ordering_then (P s.0 t.0) (Q s.1 t.1)) R (exact_pairs P Q p q) r ((x.0, x.1), x.2) ((y.0, y.1), y.2) e in
    ap (λ (t : (A × B) × C). (t.0.0, t.0.1, t.1)) same

pub laid_exact : CmpEqualImpliesEq laid_order
laid_exact = exact_pairs nat_cmp nat_cmp exact_unsigned exact_unsigned

pub place_exact : CmpEqualImpliesEq place_order
place_exact =
    let parts = exact_triples int_cmp int_cmp int_cmp exact_signed exact_signed exact_signed in
    exact_triples nat_cmp _ _ exact_unsigned parts parts

module _ {Q X : Type 0} (order : Q → Q → Ordering) (exact : CmpEqualImpliesEq order) (old new : Q → Option X) (k : Q) (x : X) where
  not_at : (q : Q) (o : Ordering) → order k q ≡ o → ¬ (order k q ≡ Equal) → is_eq o ≡ false
  not_at q Less e n = refl
  not_at q Equal e n = absurd (n e)
  not_at q Greater e n = refl

  pub puts : new k ≡ Some x → ((q : Q) → is_eq (order k q) ≡ false → new q ≡ old q) → Puts order old new k x
  puts here apart = record { here = here; apart = λ q n. apart q (not_at q (order k q) refl n) }

  pub put_apart : Puts order old new k x → (q : Q) → ¬ (q ≡ k) → new q ≡ old q
  put_apart p q n = p.apart q (λ e. n (sym (exact k q e)))

  -- a key has what it had, or is the new one
  pub put_only : Puts order old new k x → (q : Q) → (q ≡ k) ⊎ (new q ≡ old q)
  put_only p q = at (order k q) refl
    where
      at : (o : Ordering) → order k q ≡ o → (q ≡ k) ⊎ (new q ≡ old q)
      at Less e = inr (p.apart q (λ f. absurd (let no : Less ≡ Equal = sym e ∙ f in cc)))
      at Equal e = inl (sym (exact k q e))
      at Greater e = inr (p.apart q (λ f. absurd (let no : Greater ≡ Equal = sym e ∙ f in cc)))
