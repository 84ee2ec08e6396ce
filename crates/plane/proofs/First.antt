-- Among neighbours of which no two lead the same way, one comes first clockwise from a direction that none leads in.
use mathlib.Core.Path.{◌≡◌, refl, sym, ap, subst, ◌∙◌}
use mathlib.Core.List.{[], ◌∷◌}
use Prim.Native.Nat.{ℕ, zero, suc}
use Rattle.std.proofs.Common.{inl, inr, arith}
use Rattle.std.specs.Prelude.{◌⊎◌, List}
use Rattle.std.specs.Ordering.{ordering_reverse}
use Rattle.std.specs.declared.cmp.Ordering.{Ordering}
use Rattle.std.specs.declared.cmp.Ordering.TheVariants.{Less, Equal, Greater}
use Rattle.algebra.specs.OrderedRing.{OrderedRing}
use Rattle.algebra.proofs.Solvers.{reads, ring, sign_neg}
use Rattle.plane.specs.Directions.{Direction, turn, IsClockwise, Differ, along}
use Rattle.plane.proofs.Around.{clockwise_either}
use Rattle.plane.proofs.Turning.{clockwise_chain}

pub same_or_not : (m n : ℕ) → (m ≡ n) ⊎ (¬ (m ≡ n))
same_or_not zero zero = inl refl
same_or_not zero (suc n) = inr (λ e. omega (arith, e))
same_or_not (suc m) zero = inr (λ e. omega (arith, e))
same_or_not (suc m) (suc n) = elim (same_or_not m n) [ inl e ↦ inl (ap suc e) | inr h ↦ inr (λ e. h (omega (arith, e))) ]

-- y is one of these
abbrev pub IsOne : ℕ → List ℕ → Type 0
IsOne y [] = ⊥
IsOne y (x ∷ rest) = (y ≡ x) ⊎ IsOne y rest

module _ {A : Type 0} (K : OrderedRing A) where
  level_back : (o : Ordering) → ordering_reverse o ≡ Equal → o ≡ Equal
  level_back Less e = absurd (cc)
  level_back Equal e = refl
  level_back Greater e = absurd (cc)

  differ_back : (d e : Direction A) → Differ K d e → Differ K e d
  differ_back d e h level =
      let turned : K.sign (turn K.ops e d) ≡ ordering_reverse (K.sign (turn K.ops d e)) = ap K.sign (ring K (d.x ∷ d.y ∷ e.x ∷ e.y ∷ []) (search reads depth 40 fits 50000) (search reads depth 40 fits 50000) tt) ∙ sign_neg K (turn K.ops d e) in
      let swapped : along K.ops e d ≡ along K.ops d e = ring K (d.x ∷ d.y ∷ e.x ∷ e.y ∷ []) (search reads depth 40 fits 50000) (search reads depth 40 fits 50000) tt in
      ap K.sign swapped ∙ h (level_back (K.sign (turn K.ops d e)) (sym turned ∙ level))

  module _ (d : Direction A) (ways : ℕ → Direction A) (P : ℕ → Type 0) (from_d : (x : ℕ) → P x → Differ K d (ways x))
      (apart : (x y : ℕ) → P x → P y → ¬ (x ≡ y) → Differ K (ways x) (ways y)) where
    -- w is one of these, and comes before every other
    pub record ComesFirst (w : ℕ) (xs : List ℕ) : Type 0 where
      pub one : IsOne w xs
      pub has : P w
      pub before : (y : ℕ) → IsOne y xs → ¬ (y ≡ w) → IsClockwise K d (ways w) (ways y)

    alone : (x : ℕ) → P x → ComesFirst x (x ∷ [])
    alone x h = record { one = inl refl; has = h; before = λ y one n. elim one [ inl e ↦ absurd (n e) | inr nowhere ↦ absurd nowhere ] }

    kept : (x w : ℕ) (rest : List ℕ) → ComesFirst w rest → IsClockwise K d (ways w) (ways x) → ComesFirst w (x ∷ rest)
    kept x w rest h k = record {
      one = inr h.one;
      has = h.has;
      before = λ y one n. elim one [ inl e ↦ subst (λ (z : ℕ). IsClockwise K d (ways w) (ways z)) (sym e) k | inr later ↦ h.before y later n ];
    }

    taken : (x w : ℕ) (rest : List ℕ) → P x → ComesFirst w rest → IsClockwise K d (ways x) (ways w) → ComesFirst x (x ∷ rest)
    taken x w rest p h k = record {
      one = inl refl;
      has = p;
      before = λ y one n. elim one [
        | inl e ↦ absurd (n e)
        | inr later ↦ elim (same_or_not y w) [
          | inl e ↦ subst (λ (z : ℕ). IsClockwise K d (ways x) (ways z)) (sym e) k
          | inr other ↦ clockwise_chain K d (ways x) (ways w) (ways y) k (h.before y later other)
        ]
      ];
    }

    again : (x w : ℕ) (rest : List ℕ) → x ≡ w → ComesFirst w rest → ComesFirst w (x ∷ rest)
    again x w rest e h = record {
      one = inr h.one;
      has = h.has;
      before = λ y one n. elim one [ inl f ↦ absurd (n (f ∙ e)) | inr later ↦ h.before y later n ];
    }

    one_more : (x w : ℕ) (rest : List ℕ) → P x → ComesFirst w rest → (v : ℕ) × ComesFirst v (x ∷ rest)
    one_more x w rest p h =
        elim (same_or_not x w) [
          | inl e ↦ (w, again x w rest e h)
          | inr n ↦ elim (clockwise_either K d (ways w) (ways x) (from_d w h.has) (apart w x h.has p (λ e. n (sym e))) (differ_back d (ways x) (from_d x p))) [
            | inl k ↦ (w, kept x w rest h k)
            | inr k ↦ (x, taken x w rest p h k)
          ]
        ]

    pub some_first : (x : ℕ) (rest : List ℕ) → ((y : ℕ) → IsOne y (x ∷ rest) → P y) → (w : ℕ) × ComesFirst w (x ∷ rest)
    some_first x [] all = (x, alone x (all x (inl refl)))
    some_first x (z ∷ rest) all =
        let later = some_first z rest (λ y one. all y (inr one)) in
        one_more x later.0 (z ∷ rest) (all x (inl refl)) later.1
