-- What an exchange leaves: still each half-edge comes after exactly one.
use Rattle.std.proofs.Common.{◌≡◌, ◌⊎◌, inl, inr, ℕ, ◌%◌, ◌<◌, ◌≤◌, ◌^◌, List, length, get_or, refl, sym, ap, subst, ◌∙◌, arith}
use Rattle.std.specs.List.{swap}
use Rattle.std.proofs.lemmas.List.Edits.{length-swap, swapped_from_swap, Swapped}
use Rattle.half_edges.specs.Halves.{Halves, IsArena, count, next_of}

-- each of n numbers is led to another of them, and no two to the same
pub record IsPermuted (f : ℕ → ℕ) (n : ℕ) : Type 0 where
  pub within : (h : ℕ) → h < n → f h < n
  pub one_to_one : (g h : ℕ) → g < n → h < n → f g ≡ f h → g ≡ h

pub permuted : {P : Type 0} (arena : Halves P) → IsArena arena → IsPermuted (next_of arena) (count arena)
permuted arena h = record { within = h.within; one_to_one = h.one_to_one }

same_or_not : (m n : ℕ) → (m ≡ n) ⊎ (¬ (m ≡ n))
same_or_not m n = grind arith

-- ---- an exchange

-- x takes the value that y had
abbrev Takes : ℕ → ℕ → ℕ → ℕ → Type 0
Takes a b x y = ((x ≡ a) × (y ≡ b)) ⊎ (((x ≡ b) × (y ≡ a)) ⊎ ((¬ (x ≡ a)) × (¬ (x ≡ b)) × (y ≡ x)))

takes_once : (a b x z y : ℕ) → Takes a b x y → Takes a b z y → x ≡ z
takes_once a b x z y (inl h) (inl k) = omega arith
takes_once a b x z y (inl h) (inr (inl k)) = omega arith
takes_once a b x z y (inl h) (inr (inr k)) = absurd (k.1 (omega arith))
takes_once a b x z y (inr (inl h)) (inl k) = omega arith
takes_once a b x z y (inr (inl h)) (inr (inl k)) = omega arith
takes_once a b x z y (inr (inl h)) (inr (inr k)) = absurd (k.0 (omega arith))
takes_once a b x z y (inr (inr h)) (inl k) = absurd (h.1 (omega arith))
takes_once a b x z y (inr (inr h)) (inr (inl k)) = absurd (h.0 (omega arith))
takes_once a b x z y (inr (inr h)) (inr (inr k)) = omega arith

module _ (f g : ℕ → ℕ) (n a b : ℕ) (a_in : a < n) (b_in : b < n) (s : Swapped f g a b) where
  taken : (x : ℕ) → x < n → (y : ℕ) × (y < n) × (g x ≡ f y) × Takes a b x y
  taken x l = elim (same_or_not x a) [
    | inl e ↦ (b, b_in, ap g e ∙ s.0, inl (e, refl))
    | inr at ↦ elim (same_or_not x b) [
      | inl e ↦ (a, a_in, ap g e ∙ s.1, inr (inl (e, refl)))
      | inr bt ↦ (x, l, s.2 x at bt, inr (inr (at, bt, refl)))
    ]
  ]

  permuted_exchanged : IsPermuted f n → IsPermuted g n
  permuted_exchanged h = record {
    within = λ x l. let t = taken x l in subst (λ (z : ℕ). z < n) (sym t.2) (h.within t.0 t.1);
    one_to_one = λ x z lx lz e.
        let t = taken x lx in
        let u = taken z lz in
        let same : t.0 ≡ u.0 = h.one_to_one t.0 u.0 t.1 u.1 (sym t.2 ∙ e ∙ u.2) in
        takes_once a b x z u.0 (subst (λ (y : ℕ). Takes a b x y) same t.3) u.3;
  }

pub exchanged : {P : Type 0} (payloads : List P) (nexts nexts' : List ℕ) (a b : ℕ) → a < length nexts → b < length nexts → nexts' ≡ swap nexts a b
    → IsArena (record { payloads = payloads; nexts = nexts }) → IsArena (record { payloads = payloads; nexts = nexts' })
exchanged payloads nexts nexts' a b la lb e h =
    let long : length nexts' ≡ length nexts = ap length e ∙ length-swap nexts a b in
    let p = permuted_exchanged (λ i. get_or nexts i 0) (λ i. get_or nexts' i 0) (length nexts) a b la lb
    (swapped_from_swap nexts nexts' a b 0 la lb e) (record { within = h.within; one_to_one = h.one_to_one }) in
    record {
      carried = h.carried ∙ sym long;
      in_pairs = ap (λ (n : ℕ). n % 2) long ∙ h.in_pairs;
      few = subst (λ (n : ℕ). n ≤ 2 ^ 31) (sym long) h.few;
      within = λ x l. subst (λ (n : ℕ). get_or nexts' x 0 < n) (sym long) (p.within x (subst (λ (n : ℕ). x < n) long l));
      one_to_one = λ x z lx lz. p.one_to_one x z (subst (λ (n : ℕ). x < n) long lx) (subst (λ (n : ℕ). z < n) long lz);
    }
