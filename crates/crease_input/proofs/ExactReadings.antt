-- each text has exactly one answer as an exact text over the root of 2 or of 3
use Rattle.std.proofs.Common.{◌≡◌, ◌⊎◌, inl, inr, ℕ, zero, suc, ℤ, pos, negsuc, ◌<◌, ◌≤◌, ◌<ℤ◌, List, [], ◌∷◌, refl, sym, ◌∙◌, ap, subst, Bool, true, false, Result, Ok, Err, arith}
use Rattle.std.specs.Prelude.{neg_ℤ, unsigned_abs}
use Rattle.std.specs.Ordering.{int_eq}
use Rattle.std.proofs.lemmas.Bool.{cases_Bool, cases_lt}
use Rattle.std.proofs.lemmas.Bool.Decides.{Decides-eqb, Decides-int_eq}
use Rattle.std.proofs.lemmas.Int.{ints}
use Rattle.algebra.specs.LowestTerms.{IsLowest, IsNumber, IsReduced, Parts}
use Rattle.algebra.specs.NumberField.{HoldsNumbers}
use Rattle.algebra.proofs.LowestByGcd.{reduced_once}
use Rattle.algebra.proofs.LowestForms.{reduced, reduced_is}
use Rattle.number_rules.specs.ExactText.{AreShort, ReadsExactText, exact_text_of}
use Rattle.number_rules.specs.WholeText.{most}
use Rattle.number_rules.specs.declared.unread.Unread.{Unread}
use Rattle.number_rules.specs.declared.unread.Unread.TheVariants.{ExactText}
use Rattle.crease_input.specs.Lines.{IsOfOne}
use Rattle.crease_input.proofs.OneAnswer.{head_once, tail_once}

abbrev Decided : Type 0 → Type 0
Decided P = P ⊎ ¬ P

-- ---- what can be decided

pub number_or_not : (m n : ℕ) → Decided (m ≡ n)
number_or_not m n = elim (cases_lt m n) [
  | inl less ↦ inr (λ e. omega (arith, less, e))
  | inr least ↦ elim (cases_lt n m) [
    | inl more ↦ inr (λ e. omega (arith, more, e))
    | inr most ↦ inl (omega (arith, least, most))
  ]
]

text_or_not : (s t : List ℕ) → Decided (s ≡ t)
text_or_not [] [] = inl refl
text_or_not [] (b ∷ t) = inr (λ e. cc)
text_or_not (a ∷ s) [] = inr (λ e. cc)
text_or_not (a ∷ s) (b ∷ t) = both (number_or_not a b) (text_or_not s t)
  where
    both : Decided (a ≡ b) → Decided (s ≡ t) → Decided (a ∷ s ≡ b ∷ t)
    both (inl e) (inl f) = inl (λ i. e i ∷ f i)
    both (inr other) rest = inr (λ e. other (head_once a b s t e))
    both (inl e) (inr other) = inr (λ f. other (tail_once a b s t f))

pub whole_or_not : (x y : ℤ) → Decided (x ≡ y)
whole_or_not x y = elim (cases_Bool (int_eq x y)) [
  | inl same ↦ inl ((Decides-int_eq x y).0 same)
  | inr other ↦ inr (λ e. let t : int_eq x y ≡ true = (Decides-int_eq x y).1 e in let f : true ≡ false = sym t ∙ other in cc)
]

parts_or_not : (p r : Parts) → Decided (p ≡ r)
parts_or_not p r = all (whole_or_not p.a r.a) (whole_or_not p.b r.b) (whole_or_not p.q r.q)
  where
    all : Decided (p.a ≡ r.a) → Decided (p.b ≡ r.b) → Decided (p.q ≡ r.q) → Decided (p ≡ r)
    all (inl a) (inl b) (inl q) = inl (λ i. record { a = a i; b = b i; q = q i })
    all (inr other) b q = inr (λ e. other (ap (λ (s : Parts). s.a) e))
    all (inl a) (inr other) q = inr (λ e. other (ap (λ (s : Parts). s.b) e))
    all (inl a) (inl b) (inr other) = inr (λ e. other (ap (λ (s : Parts). s.q) e))

positive_or_not : (q : ℤ) → Decided (pos 0 <ℤ q)
positive_or_not (pos zero) = inr (λ h. omega (arith, ints, h))
positive_or_not (pos (suc n)) = inl (omega (arith, ints))
positive_or_not (negsuc n) = inr (λ h. omega (arith, ints, h))

lowest_or_not : (p : Parts) → Decided (IsLowest p)
lowest_or_not p = by_sign (positive_or_not p.q)
  where
    by_form : pos 0 <ℤ p.q → Decided (p ≡ reduced p) → Decided (IsLowest p)
    by_form above (inl same) = inl (subst IsLowest (sym same) (reduced_is p above).lowest)
    by_form above (inr other) = inr (λ lowest. other
        (reduced_once p p (reduced p) above (record { lowest = lowest; same = record { rational = refl; irrational = refl } }) (reduced_is p above)))

    by_sign : Decided (pos 0 <ℤ p.q) → Decided (IsLowest p)
    by_sign (inl above) = by_form above (parts_or_not p (reduced p))
    by_sign (inr other) = inr (λ lowest. other lowest.positive)

-- ---- whole numbers up to a size

search_below : (P : ℕ → Type 0) → ((n : ℕ) → Decided (P n)) → (m : ℕ)
    → ((n : ℕ) × (n < m) × P n) ⊎ ((n : ℕ) → n < m → ¬ P n)
search_below P test zero = inr (λ n h p. omega (arith, h))
search_below P test (suc m) = at (test m) (search_below P test m)
  where
    last : (n : ℕ) → n < suc m → ¬ (n < m) → n ≡ m
    last n h j = grind arith

    at : Decided (P m) → ((n : ℕ) × (n < m) × P n) ⊎ ((n : ℕ) → n < m → ¬ P n)
        → ((n : ℕ) × (n < suc m) × P n) ⊎ ((n : ℕ) → n < suc m → ¬ P n)
    at (inl p) rest = inl (m, omega arith, p)
    at (inr refused) (inl (n, below, p)) = inl (n, omega (arith, below), p)
    at (inr refused) (inr none) = inr (λ n h p. elim (cases_lt n m) [
      | inl below ↦ none n below p
      | inr over ↦ refused (subst P (last n h (λ below. omega (arith, below, over))) p)
    ])

abbrev Within : (ℤ → Type 0) → Type 0
Within P = (z : ℤ) × (unsigned_abs z ≤ most) × P z

search_most : (P : ℤ → Type 0) → ((z : ℤ) → Decided (P z)) → (m : ℕ)
    → ((z : ℤ) × (unsigned_abs z ≤ m) × P z) ⊎ ¬ ((z : ℤ) × (unsigned_abs z ≤ m) × P z)
search_most P test m = of_sizes (search_below (λ n. P (pos n) ⊎ P (neg_ℤ (pos n))) (λ n. either n (test (pos n)) (test (neg_ℤ (pos n)))) (suc m))
  where
    either : (n : ℕ) → Decided (P (pos n)) → Decided (P (neg_ℤ (pos n))) → Decided (P (pos n) ⊎ P (neg_ℤ (pos n)))
    either n (inl p) q = inl (inl p)
    either n (inr refused) (inl q) = inl (inr q)
    either n (inr refused) (inr other) = inr (λ h. elim h [ inl p ↦ refused p | inr q ↦ other q ])

    size : (n : ℕ) → unsigned_abs (neg_ℤ (pos n)) ≡ n
    size zero = refl
    size (suc n) = refl

    none_of : ((n : ℕ) → n < suc m → ¬ (P (pos n) ⊎ P (neg_ℤ (pos n)))) → (z : ℤ) → unsigned_abs z ≤ m → ¬ P z
    none_of none (pos n) h p = let small : n ≤ m = h in none n (omega (arith, small)) (inl p)
    none_of none (negsuc n) h p = let small : suc n ≤ m = h in none (suc n) (omega (arith, small)) (inr p)

    of_sizes : ((n : ℕ) × (n < suc m) × (P (pos n) ⊎ P (neg_ℤ (pos n)))) ⊎ ((n : ℕ) → n < suc m → ¬ (P (pos n) ⊎ P (neg_ℤ (pos n))))
        → ((z : ℤ) × (unsigned_abs z ≤ m) × P z) ⊎ ¬ ((z : ℤ) × (unsigned_abs z ≤ m) × P z)
    of_sizes (inl (n, h, inl p)) = let small : n ≤ m = omega (arith, h) in inl (pos n, small, p)
    of_sizes (inl (n, h, inr p)) =
        let small : n ≤ m = omega (arith, h) in inl (neg_ℤ (pos n), subst (λ k. k ≤ m) (sym (size n)) small, p)
    of_sizes (inr none) = inr (λ s. none_of none s.0 s.1 s.2)

search_whole : (P : ℤ → Type 0) → ((z : ℤ) → Decided (P z)) → Decided (Within P)
search_whole P test = search_most P test most

-- ---- the answer

module _ {N : Type 0} (k : ℕ) (parts : N → Parts) (holds : HoldsNumbers k parts) where
  abbrev Spells : List ℕ → ℤ → ℤ → ℤ → Type 0
  Spells text a b q = let p : Parts = record { a = a; b = b; q = q } in IsLowest p × (text ≡ exact_text_of k p)

  spells_or_not : (text : List ℕ) (a b q : ℤ) → Decided (Spells text a b q)
  spells_or_not text a b q =
      let p : Parts = record { a = a; b = b; q = q } in both (lowest_or_not p) (text_or_not text (exact_text_of k p))
    where
      both : let p : Parts = record { a = a; b = b; q = q } in Decided (IsLowest p) → Decided (text ≡ exact_text_of k p)
          → Decided (Spells text a b q)
      both (inl l) (inl e) = inl (l, e)
      both (inr other) e = inr (λ s. other s.0)
      both (inl l) (inr other) = inr (λ s. other s.1)

  pub some_exact : ¬ (k ≡ 1) → (text : List ℕ) → (r : Result N Unread) × ReadsExactText k parts text r
  some_exact over text =
      found (search_whole (λ a. Within (λ b. Within (Spells text a b)))
      (λ a. search_whole (λ b. Within (Spells text a b)) (λ b. search_whole (Spells text a b) (spells_or_not text a b))))
    where
      found : Decided (Within (λ a. Within (λ b. Within (Spells text a b)))) → (r : Result N Unread) × ReadsExactText k parts text r
      found (inl (a, a_short, (b, b_short, (q, q_short, (lowest, spells))))) =
          let p : Parts = record { a = a; b = b; q = q } in
          let is : IsNumber k p = record { lowest = lowest; rational = λ e. absurd (over e) } in
          let x = holds.make p is in
          let same : parts x ≡ p = holds.parts_make p is in
          (Ok x, (spells ∙ ap (exact_text_of k) (sym same), subst AreShort (sym same) (record { a = a_short; b = b_short; q = q_short })))
      found (inr none) = (
        Err ExactText,
        (refl, (λ p lowest short e. none (p.a, short.a, (p.b, short.b, (p.q, short.q, (lowest, e)))))),
      )

  pub exact_once : ((x : N) (r : Result N Unread) → AreShort (parts x) → ReadsExactText k parts (exact_text_of k (parts x)) r → r ≡ Ok x)
      → IsOfOne (ReadsExactText k parts)
  exact_once back text (Ok x) s is has = sym (back x s is.1 (subst (λ t. ReadsExactText k parts t s) is.0 has))
  exact_once back text (Err c) (Ok y) is has = back y (Err c) has.1 (subst (λ t. ReadsExactText k parts t (Err c)) has.0 is)
  exact_once back text (Err c) (Err d) is has = ap Err (is.0 ∙ sym has.0)
