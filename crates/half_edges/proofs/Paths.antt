-- Going on from half-edge to half-edge leads back to the first, before any other stands twice.
use Rattle.std.proofs.Common.{◌≡◌, ◌⊎◌, inl, inr, ℕ, zero, suc, ◌+◌, ◌-◌, ◌<◌, ◌≤◌, List, [], ◌∷◌, ◌++◌, length, get_or, eqb, true, false, refl, sym, ap, subst, ◌∙◌, arith}
use Rattle.std.specs.Prelude.{AllPairs, All}
use Rattle.std.proofs.lemmas.List.{length-append, get_or_append_left, get_or_push, get_or_default}
use Rattle.std.proofs.lemmas.List.Quantifiers.{all_pairs_push}
use Rattle.std.proofs.lemmas.List.Elements.{All-push}
use Rattle.std.proofs.lemmas.List.Folds.{Any-from_list_any}
use Rattle.std.proofs.lemmas.Bool.Decides.{eqb_tells}
use Rattle.std.proofs.lemmas.Map.Keys.{IsDistinct-from_apart}
use Rattle.std.proofs.lemmas.Map.Steps.{length-le_from_distinct_below}
use Rattle.half_edges.specs.Halves.{Halves, next_of}
use Rattle.half_edges.specs.Cycles.{IsCycle}
use Rattle.half_edges.proofs.Changes.{IsPermuted}

eqb_apart : (a b : ℕ) → ¬ (a ≡ b) → eqb a b ≡ false
eqb_apart a b n = elim (eqb_tells a b) [ inl h ↦ absurd (n h.1) | inr h ↦ h.0 ]

eqb_same : (a b : ℕ) → eqb a b ≡ true → a ≡ b
eqb_same a b e = elim (eqb_tells a b) [ inl h ↦ h.1 | inr h ↦ absurd (let no : true ≡ false = sym e ∙ h.0 in cc) ]

-- numbers below n of which none stands twice are at most n
pub few_apart : (xs : List ℕ) (n : ℕ) → AllPairs (λ g h. ¬ (g ≡ h)) xs → All (λ g. g < n) xs → length xs ≤ n
few_apart xs n once below =
    length-le_from_distinct_below xs n
    (IsDistinct-from_apart eqb xs (λ i j d l m. eqb_apart (get_or xs i d) (get_or xs j d) (once i j d l m)))
    (λ q e. let any = Any-from_list_any (eqb q) xs e in
    let here : q ≡ any.1 = eqb_same q any.1 any.4 in
    subst (λ (t : ℕ). t < n) (any.3 ∙ sym here) (below any.0 any.1 any.2))

module _ (next : ℕ → ℕ) (n h : ℕ) where
  -- half-edges from h on, each once, of which the last leads to `at`
  pub record Path (path : List ℕ) (at : ℕ) : Type 0 where
    pub some : 0 < length path
    pub first : get_or path 0 0 ≡ h
    pub each : (k : ℕ) → k + 1 < length path → get_or path (k + 1) 0 ≡ next (get_or path k 0)
    pub last : at ≡ next (get_or path (length path - 1) 0)
    pub once : AllPairs (λ g h. ¬ (g ≡ h)) path
    pub below : All (λ g. g < n) path

  pub begun : h < n → Path (h ∷ []) (next h)
  begun l = record {
    some = omega arith;
    first = refl;
    each = λ k m. absurd (omega (arith, m));
    last = refl;
    once = λ i j d a b. absurd (omega (arith, a, b));
    below = λ k d m. one k d m;
  }
    where
      one : (k d : ℕ) → k < length (h ∷ []) → get_or (h ∷ []) k d < n
      one zero d m = l
      one (suc k) d m = absurd (omega (arith, m))

  module _ (p : IsPermuted next n) (path : List ℕ) (at : ℕ) (before : Path path at) (open' : ¬ (at ≡ h)) where
    at_below : at < n
    at_below = subst (λ (t : ℕ). t < n) (sym before.last) (p.within (get_or path (length path - 1) 0) (before.below (length path - 1) 0 (let s = before.some in omega arith)))

    new_by : (k : ℕ) → k < length path → ¬ (get_or path k 0 ≡ at)
    new_by zero l e = open' (sym e ∙ before.first)
    new_by (suc k) l e =
        let s = before.some in
        let in_path : k + 1 < length path = omega arith in
        let here : get_or path (suc k) 0 ≡ next (get_or path k 0)
        = subst (λ (i : ℕ). get_or path i 0 ≡ next (get_or path k 0)) (omega arith) (before.each k in_path) in
        let last_in : length path - 1 < length path = omega arith in
        let same : get_or path k 0 ≡ get_or path (length path - 1) 0
        = p.one_to_one (get_or path k 0) (get_or path (length path - 1) 0) (before.below k 0 (omega arith)) (before.below (length path - 1) 0 last_in)
        (sym here ∙ e ∙ before.last) in
        before.once k (length path - 1) 0 (omega arith) last_in same

    new : (k d : ℕ) → k < length path → ¬ (get_or path k d ≡ at)
    new k d l e = new_by k l (get_or_default path k 0 d l ∙ e)

    longer : length (path ++ at ∷ []) ≡ length path + 1
    longer = length-append path (at ∷ [])

    step : (k : ℕ) → (k + 1 < length path) ⊎ (k + 1 ≡ length path) → get_or (path ++ at ∷ []) (k + 1) 0 ≡ next (get_or (path ++ at ∷ []) k 0)
    step k (inl l) =
        get_or_append_left path (at ∷ []) 0 (k + 1) l ∙ before.each k l
        ∙ ap next (sym (get_or_append_left path (at ∷ []) 0 k (omega (arith, l))))
    step k (inr e) =
        let here : k ≡ length path - 1 = omega arith in
        get_or_push path at 0 (k + 1) (sym e) ∙ before.last ∙ ap (λ (i : ℕ). next (get_or path i 0)) (sym here)
        ∙ ap next (sym (get_or_append_left path (at ∷ []) 0 k (omega (arith, e))))

    final : get_or (path ++ at ∷ []) (length (path ++ at ∷ []) - 1) 0 ≡ at
    final = get_or_push path at 0 (length (path ++ at ∷ []) - 1) (omega (arith, longer))

    pub more : Path (path ++ at ∷ []) (next at)
    more = record {
      some = omega (arith, longer);
      first = get_or_append_left path (at ∷ []) 0 0 before.some ∙ before.first;
      each = λ k l. step k (let m : k + 1 < length path + 1 = omega (arith, l, longer) in grind arith);
      last = ap next (sym final);
      once = all_pairs_push (λ g h. ¬ (g ≡ h)) path at before.once new;
      below = All-push (λ g. g < n) path at before.below at_below;
    }

    pub shorter : length path < n
    shorter = let m = few_apart (path ++ at ∷ []) n more.once more.below in omega (arith, m, longer)

pub closed : {P : Type 0} (arena : Halves P) (n h : ℕ) (path : List ℕ) (at : ℕ) → Path (next_of arena) n h path at → at ≡ h → IsCycle arena h path
closed arena n h path at p e = record {
  some = p.some;
  first = p.first;
  each = p.each;
  back = sym p.last ∙ e;
  once = p.once;
}
