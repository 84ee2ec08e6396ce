-- By a row of the table each text is read in one way, and there is one.
use Rattle.std.proofs.Common.{◌≡◌, ◌∙◌, refl, sym, ap, subst, ℕ, ℤ, pos, negsuc, zero, suc, ◌+◌, ◌*◌, ◌^◌, ◌<◌, ◌≤◌, ◌+ℤ◌, ◌-ℤ◌, ◌*ℤ◌, ◌<ℤ◌, ◌⊎◌, inl, inr, arith, Bool, true, false, IsTrue, List, Result, Ok, Err}
use Rattle.std.specs.Prelude.{IsFalse, Option, Some, None, neg_ℤ, unsigned_abs}
use Rattle.std.specs.Ordering.{is_ge, is_le}
use Rattle.std.proofs.lemmas.Bool.{cases_lt, cases_Bool}
use Rattle.std.proofs.lemmas.Int.{ints}
use Rattle.algebra.specs.LowestTerms.{Parts, IsReduced, IsNumber}
use Rattle.algebra.specs.NumberField.{HoldsNumbers}
use Rattle.algebra.specs.Surd.{IsNonsquare}
use Rattle.algebra.proofs.LowestByGcd.{reduced_once}
use Rattle.algebra.proofs.LowestForms.{reduced, reduced_is}
use Rattle.algebra.proofs.NumberParts.{reduced_rational}
use Rattle.algebra.proofs.Numbers.{number_once}
use Rattle.algebra.proofs.Surds.{two_nonsquare, three_nonsquare}
use Rattle.number_rules.specs.OneReading.{IsRow, ReadsText}
use Rattle.number_rules.specs.Rounded.{IsRounded, steps_of_one}
use Rattle.number_rules.specs.Rows.{IsPast, IsNear, IsFirst, ComesBefore, Reads, decimal_parts, sign_over}
use Rattle.number_rules.specs.Search.{IsFractionOfRoot, StandsAt, StandsAtSize, StandsFirst, multiple_of, start}
use Rattle.number_rules.specs.declared.decimal.Decimal.{Decimal}
use Rattle.number_rules.specs.declared.unread.Unread.{Unread}
use Rattle.number_rules.specs.declared.unread.Unread.TheVariants.{Far, Fine, NoRoot, ExactText}
use Rattle.number_rules.specs.declared.unread.Row.{Row}
use Rattle.number_rules.specs.declared.unread.Row.TheVariants.{Exact, Grid, Root}
use Rattle.number_rules.proofs.Exponents.{rounded_once}
use Rattle.number_rules.proofs.OneA.{one_a}
use Rattle.number_rules.proofs.OneDecimal.{some_rounded, decimal_once, some_decimal, divided}
use Rattle.number_rules.proofs.RootSearch.{only, stands_up, stands_down, first_here, none_here}

positive : (n : ℕ) → 0 < n → pos 0 <ℤ pos n
positive n h = omega (arith, ints, h)

not_both : {b : Bool} → IsTrue b → IsFalse b → ⊥
not_both t f = let e : true ≡ false = sym t ∙ f in cc

-- ---- the first b is one

earlier : (b c : ℤ) → (b ≡ c) ⊎ (ComesBefore b c ⊎ ComesBefore c b)
earlier b c = elim (cases_lt (unsigned_abs b) (unsigned_abs c)) [
  | inl less ↦ inr (inl (inl less))
  | inr from ↦ elim (cases_lt (unsigned_abs c) (unsigned_abs b)) [
    | inl less ↦ inr (inr (inl less))
    | inr to ↦ alike b c (omega (arith, from, to))
  ]
]
  where
    alike : (b c : ℤ) → unsigned_abs b ≡ unsigned_abs c → (b ≡ c) ⊎ (ComesBefore b c ⊎ ComesBefore c b)
    alike (pos b) (pos c) e = inl (ap pos e)
    alike (negsuc b) (negsuc c) e = inl (omega (arith, ints, e))
    alike (pos b) (negsuc c) e = inr (inl (inr (omega (arith, ints, e), omega (arith, ints, e))))
    alike (negsuc b) (pos c) e = inr (inr (inr (omega (arith, ints, e), omega (arith, ints, e))))

first_once : (k n : ℕ) (near a b c d : ℤ) → IsFirst k n near a b → IsFirst k n near c d → b ≡ d
first_once k n near a b c d is has = elim (earlier b d) [
  | inl same ↦ same
  | inr (inl before) ↦ absurd (has.none_before b a before is.near_enough)
  | inr (inr before) ↦ absurd (is.none_before d c before has.near_enough)
]

-- ---- where one stands

-- √2 and √3, in steps
fraction_of : (k : ℕ) → (k ≡ 2) ⊎ (k ≡ 3) → (fraction : ℕ) × IsFractionOfRoot k fraction
fraction_of k (inl e) = subst (λ (m : ℕ). (fraction : ℕ) × IsFractionOfRoot m fraction) (sym e) (414213562373095048, two)
  where
    two : IsFractionOfRoot 2 414213562373095048
    two = record { within = omega arith; not_above = refl; not_below = refl }
fraction_of k (inr e) = subst (λ (m : ℕ). (fraction : ℕ) × IsFractionOfRoot m fraction) (sym e) (732050807568877293, three)
  where
    three : IsFractionOfRoot 3 732050807568877293
    three = record { within = omega arith; not_above = refl; not_below = refl }

nonsquare_of : (k : ℕ) → (k ≡ 2) ⊎ (k ≡ 3) → IsNonsquare k
nonsquare_of k (inl e) = subst IsNonsquare (sym e) two_nonsquare
nonsquare_of k (inr e) = subst IsNonsquare (sym e) three_nonsquare

near_or_not : (k n : ℕ) (near a b : ℤ) → IsNear k n near a b ⊎ ¬ IsNear k n near a b
near_or_not k n near a b =
    elim (cases_Bool (is_ge (sign_over k ((a *ℤ pos steps_of_one -ℤ pos n *ℤ near) +ℤ pos (n * 10 ^ 11)) (b *ℤ pos steps_of_one)))) [
      | inr fails ↦ inr (λ is. not_both is.not_below fails)
      | inl low ↦ elim (cases_Bool (is_le (sign_over k ((a *ℤ pos steps_of_one -ℤ pos n *ℤ near) -ℤ pos (n * 10 ^ 11)) (b *ℤ pos steps_of_one)))) [
        | inr fails ↦ inr (λ is. not_both is.not_above fails)
        | inl high ↦ inl (record { not_below = low; not_above = high })
      ]
    ]

module _ {N : Type 0} (k : ℕ) (parts : N → Parts) (holds : HoldsNumbers k parts) where
  -- each three parts are those of a number, in lowest terms
  number_of : (p : Parts) → pos 0 <ℤ p.q → (k ≡ 1 → p.b ≡ pos 0) → (x : N) × IsReduced p (parts x)
  number_of p above rational =
      let is : IsReduced p (reduced p) = reduced_is p above in
      let number : IsNumber k (reduced p) = record { lowest = is.lowest; rational = λ one. reduced_rational p (reduced p) above is.same (rational one) } in
      (holds.make (reduced p) number, subst (IsReduced p) (sym (holds.parts_make (reduced p) number)) is)

  -- ---- the search

  module _ (n : ℕ) (near : ℤ) (above : 0 < n) (most : n ≤ 1000000) (root : (k ≡ 2) ⊎ (k ≡ 3)) where
    not_one : k ≡ 1 → ⊥
    not_one e = elim root [ inl two ↦ omega (arith, e, two) | inr three ↦ omega (arith, e, three) ]

    at_b : (b : ℤ) → unsigned_abs b ≤ 1024 → (r : Option N) × StandsAt k n near parts b r
    at_b b small =
        let (fraction, f) = fraction_of k root in
        let (c, rest, e, below) = divided (start n near -ℤ multiple_of fraction b) steps_of_one (omega arith) in
        elim (near_or_not k n near c b) [
          | inl is ↦ (let x = number_of (record { a = c; b = b; q = pos n }) (positive n above) (λ one. absurd (not_one one)) in (Some x.0, (c, is, x.1)))
          | inr far ↦ (None, λ a is. far (subst (λ (t : ℤ). IsNear k n near t b) (only k (nonsquare_of k root) fraction f n near a b c rest most small is e below).0 is))
        ]

    at_size : (size : ℕ) → size ≤ 1024 → (r : Option N) × StandsAtSize k n near parts size r
    at_size size small = of_up (at_b (pos size) small)
      where
        of_up : (r : Option N) × StandsAt k n near parts (pos size) r → (r : Option N) × StandsAtSize k n near parts size r
        of_up (Some x, is) = (Some x, stands_up k n near parts size x is)
        of_up (None, none) =
            let down = at_b (neg_ℤ (pos size)) (omega (arith, ints, small)) in
            (down.0, stands_down k n near parts size down.0 none down.1)

    from_size : (more size : ℕ) → size + more ≡ 1025 → ((c a : ℤ) → unsigned_abs c < size → ¬ IsNear k n near a c) → (r : Option N) × StandsFirst k n near parts r
    from_size zero size e none = (None, λ a b small. none b a (omega (arith, e, small)))
    from_size (suc more) size e none = of_size (at_size size (omega (arith, e))) (λ here. from_size more (size + 1) (omega (arith, e)) (none_here k n near parts size none here))
      where
        of_size : (r : Option N) × StandsAtSize k n near parts size r → (StandsAtSize k n near parts size None → (r : Option N) × StandsFirst k n near parts r) → (r : Option N) × StandsFirst k n near parts r
        of_size (Some x, is) further = (Some x, first_here k n near parts size x none (omega (arith, e)) is)
        of_size (None, here) further = further here

    first : (r : Option N) × StandsFirst k n near parts r
    first = from_size 1025 0 refl (λ c a less. absurd (omega (arith, less)))

  -- ---- one answer

  ok_once : (p : Parts) (x y : N) → pos 0 <ℤ p.q → IsReduced p (parts x) → IsReduced p (parts y) → ◌≡◌ {A = Result N Unread} (Ok x) (Ok y)
  ok_once p x y above is has = ap (λ (z : N). Ok z) (number_once k parts p x y holds above is has)

  -- a number that is within bounds isn't past them
  too_large : (d : Decimal) (p q : Parts) → IsReduced (decimal_parts d) p → IsReduced (decimal_parts d) q → unsigned_abs p.a ≤ 2 ^ 62 → ¬ (2 ^ 62 < unsigned_abs q.a)
  too_large d p q is has small large =
      let same : p ≡ q = reduced_once (decimal_parts d) p q (omega (arith, ints)) is has in
      let also : 2 ^ 62 < unsigned_abs p.a = subst (λ (t : Parts). 2 ^ 62 < unsigned_abs t.a) (sym same) large in
      omega (arith, small, also)

  exact_once : (d : Decimal) (r s : Result N Unread) → Reads k parts Exact d r → Reads k parts Exact d s → r ≡ s
  exact_once d (Ok x) (Ok y) is has = ok_once (decimal_parts d) x y (omega (arith, ints)) is.2 has.2
  exact_once d (Ok x) (Err Far) is (inl far) = absurd (not_both far is.0)
  exact_once d (Ok x) (Err Far) is (inr large) = absurd (too_large d (parts x) large.1.0 is.2 large.1.1 is.3 large.1.2)
  exact_once d (Ok x) (Err Fine) is has = absurd (not_both is.1 has.1)
  exact_once d (Err Far) (Ok y) (inl far) has = absurd (not_both far has.0)
  exact_once d (Err Far) (Ok y) (inr large) has = absurd (too_large d (parts y) large.1.0 has.2 large.1.1 has.3 large.1.2)
  exact_once d (Err Fine) (Ok y) is has = absurd (not_both has.1 is.1)
  exact_once d (Err Far) (Err Far) is has = refl
  exact_once d (Err Fine) (Err Fine) is has = refl
  exact_once d (Err Far) (Err Fine) (inl far) has = absurd (not_both far has.0)
  exact_once d (Err Far) (Err Fine) (inr large) has = absurd (not_both large.0 has.1)
  exact_once d (Err Fine) (Err Far) is (inl far) = absurd (not_both far is.0)
  exact_once d (Err Fine) (Err Far) is (inr large) = absurd (not_both large.0 is.1)
  exact_once d (Err NoRoot) s is has = absurd is
  exact_once d (Err ExactText) s is has = absurd is
  exact_once d (Ok x) (Err NoRoot) is has = absurd has
  exact_once d (Ok x) (Err ExactText) is has = absurd has
  exact_once d (Err Far) (Err NoRoot) is has = absurd has
  exact_once d (Err Far) (Err ExactText) is has = absurd has
  exact_once d (Err Fine) (Err NoRoot) is has = absurd has
  exact_once d (Err Fine) (Err ExactText) is has = absurd has

  grid_once : (n : ℕ) (d : Decimal) (r s : Result N Unread) → 0 < n → Reads k parts (Grid n) d r → Reads k parts (Grid n) d s → r ≡ s
  grid_once n d (Ok x) (Ok y) above is has =
      let same : has.1.0 ≡ is.1.0 = rounded_once (pos n *ℤ d.near) steps_of_one has.1.0 is.1.0 has.1.1 is.1.1 in
      ok_once (record { a = is.1.0; b = pos 0; q = pos n }) x y (positive n above) is.1.2 (subst (λ (m : ℤ). IsReduced (record { a = m; b = pos 0; q = pos n }) (parts y)) same has.1.2)
  grid_once n d (Ok x) (Err Far) above is has = absurd (is.0 has)
  grid_once n d (Err Far) (Ok y) above is has = absurd (has.0 is)
  grid_once n d (Err Far) (Err Far) above is has = refl
  grid_once n d (Err Fine) s above is has = absurd is
  grid_once n d (Err NoRoot) s above is has = absurd is
  grid_once n d (Err ExactText) s above is has = absurd is
  grid_once n d (Ok x) (Err Fine) above is has = absurd has
  grid_once n d (Ok x) (Err NoRoot) above is has = absurd has
  grid_once n d (Ok x) (Err ExactText) above is has = absurd has
  grid_once n d (Err Far) (Err Fine) above is has = absurd has
  grid_once n d (Err Far) (Err NoRoot) above is has = absurd has
  grid_once n d (Err Far) (Err ExactText) above is has = absurd has

  root_once : (n : ℕ) (d : Decimal) (r s : Result N Unread) → 0 < n → n ≤ 1000000 → IsNonsquare k → Reads k parts (Root n) d r → Reads k parts (Root n) d s → r ≡ s
  root_once n d (Ok x) (Ok y) above most root (past, (a, b, is, lowest)) (also_past, (c, e, has, also_lowest)) =
      let same_b : b ≡ e = first_once k n d.near a b c e is has in
      let same_a : a ≡ c = one_a k n root most d.near a c b is.near_enough (subst (IsNear k n d.near c) (sym same_b) has.near_enough) in
      ok_once (record { a = a; b = b; q = pos n }) x y (positive n above) lowest
      (subst (λ (t : ℤ). IsReduced (record { a = t; b = b; q = pos n }) (parts y)) (sym same_a)
      (subst (λ (t : ℤ). IsReduced (record { a = c; b = t; q = pos n }) (parts y)) (sym same_b) also_lowest))
  root_once n d (Ok x) (Err Far) above most root is has = absurd (is.0 has)
  root_once n d (Ok x) (Err NoRoot) above most root (past, (a, b, is, lowest)) has = absurd (has.1 a b is.within is.near_enough)
  root_once n d (Err Far) (Ok y) above most root is has = absurd (has.0 is)
  root_once n d (Err NoRoot) (Ok y) above most root is (past, (a, b, has, lowest)) = absurd (is.1 a b has.within has.near_enough)
  root_once n d (Err Far) (Err Far) above most root is has = refl
  root_once n d (Err NoRoot) (Err NoRoot) above most root is has = refl
  root_once n d (Err Far) (Err NoRoot) above most root is has = absurd (has.0 is)
  root_once n d (Err NoRoot) (Err Far) above most root is has = absurd (is.0 has)
  root_once n d (Err Fine) s above most root is has = absurd is
  root_once n d (Err ExactText) s above most root is has = absurd is
  root_once n d (Ok x) (Err Fine) above most root is has = absurd has
  root_once n d (Ok x) (Err ExactText) above most root is has = absurd has
  root_once n d (Err Far) (Err Fine) above most root is has = absurd has
  root_once n d (Err Far) (Err ExactText) above most root is has = absurd has
  root_once n d (Err NoRoot) (Err Fine) above most root is has = absurd has
  root_once n d (Err NoRoot) (Err ExactText) above most root is has = absurd has

  reads_once : (row : Row) (d : Decimal) (r s : Result N Unread) → IsRow k row → Reads k parts row d r → Reads k parts row d s → r ≡ s
  reads_once Exact d r s row is has = exact_once d r s is has
  reads_once (Grid n) d r s row is has = grid_once n d r s row.above_zero is has
  reads_once (Root n) d r s row is has = root_once n d r s row.above_zero row.at_most_a_million (nonsquare_of k row.numbers) is has

  pub text_once : (row : Row) → IsRow k row → (text : List ℕ) (r s : Result N Unread) → ReadsText k parts row text r → ReadsText k parts row text s → r ≡ s
  text_once row fits text r s is has =
      reads_once row is.0 r s fits is.1.1 (subst (λ (d : Decimal). Reads k parts row d s) (decimal_once text has.0 is.0 has.1.0 is.1.0) has.1.1)

  -- ---- there is one

  past_or_not : (d : Decimal) → IsPast d ⊎ ¬ IsPast d
  past_or_not d = elim (cases_Bool d.far) [
    | inl far ↦ inl (inl far)
    | inr near ↦ elim (cases_lt (2 ^ 30 * steps_of_one) (unsigned_abs d.near)) [
      | inl large ↦ inl (inr large)
      | inr small ↦ inr (λ past. elim past [ inl far ↦ not_both far near | inr large ↦ omega (arith, small, large) ])
    ]
  ]

  some_exact : (d : Decimal) → (r : Result N Unread) × Reads k parts Exact d r
  some_exact d = elim (cases_Bool d.far) [
    | inl far ↦ (Err Far, inl far)
    | inr near ↦ elim (cases_Bool d.exact) [
      | inr rounded ↦ (Err Fine, (near, rounded))
      | inl exact ↦ of_number near exact (number_of (decimal_parts d) (omega (arith, ints)) (λ one. refl))
    ]
  ]
    where
      of_number : IsFalse d.far → IsTrue d.exact → (x : N) × IsReduced (decimal_parts d) (parts x) → (r : Result N Unread) × Reads k parts Exact d r
      of_number near exact x = elim (cases_lt (2 ^ 62) (unsigned_abs (parts x.0).a)) [
        | inl large ↦ (Err Far, inr (exact, (parts x.0, x.1, large)))
        | inr small ↦ (Ok x.0, (near, exact, x.1, small))
      ]

  some_grid : (n : ℕ) (d : Decimal) → 0 < n → (r : Result N Unread) × Reads k parts (Grid n) d r
  some_grid n d above = elim (past_or_not d) [
    | inl past ↦ (Err Far, past)
    | inr near ↦ of_rounded near (some_rounded (pos n *ℤ d.near) steps_of_one (omega arith))
  ]
    where
      of_rounded : ¬ IsPast d → (m : ℤ) × IsRounded (pos n *ℤ d.near) steps_of_one m → (r : Result N Unread) × Reads k parts (Grid n) d r
      of_rounded near m =
          let x = number_of (record { a = m.0; b = pos 0; q = pos n }) (positive n above) (λ one. refl) in
          (Ok x.0, (near, (m.0, m.1, x.1)))

  some_root : (n : ℕ) (d : Decimal) → 0 < n → n ≤ 1000000 → (k ≡ 2) ⊎ (k ≡ 3) → (r : Result N Unread) × Reads k parts (Root n) d r
  some_root n d above most root = elim (past_or_not d) [
    | inl past ↦ (Err Far, past)
    | inr near ↦ of_first near (first n d.near above most root)
  ]
    where
      of_first : ¬ IsPast d → (r : Option N) × StandsFirst k n d.near parts r → (r : Result N Unread) × Reads k parts (Root n) d r
      of_first near (Some x, is) = (Ok x, (near, is))
      of_first near (None, none) = (Err NoRoot, (near, none))

  some_reading : (row : Row) (d : Decimal) → IsRow k row → (r : Result N Unread) × Reads k parts row d r
  some_reading Exact d row = some_exact d
  some_reading (Grid n) d row = some_grid n d row.above_zero
  some_reading (Root n) d row = some_root n d row.above_zero row.at_most_a_million row.numbers

  pub some_text : (row : Row) → IsRow k row → (text : List ℕ) → (r : Result N Unread) × ReadsText k parts row text r
  some_text row fits text =
      let (d, is) = some_decimal text in
      let (r, reads) = some_reading row d fits in
      (r, (d, (is, reads)))
