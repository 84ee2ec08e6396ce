-- a text names one choice of a rule, or none
use Rattle.std.proofs.Common.{◌≡◌, ◌≢◌, ◌⊎◌, ◌∙◌, ℕ, ◌<◌, ◌≤◌, ◌^◌, ◌++◌, Bool, true, false, List, [], ◌∷◌, Result, Ok, Err, arith, inl, inr, refl, sym, ap, subst, codes, get_or}
use Rattle.std.specs.Prelude.{IfOk, MatchOption, nat_lt, ◌&&◌, ◌==◌, if◌then◌else◌}
use Rattle.std.specs.Str.{bytes_eq}
use Rattle.std.proofs.lemmas.Bool.{cases_lt, eqb-true, eq-eqb, false≢true, lt-ltb}
use Rattle.std.proofs.lemmas.Option.{same_Some}
use Rattle.std.proofs.lemmas.List.{append_cancel_left}
use Rattle.std.specs.declared.option.Option.{Option}
use Rattle.std.specs.declared.option.Option.TheVariants.{None, Some}
use Rattle.std.specs.Fmt.{decimal}
use Rattle.std.specs.Str.Pattern.{FindsTextPrefix, StripsPrefix}
use Rattle.std.specs.Str.Parse.{digits_value}
use Rattle.std.proofs.lemmas.Fmt.{decimal_is_IsNumeral}
use Rattle.std.proofs.lemmas.Slice.Eq.{bytes_eq-Decides}
use Rattle.fold_keys.specs.Elements.{id_in_text}
use Rattle.fold_keys.proofs.IdTexts.{id_spelled}
use Rattle.fold_commands.specs.NumberOption.{NamesChoice, text_of}
use Rattle.fold_commands.specs.declared.denominator.Denominator.{Denominator}
use Rattle.fold_commands.specs.declared.number_option.NumberChoice.{NumberChoice}
use Rattle.fold_commands.specs.declared.number_option.NumberChoice.TheVariants.{Exact, Grid, RootTwo, RootThree}
use mathlib.Core.HLevel.{is_prop→PathP}
use Rattle.std.proofs.Props.{props}

-- ---- denominators

lt_prop : (m n : ℕ) → IsProp (m < n)
lt_prop m n = hlevel props

le_prop : (m n : ℕ) → IsProp (m ≤ n)
le_prop m n = hlevel props

same_denominator : (m n : Denominator) → m.value ≡ n.value → m ≡ n
same_denominator m n e = λ i. record {
  value = e i;
  above_zero = is_prop→PathP (λ j. 0 < e j) (λ j. lt_prop 0 (e j)) m.above_zero n.above_zero i;
  at_most_a_million = is_prop→PathP (λ j. e j ≤ 1000000) (λ j. le_prop (e j) 1000000) m.at_most_a_million n.at_most_a_million i;
}

-- numbers are spelled in different ways
one_spelling : (m n : Denominator) → decimal m.value ≡ decimal n.value → m ≡ n
one_spelling m n e =
    let low : m.value < 2 ^ 64 = omega (arith, m.at_most_a_million) in
    let high : n.value < 2 ^ 64 = omega (arith, n.at_most_a_million) in
    same_denominator m n
    (sym (decimal_is_IsNumeral m.value low).1 ∙ ap (digits_value 10) e ∙ (decimal_is_IsNumeral n.value high).1)

-- ---- a text names one choice at most

-- texts with different letters at a place aren't one
differ : (x y : List ℕ) (i v : ℕ) → (get_or x i 0 == v) ≡ true → (get_or y i 0 == v) ≡ false → x ≡ y → ⊥
differ x y i v is other e = false≢true (sym other ∙ ap (λ l. get_or l i 0 == v) (sym e) ∙ is)

-- what stands behind a name is one
behind : (name : List ℕ) (m n : Denominator) → name ++ decimal m.value ≡ name ++ decimal n.value → m ≡ n
behind name m n e = one_spelling m n (append_cancel_left name (decimal m.value) (decimal n.value) e)

one_text : (c d : NumberChoice) → text_of c ≡ text_of d → c ≡ d
one_text Exact Exact e = refl
one_text Exact (Grid n) e = absurd (differ (text_of Exact) (text_of (Grid n)) 0 101 refl refl e)
one_text Exact (RootTwo n) e = absurd (differ (text_of Exact) (text_of (RootTwo n)) 0 101 refl refl e)
one_text Exact (RootThree n) e = absurd (differ (text_of Exact) (text_of (RootThree n)) 0 101 refl refl e)
one_text (Grid m) Exact e = absurd (differ (text_of (Grid m)) (text_of Exact) 0 103 refl refl e)
one_text (Grid m) (Grid n) e = ap Grid (behind (codes "grid:") m n e)
one_text (Grid m) (RootTwo n) e = absurd (differ (text_of (Grid m)) (text_of (RootTwo n)) 0 103 refl refl e)
one_text (Grid m) (RootThree n) e = absurd (differ (text_of (Grid m)) (text_of (RootThree n)) 0 103 refl refl e)
one_text (RootTwo m) Exact e = absurd (differ (text_of (RootTwo m)) (text_of Exact) 0 114 refl refl e)
one_text (RootTwo m) (Grid n) e = absurd (differ (text_of (RootTwo m)) (text_of (Grid n)) 0 114 refl refl e)
one_text (RootTwo m) (RootTwo n) e = ap RootTwo (behind (codes "root2:") m n e)
one_text (RootTwo m) (RootThree n) e = absurd (differ (text_of (RootTwo m)) (text_of (RootThree n)) 4 50 refl refl e)
one_text (RootThree m) Exact e = absurd (differ (text_of (RootThree m)) (text_of Exact) 0 114 refl refl e)
one_text (RootThree m) (Grid n) e = absurd (differ (text_of (RootThree m)) (text_of (Grid n)) 0 114 refl refl e)
one_text (RootThree m) (RootTwo n) e = absurd (differ (text_of (RootThree m)) (text_of (RootTwo n)) 4 51 refl refl e)
one_text (RootThree m) (RootThree n) e = ap RootThree (behind (codes "root3:") m n e)

pub choice_one : (text : List ℕ) (c d : NumberChoice) → NamesChoice text c → NamesChoice text d → c ≡ d
choice_one text c d p q = one_text c d (sym p ∙ q)

-- ---- a text names a choice, or none

-- a denominator is spelled, or none
abbrev Spells : List ℕ → Type 0
Spells text = ((n : Denominator) × (text ≡ decimal n.value)) ⊎ ((n : Denominator) → text ≢ decimal n.value)

chosen : (n : ℕ) → n < 2 ^ 32 → id_in_text (decimal n) ≡ Some n
chosen n small =
    let large : n < 2 ^ 64 = omega (arith, small) in
    let value : digits_value 10 (decimal n) ≡ n = (decimal_is_IsNumeral n large).1 in
    let same : bytes_eq (decimal n) (decimal (digits_value 10 (decimal n))) ≡ true =
    (bytes_eq-Decides (decimal n) (decimal (digits_value 10 (decimal n)))).1 (ap decimal (sym value)) in
    let fits : nat_lt (digits_value 10 (decimal n)) (2 ^ 32) ≡ true =
    lt-ltb (digits_value 10 (decimal n)) (2 ^ 32) (subst (λ v. v < 2 ^ 32) (sym value) small) in
    (λ i. if same i && fits i then Some (value i) else None)

-- what the text of a denominator is read as
pub of_denominator : (text : List ℕ) (n : Denominator) → text ≡ decimal n.value → id_in_text text ≡ Some n.value
of_denominator text n e = ap id_in_text e ∙ chosen n.value (omega (arith, n.at_most_a_million))

-- no denominator is out of its range
past : (v : ℕ) → (v ≡ 0) ⊎ (1000000 < v) → (n : Denominator) → v ≡ n.value → ⊥
past v (inl zero) n same = omega (arith, n.above_zero, zero, same)
past v (inr large) n same = omega (arith, n.at_most_a_million, large, same)

spells_or_not : (text : List ℕ) → Spells text
spells_or_not text = at (id_in_text text) refl
  where
    in_range : (v : ℕ) → id_in_text text ≡ Some v → (0 < v) × (v ≤ 1000000) → Spells text
    in_range v e range = inl (record { value = v; above_zero = range.0; at_most_a_million = range.1 }, sym (id_spelled text v e))

    out : (v : ℕ) → id_in_text text ≡ Some v → (v ≡ 0) ⊎ (1000000 < v) → Spells text
    out v e range = inr (λ n is. past v range n (same_Some v n.value (sym e ∙ of_denominator text n is)))

    by_range : (v : ℕ) → id_in_text text ≡ Some v → Spells text
    by_range v e = elim (cases_lt 0 v) [
      | inl above ↦ elim (cases_lt 1000000 v) [ inl large ↦ out v e (inr large) | inr small ↦ in_range v e (above, small) ]
      | inr below ↦ out v e (inl (omega (arith, below)))
    ]

    at : (o : Option ℕ) → id_in_text text ≡ o → Spells text
    at None e = inr (λ n is. let no : None ≡ Some n.value = sym e ∙ of_denominator text n is in cc)
    at (Some v) e = by_range v e

-- a text begins with another, or doesn't
abbrev Begins : List ℕ → List ℕ → Type 0
Begins name text = ((rest : List ℕ) × (text ≡ name ++ rest)) ⊎ ((rest : List ℕ) → text ≢ name ++ rest)

begins_or_not : (name text : List ℕ) → Begins name text
begins_or_not [] text = inl (text, refl)
begins_or_not (c ∷ cs) [] = inr (λ rest e. cc)
begins_or_not (c ∷ cs) (b ∷ bs) = at (b == c) refl (begins_or_not cs bs)
  where
    at : (t : Bool) → (b == c) ≡ t → Begins cs bs → Begins (c ∷ cs) (b ∷ bs)
    at false e h = inr (λ rest is. let first : b ≡ c = cc in false≢true (sym e ∙ eq-eqb b c first))
    at true e (inl p) = let first : b ≡ c = eqb-true b c e in let rest : bs ≡ cs ++ p.0 = p.1 in inl (p.0, λ i. first i ∷ rest i)
    at true e (inr none) = inr (λ rest is. let behind : bs ≡ cs ++ rest = cc in none rest behind)

-- a denominator stands behind a name, or none
abbrev Behind : List ℕ → List ℕ → Type 0
Behind name text = ((n : Denominator) × (text ≡ name ++ decimal n.value)) ⊎ ((n : Denominator) → text ≢ name ++ decimal n.value)

behind_or_not : (name text : List ℕ) → Behind name text
behind_or_not name text = at (begins_or_not name text)
  where
    of_rest : (rest : List ℕ) → text ≡ name ++ rest → Spells rest → Behind name text
    of_rest rest e (inl p) = inl (p.0, e ∙ ap (λ r. name ++ r) p.1)
    of_rest rest e (inr none) = inr (λ n is. none n (append_cancel_left name rest (decimal n.value) (sym e ∙ is)))

    at : Begins name text → Behind name text
    at (inl p) = of_rest p.0 p.1 (spells_or_not p.0)
    at (inr none) = inr (λ n is. none (decimal n.value) is)

-- no choice is named
pub none_named : (text : List ℕ) → text ≢ codes "exact" → ((n : Denominator) → text ≢ codes "grid:" ++ decimal n.value)
    → ((n : Denominator) → text ≢ codes "root2:" ++ decimal n.value) → ((n : Denominator) → text ≢ codes "root3:" ++ decimal n.value)
    → (c : NumberChoice) → ¬ NamesChoice text c
none_named text no_exact no_grid no_two no_three Exact e = no_exact e
none_named text no_exact no_grid no_two no_three (Grid n) e = no_grid n e
none_named text no_exact no_grid no_two no_three (RootTwo n) e = no_two n e
none_named text no_exact no_grid no_two no_three (RootThree n) e = no_three n e

-- ---- the calls

-- what `strip_prefix` leaves
pub left_behind : (name text rest : List ℕ) → StripsPrefix (FindsTextPrefix name) text rest → text ≡ name ++ rest
left_behind name text rest h = h.1.1 ∙ ap (λ r. name ++ r) (sym h.2)

-- what `Denominator::new` answers for the number that a text spells
pub new_denominator : (text : List ℕ) (v : ℕ) (r : Option Denominator) → Some v ≡ id_in_text text
    → MatchOption r ((v ≡ 0) ⊎ (1000000 < v)) (λ n. n.value ≡ v)
    → MatchOption r ((n : Denominator) → text ≢ decimal n.value) (λ n. text ≡ decimal n.value)
new_denominator text v None e out = λ n is. past v out n (same_Some v n.value (e ∙ of_denominator text n is))
new_denominator text v (Some n) e is = sym (id_spelled text v (sym e)) ∙ ap decimal (sym is)

pub no_denominator : (text : List ℕ) → None ≡ id_in_text text → (n : Denominator) → text ≢ decimal n.value
no_denominator text e n is = let no : None ≡ Some n.value = e ∙ of_denominator text n is in cc

-- what is found in the rest of a text, is found behind its name
pub behind_name : {E : Type 0} (name text rest : List ℕ) (r : Result (Option Denominator) E) → text ≡ name ++ rest
    → IfOk r (λ found. MatchOption found ((n : Denominator) → rest ≢ decimal n.value) (λ n. rest ≡ decimal n.value))
    → IfOk r (λ found. MatchOption found ((n : Denominator) → text ≢ name ++ decimal n.value) (λ n. text ≡ name ++ decimal n.value))
behind_name name text rest (Ok None) e none = λ n is. none n (append_cancel_left name rest (decimal n.value) (sym e ∙ is))
behind_name name text rest (Ok (Some n)) e is = e ∙ ap (λ r. name ++ r) is
behind_name name text rest (Err error) e h = tt

-- a text names a choice, or none
pub choice_or_not : (text : List ℕ) → ((c : NumberChoice) × NamesChoice text c) ⊎ ((c : NumberChoice) → ¬ NamesChoice text c)
choice_or_not text = at (bytes_eq text (codes "exact")) refl (behind_or_not (codes "grid:") text) (behind_or_not (codes "root2:") text) (behind_or_not (codes "root3:") text)
  where
    at : (t : Bool) → bytes_eq text (codes "exact") ≡ t → Behind (codes "grid:") text → Behind (codes "root2:") text → Behind (codes "root3:") text
        → ((c : NumberChoice) × NamesChoice text c) ⊎ ((c : NumberChoice) → ¬ NamesChoice text c)
    at true e grid two three = inl (Exact, (bytes_eq-Decides text (codes "exact")).0 e)
    at false e (inl p) two three = inl (Grid p.0, p.1)
    at false e (inr no_grid) (inl p) three = inl (RootTwo p.0, p.1)
    at false e (inr no_grid) (inr no_two) (inl p) = inl (RootThree p.0, p.1)
    at false e (inr no_grid) (inr no_two) (inr no_three) =
        inr (none_named text (λ is. false≢true (sym e ∙ (bytes_eq-Decides text (codes "exact")).1 is)) no_grid no_two no_three)
