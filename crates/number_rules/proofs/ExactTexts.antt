-- The parts of an exact text, one behind the other.
use Rattle.std.proofs.Common.{◌≡◌, ℕ, ℤ, ◌≤◌, List, [], ◌∷◌, ◌++◌, refl, sym, ◌∙◌, ap, Bool, true, false, Some, None, arith}
use Rattle.std.specs.Prelude.{Option, unsigned_abs, ◌==◌, if◌then◌else◌}
use Rattle.std.specs.Fmt.{signed_decimal}
use Rattle.std.proofs.lemmas.Bool.Decides.{nat_tests}
use Rattle.algebra.specs.LowestTerms.{Parts, IsLowest, IsReduced}
use Rattle.algebra.proofs.LowestForms.{lowest_once}
use Rattle.number_rules.specs.WholeText.{most, before_comma, behind_comma}
use Rattle.number_rules.specs.ExactText.{exact_text_of, root_mark, AreShort}
use Rattle.number_rules.proofs.WholeTexts.{field, joined_again, before_first, behind_first, whole_once}
use Rattle.std.proofs.lemmas.List.{append_cancel_right}
use Rattle.algebra.proofs.LowestForms.{parts_path}
use Rattle.algebra.specs.LowestTerms.{IsNumber}
use Rattle.algebra.specs.NumberField.{HoldsNumbers}
use Rattle.number_rules.specs.ExactText.{ReadsExactText}
use Rattle.number_rules.specs.declared.unread.Unread.{Unread}
use Rattle.std.specs.Prelude.{Result, Ok, Err}

pub one_rest : {x : Option (List ℕ)} (r s : List ℕ) → x ≡ Some r → x ≡ Some s → r ≡ s
one_rest r s e f = cc

pub none_left : {x : Option (List ℕ)} (r : List ℕ) → x ≡ Some r → x ≡ None → ⊥
none_left r e f = cc

-- a part is taken off a text
pub peeled : (text front rest tail : List ℕ) (z : ℤ) → unsigned_abs z ≤ most → text ≡ signed_decimal z ++ (44 ∷ tail)
    → (before_comma text ≡ front) × (behind_comma text ≡ Some rest) → (front ≡ signed_decimal z) × (rest ≡ tail)
peeled text front rest tail z h e split =
    let parts = field text z tail h e in
    (sym split.0 ∙ parts.0, one_rest rest tail split.1 parts.1)

-- and put together again
pub together : (k : ℕ) (text ta ra tb rb tq : List ℕ) (a b q : ℤ)
    → (before_comma text ≡ ta) × (behind_comma text ≡ Some ra) → (before_comma ra ≡ tb) × (behind_comma ra ≡ Some rb)
    → rb ≡ tq ++ root_mark k → ta ≡ signed_decimal a → tb ≡ signed_decimal b → tq ≡ signed_decimal q
    → text ≡ exact_text_of k (record { a = a; b = b; q = q })
together k text ta ra tb rb tq a b q f g m ea eb eq =
    joined_again text ra f.1 ∙ ap (λ (x : List ℕ). x ++ (44 ∷ ra)) (f.0 ∙ ea)
    ∙ ap (λ (x : List ℕ). signed_decimal a ++ (44 ∷ x)) (joined_again ra rb g.1 ∙ ap (λ (x : List ℕ). x ++ (44 ∷ rb)) (g.0 ∙ eb)
    ∙ ap (λ (x : List ℕ). signed_decimal b ++ (44 ∷ x)) (m ∙ ap (λ (x : List ℕ). x ++ root_mark k) eq))

-- what isn't itself in lowest terms
pub not_lowest : (p r : Parts) → IsReduced p r → (p ≡ r → ⊥) → IsLowest p → ⊥
not_lowest p r h other lowest = other (lowest_once p r lowest h.lowest h.same)

-- the mark of the root of 3
mark_of : (k : ℕ) → (k == 3) ≡ true → root_mark k ≡ 44 ∷ 51 ∷ []
mark_of k e = ap (λ (t : Bool). if t then 44 ∷ 51 ∷ [] else []) e

pub three_is_three : (k : ℕ) → k ≡ 3 → root_mark k ≡ 44 ∷ 51 ∷ []
three_is_three k e = mark_of k (is k e)
  where
    is : (x : ℕ) → x ≡ 3 → (x == 3) ≡ true
    is x e = grind (arith, nat_tests)

pub with_mark : (k : ℕ) (text front mark : List ℕ) → k ≡ 3 → (before_comma text ≡ front) × (behind_comma text ≡ Some mark) → mark ≡ 51 ∷ [] → text ≡ front ++ root_mark k
with_mark k text front mark three split is =
    joined_again text mark split.1 ∙ ap (λ (x : List ℕ). x ++ (44 ∷ mark)) split.0 ∙ ap (λ (x : List ℕ). front ++ (44 ∷ x)) is ∙ ap (λ (x : List ℕ). front ++ x) (sym (three_is_three k three))

pub marked : (k : ℕ) (text front : List ℕ) → k ≡ 3 → behind_comma front ≡ None → text ≡ front ++ root_mark k → (before_comma text ≡ front) × (behind_comma text ≡ Some (51 ∷ []))
marked k text front three none e =
    let f : text ≡ front ++ (44 ∷ 51 ∷ []) = e ∙ ap (λ (x : List ℕ). front ++ x) (three_is_three k three) in
    (ap before_comma f ∙ before_first front (51 ∷ []) none, ap behind_comma f ∙ behind_first front (51 ∷ []) none)

-- what no number is read of
pub no_number : {z : ℤ} → None ≡ Some z → ⊥
no_number e = cc

pub none_there : false ≡ true → ⊥
none_there e = cc

-- three parts that are read once
pub three_once : (a b q : ℤ) (p : Parts) → Some a ≡ Some p.a → Some b ≡ Some p.b → Some q ≡ Some p.q → ◌≡◌ {A = Option (ℤ × ℤ × ℤ)} (Some (a, b, q)) (Some (p.a, p.b, p.q))
three_once a b q p e f g =
    let x : a ≡ p.a = cc in
    let y : b ≡ p.b = cc in
    let z : q ≡ p.q = cc in
    λ i. Some (x i, y i, z i)

pub true_or_false : true ≡ false → ⊥
true_or_false e = cc

-- a text of one number
pub parts_once : (k : ℕ) (p r : Parts) → AreShort p → AreShort r → exact_text_of k p ≡ exact_text_of k r → p ≡ r
parts_once k p r g h e =
    let first = field (exact_text_of k p) p.a _ g.a refl in
    let one = peeled (exact_text_of k p) (signed_decimal p.a) _ _ r.a h.a e first in
    let second = field (signed_decimal p.b ++ (44 ∷ (signed_decimal p.q ++ root_mark k))) p.b _ g.b refl in
    let two = peeled (signed_decimal p.b ++ (44 ∷ (signed_decimal p.q ++ root_mark k))) (signed_decimal p.b) _ _ r.b h.b one.1 second in
    let last : signed_decimal p.q ≡ signed_decimal r.q = append_cancel_right (signed_decimal p.q) (signed_decimal r.q) (root_mark k) two.1 in
    parts_path p r (whole_once p.a r.a g.a h.a one.0) (whole_once p.b r.b g.b h.b two.0) (whole_once p.q r.q g.q h.q last)

module _ {N : Type 0} (k : ℕ) (parts : N → Parts) where
  -- parts in lowest terms are read of their text
  pub parts_back : (p : Parts) (r : Result N Unread) → IsLowest p → AreShort p → ReadsExactText k parts (exact_text_of k p) r → (y : N) × (r ≡ Ok y) × (parts y ≡ p)
  parts_back p (Ok y) lowest short reads = (y, refl, sym (parts_once k p (parts y) short reads.1 reads.0))
  parts_back p (Err cause) lowest short reads = absurd (reads.1 p lowest short refl)

  -- and a number is
  pub number_back : HoldsNumbers k parts → (x : N) (r : Result N Unread) → AreShort (parts x) → ReadsExactText k parts (exact_text_of k (parts x)) r → r ≡ Ok x
  number_back holds x r short reads =
      let back = parts_back (parts x) r (holds.is_number x).lowest short reads in
      back.1 ∙ ap (λ (y : N). Ok y) (holds.once back.0 x back.2)

pub rational_back : {N : Type 0} (parts : N → Parts) (p : Parts) (r : Result N Unread) → IsNumber 1 p → AreShort p → ReadsExactText 2 parts (exact_text_of 1 p) r → (y : N) × (r ≡ Ok y) × (parts y ≡ p)
rational_back parts p r number short reads = parts_back 2 parts p r number.lowest short reads
