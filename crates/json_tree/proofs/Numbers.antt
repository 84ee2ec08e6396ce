-- the phases decide which texts are numbers
use Rattle.std.proofs.Common.{◌≡◌, ℕ, ◌+◌, ◌<◌, ◌≤◌, List, [], ◌∷◌, ◌++◌, refl, sym, ◌∙◌, ap, subst, append_assoc, arith, ◌⊎◌, inl, inr, Some, None, IsTrue, Option, Bool, false, length, take, drop, get_or}
use Rattle.std.specs.Prelude.{◌↔◌, option_and_then, is_some}
use Rattle.std.specs.Char.{IsAsciiDigit}
use Rattle.std.proofs.lemmas.List.{append-nil, take-append-drop, take_more}
use Rattle.std.proofs.lemmas.Bool.Decides.{nat_tests}
use Rattle.first_fault.specs.Machine.{steps, answer, Decides}
use Rattle.first_fault.proofs.Goes.{Goes, then_goes, byte_goes, none_goes, along}
use Rattle.first_fault.proofs.Machines.{steps-append, steps-snoc, leads, tests_begins, tests_accepted}
use Rattle.json_tree.specs.Number.{IsDigit1To9, AreDigits, IsMinusOrNone, IsInt, AreSomeDigits, IsFraction, IsSignOrNone, IsExponent, IsNumber, BeginsNumber}
use Rattle.json_tree.specs.Scan.{at_first_digit, at_exponent, after_int, at_digit, at_more_digits, next, is_whole, finished, phase_after, begins_number, is_number}
use Rattle.json_tree.specs.declared.phase.Phase.{Phase}
use Rattle.json_tree.specs.declared.phase.Phase.TheVariants.{Start, Minus, Zero, Digits, Point, Fraction, Exponent, Sign, ExponentDigits}

-- a minus or nothing, and an int
abbrev IsSignedInt : List ℕ → Type 0
IsSignedInt text = (minus int : List ℕ) × (text ≡ minus ++ int) × IsMinusOrNone minus × IsInt int

abbrev IsE : ℕ → Type 0
IsE b = (b ≡ 101) ⊎ (b ≡ 69)

-- a number without an exponent
abbrev IsMantissa : List ℕ → Type 0
IsMantissa text = (number fraction : List ℕ) × (text ≡ number ++ fraction) × IsSignedInt number × (IsFraction fraction ⊎ (fraction ≡ []))

-- the texts that lead to a phase
abbrev Leads : List ℕ → Phase → Type 0
Leads text Start = text ≡ []
Leads text Minus = text ≡ 45 ∷ []
Leads text Zero = (minus : List ℕ) × (text ≡ minus ++ 48 ∷ []) × IsMinusOrNone minus
Leads text Digits = (minus : List ℕ) × (first : ℕ) × (rest : List ℕ) × (text ≡ minus ++ first ∷ rest) × IsMinusOrNone minus × IsDigit1To9 first × AreDigits rest
Leads text Point = (number : List ℕ) × (text ≡ number ++ 46 ∷ []) × IsSignedInt number
Leads text Fraction = (number digits : List ℕ) × (text ≡ number ++ 46 ∷ digits) × IsSignedInt number × AreSomeDigits digits
Leads text Exponent = (front : List ℕ) × (e : ℕ) × (text ≡ front ++ e ∷ []) × IsMantissa front × IsE e
Leads text Sign = (front : List ℕ) × (e : ℕ) × (sign : List ℕ) × (text ≡ front ++ e ∷ sign) × IsMantissa front × IsE e × IsSignOrNone sign
Leads text ExponentDigits = (front : List ℕ) × (e : ℕ) × (sign digits : List ℕ) × (text ≡ front ++ e ∷ sign ++ digits) × IsMantissa front × IsE e × IsSignOrNone sign × AreSomeDigits digits

-- ---- what each byte is

zero_or_digits : (b : ℕ) (after : Phase) → at_first_digit b ≡ Some after → ((b ≡ 48) × (after ≡ Zero)) ⊎ (IsDigit1To9 b × (after ≡ Digits))
zero_or_digits b after e = grind (arith, nat_tests)

minus_or_first : (b : ℕ) (after : Phase) → next Start b ≡ Some after → ((b ≡ 45) × (after ≡ Minus)) ⊎ (at_first_digit b ≡ Some after)
minus_or_first b after e = grind (arith, nat_tests)

an_e : (b : ℕ) (after : Phase) → at_exponent b ≡ Some after → IsE b × (after ≡ Exponent)
an_e b after e = grind (arith, nat_tests)

point_or_e : (b : ℕ) (after : Phase) → after_int b ≡ Some after → ((b ≡ 46) × (after ≡ Point)) ⊎ (at_exponent b ≡ Some after)
point_or_e b after e = grind (arith, nat_tests)

a_digit : (phase : Phase) (b : ℕ) (after : Phase) → at_digit phase b ≡ Some after → IsAsciiDigit b × (after ≡ phase)
a_digit phase b after e = grind (arith, nat_tests)

digit_or : (phase : Phase) (other : Option Phase) (b : ℕ) (after : Phase) → at_more_digits phase other b ≡ Some after → (IsAsciiDigit b × (after ≡ phase)) ⊎ (other ≡ Some after)
digit_or phase other b after e = grind (arith, nat_tests)

sign_or_digit : (b : ℕ) (after : Phase) → next Exponent b ≡ Some after → (((b ≡ 45) ⊎ (b ≡ 43)) × (after ≡ Sign)) ⊎ (at_digit ExponentDigits b ≡ Some after)
sign_or_digit b after e = grind (arith, nat_tests)

-- ---- one more byte

digits_snoc : (t : List ℕ) (b : ℕ) → AreDigits t → IsAsciiDigit b → AreDigits (t ++ b ∷ [])
digits_snoc [] b a p = (p, tt)
digits_snoc (x ∷ t) b a p = (a.0, digits_snoc t b a.1 p)

some_digits_snoc : (t : List ℕ) (b : ℕ) → AreSomeDigits t → IsAsciiDigit b → AreSomeDigits (t ++ b ∷ [])
some_digits_snoc t b a p = (a.0, a.1 ++ b ∷ [], rw a.2 refl, a.3, digits_snoc a.1 b a.4 p)

zero_int : (text : List ℕ) → Leads text Zero → IsSignedInt text
zero_int text l = (l.0, 48 ∷ [], l.1, l.2, inl refl)

digits_int : (text : List ℕ) → Leads text Digits → IsSignedInt text
digits_int text l = (l.0, l.1 ∷ l.2, l.3, l.4, inr (l.1, l.2, refl, l.5, l.6))

bare_mantissa : (text : List ℕ) → IsSignedInt text → IsMantissa text
bare_mantissa text n = (text, [], sym (append-nil text), n, inr refl)

fraction_mantissa : (text : List ℕ) → Leads text Fraction → IsMantissa text
fraction_mantissa text l = (l.0, 46 ∷ l.1, l.2, l.3, inl (l.1, refl, l.4))

leads_first : (text minus : List ℕ) (b : ℕ) (after : Phase) → text ≡ minus ++ b ∷ [] → IsMinusOrNone minus → at_first_digit b ≡ Some after → Leads text after
leads_first text minus b after t m e = elim (zero_or_digits b after e) [
  | inl z ↦ subst (Leads text) (sym z.1) (minus, t ∙ ap (λ x. minus ++ x ∷ []) z.0, m)
  | inr d ↦ subst (Leads text) (sym d.1) (minus, b, [], t, m, d.0, tt)
]

leads_exponent : (text : List ℕ) (b : ℕ) (after : Phase) → IsMantissa text → at_exponent b ≡ Some after → Leads (text ++ b ∷ []) after
leads_exponent text b after m e = let x = an_e b after e in subst (Leads (text ++ b ∷ [])) (sym x.1) (text, b, refl, m, x.0)

leads_after_int : (text : List ℕ) (b : ℕ) (after : Phase) → IsSignedInt text → after_int b ≡ Some after → Leads (text ++ b ∷ []) after
leads_after_int text b after n e = elim (point_or_e b after e) [
  | inl p ↦ subst (Leads (text ++ b ∷ [])) (sym p.1) (text, ap (λ x. text ++ x ∷ []) p.0, n)
  | inr x ↦ leads_exponent text b after (bare_mantissa text n) x
]

leads_exponent_digit : (text front : List ℕ) (e : ℕ) (sign : List ℕ) (b : ℕ) (after : Phase) → text ≡ front ++ e ∷ sign → IsMantissa front → IsE e → IsSignOrNone sign
    → at_digit ExponentDigits b ≡ Some after → Leads (text ++ b ∷ []) after
leads_exponent_digit text front e sign b after t m ie s d =
    let x = a_digit ExponentDigits b after d in
    subst (Leads (text ++ b ∷ [])) (sym x.1) (front, e, sign, b ∷ [], rw t (simp append_assoc), m, ie, s, (b, [], refl, x.0, tt))

leads_next : (text : List ℕ) (phase : Phase) (b : ℕ) (after : Phase) → Leads text phase → next phase b ≡ Some after → Leads (text ++ b ∷ []) after
leads_next text Start b after l e = elim (minus_or_first b after e) [
  | inl m ↦ subst (Leads (text ++ b ∷ [])) (sym m.1) (rw (l, m.0) refl)
  | inr d ↦ leads_first (text ++ b ∷ []) [] b after (rw l refl) (inr refl) d
]
leads_next text Minus b after l e = leads_first (text ++ b ∷ []) (45 ∷ []) b after (rw l refl) (inl refl) e
leads_next text Zero b after l e = leads_after_int text b after (zero_int text l) e
leads_next text Digits b after l e = elim (digit_or Digits (after_int b) b after e) [
  | inl d ↦ subst (Leads (text ++ b ∷ [])) (sym d.1) (l.0, l.1, l.2 ++ b ∷ [], rw l.3 (simp append_assoc), l.4, l.5, digits_snoc l.2 b l.6 d.0)
  | inr x ↦ leads_after_int text b after (digits_int text l) x
]
leads_next text Point b after l e = let x = a_digit Fraction b after e in subst (Leads (text ++ b ∷ [])) (sym x.1) (l.0, b ∷ [], rw l.1 (simp append_assoc), l.2, (b, [], refl, x.0, tt))
leads_next text Fraction b after l e = elim (digit_or Fraction (at_exponent b) b after e) [
  | inl d ↦ subst (Leads (text ++ b ∷ [])) (sym d.1) (l.0, l.1 ++ b ∷ [], rw l.2 (simp append_assoc), l.3, some_digits_snoc l.1 b l.4 d.0)
  | inr x ↦ leads_exponent text b after (fraction_mantissa text l) x
]
leads_next text Exponent b after l e = elim (sign_or_digit b after e) [
  | inl s ↦ subst (Leads (text ++ b ∷ [])) (sym s.1) (l.0, l.1, b ∷ [], rw l.2 (simp append_assoc), l.3, l.4, elim s.0 [ inl m ↦ inl (ap (λ x. x ∷ []) m) | inr p ↦ inr (inl (ap (λ x. x ∷ []) p)) ])
  | inr d ↦ leads_exponent_digit text l.0 l.1 [] b after l.2 l.3 l.4 (inr (inr refl)) d
]
leads_next text Sign b after l e = leads_exponent_digit text l.0 l.1 l.2 b after l.3 l.4 l.5 l.6 e
leads_next text ExponentDigits b after l e =
    let x = a_digit ExponentDigits b after e in
    subst (Leads (text ++ b ∷ [])) (sym x.1) (l.0, l.1, l.2, l.3 ++ b ∷ [], rw l.4 (simp append_assoc), l.5, l.6, l.7, some_digits_snoc l.3 b l.8 x.0)

-- ---- the end

mantissa_number : (text : List ℕ) → IsMantissa text → IsNumber text
mantissa_number text m = (m.3.0, m.3.1, m.1, [], m.2 ∙ ap (λ x. x ++ m.1) m.3.2 ∙ sym (append-nil _), m.3.3, m.3.4, m.4, inr refl)

exponent_number : (text front exponent : List ℕ) → text ≡ front ++ exponent → IsMantissa front → IsExponent exponent → IsNumber text
exponent_number text front exponent t m x = (m.3.0, m.3.1, m.1, exponent, rw (t, m.2, m.3.2) refl, m.3.3, m.3.4, m.4, inl x)

-- what leads to a whole phase is a number
whole_number : (text : List ℕ) (phase : Phase) → Leads text phase → IsTrue (is_whole phase) → IsNumber text
whole_number text Zero l w = mantissa_number text (bare_mantissa text (zero_int text l))
whole_number text Digits l w = mantissa_number text (bare_mantissa text (digits_int text l))
whole_number text Fraction l w = mantissa_number text (fraction_mantissa text l)
whole_number text ExponentDigits l w = exponent_number text l.0 (l.1 ∷ l.2 ++ l.3) (l.4 ∙ append_assoc l.0 (l.1 ∷ l.2) l.3) l.5 (l.1, l.2, l.3, refl, l.6, l.7, l.8)
whole_number text Start l w = cc
whole_number text Minus l w = cc
whole_number text Point l w = cc
whole_number text Exponent l w = cc
whole_number text Sign l w = cc

-- each phase can go on to a whole one, at the worst by a `0`
number_begun : (text : List ℕ) (phase : Phase) → Leads text phase → BeginsNumber text
number_begun text Start l = (48 ∷ [], whole_number (text ++ 48 ∷ []) Zero ([], rw l refl, inr refl) refl)
number_begun text Minus l = (48 ∷ [], whole_number (text ++ 48 ∷ []) Zero (45 ∷ [], rw l refl, inl refl) refl)
number_begun text Zero l = ([], subst IsNumber (sym (append-nil text)) (whole_number text Zero l refl))
number_begun text Digits l = ([], subst IsNumber (sym (append-nil text)) (whole_number text Digits l refl))
number_begun text Point l = (48 ∷ [], whole_number (text ++ 48 ∷ []) Fraction (leads_next text Point 48 Fraction l refl) refl)
number_begun text Fraction l = ([], subst IsNumber (sym (append-nil text)) (whole_number text Fraction l refl))
number_begun text Exponent l = (48 ∷ [], whole_number (text ++ 48 ∷ []) ExponentDigits (leads_next text Exponent 48 ExponentDigits l refl) refl)
number_begun text Sign l = (48 ∷ [], whole_number (text ++ 48 ∷ []) ExponentDigits (leads_next text Sign 48 ExponentDigits l refl) refl)
number_begun text ExponentDigits l = ([], subst IsNumber (sym (append-nil text)) (whole_number text ExponentDigits l refl))

-- ---- each number leads to a whole phase

abbrev Go : Phase → List ℕ → Phase → Type 0
Go phase text after = Goes next phase text after

digit_taken : (phase : Phase) (other : Option Phase) (b : ℕ) → IsAsciiDigit b → at_more_digits phase other b ≡ Some phase
digit_taken phase other b d = grind (arith, nat_tests)

first_taken : (b : ℕ) → IsDigit1To9 b → at_first_digit b ≡ Some Digits
first_taken b d = grind (arith, nat_tests)

no_minus : (b : ℕ) → 48 ≤ b → next Start b ≡ at_first_digit b
no_minus b h = grind (arith, nat_tests)

e_taken : (b : ℕ) → IsE b → after_int b ≡ Some Exponent
e_taken b (inl e) = rw e refl
e_taken b (inr e) = rw e refl

e_no_digit : (phase : Phase) (other : Option Phase) (b : ℕ) → IsE b → at_more_digits phase other b ≡ other
e_no_digit phase other b (inl e) = rw e refl
e_no_digit phase other b (inr e) = rw e refl

digits_go : (phase : Phase) → ((b : ℕ) → IsAsciiDigit b → next phase b ≡ Some phase) → (t : List ℕ) → AreDigits t → Go phase t phase
digits_go phase stays [] a = none_goes
digits_go phase stays (b ∷ t) a = then_goes (byte_goes b (stays b a.0)) (digits_go phase stays t a.1)

-- a phase that may end a number without an exponent
abbrev EndsMantissa : Phase → Type 0
EndsMantissa phase = IsTrue (is_whole phase) × ((b : ℕ) → IsE b → next phase b ≡ Some Exponent)

abbrev EndsInt : Phase → Type 0
EndsInt phase = EndsMantissa phase × (next phase 46 ≡ Some Point)

int_goes : (phase : Phase) → ((b : ℕ) → 48 ≤ b → next phase b ≡ at_first_digit b) → (int : List ℕ) → IsInt int → (after : Phase) × EndsInt after × Go phase int after
int_goes phase same int (inl z) = (Zero, ((refl, e_taken), refl), along z (byte_goes 48 (same 48 (omega arith))))
int_goes phase same int (inr d) = (
  Digits,
  ((refl, (λ b e. e_no_digit Digits (after_int b) b e ∙ e_taken b e)), refl),
  along d.2 (then_goes (byte_goes d.0 (same d.0 (omega arith) ∙ first_taken d.0 d.3)) (digits_go Digits (λ b i. digit_taken Digits (after_int b) b i) d.1 d.4)),
)

signed_int_goes : (text : List ℕ) → IsSignedInt text → (after : Phase) × EndsInt after × Go Start text after
signed_int_goes text n = elim n.3 [
  | inl m ↦ let i = int_goes Minus (λ b h. refl) n.1 n.4 in (i.0, i.1, along (n.2 ∙ ap (λ x. x ++ n.1) m) (then_goes (byte_goes 45 refl) i.2))
  | inr m ↦ let i = int_goes Start no_minus n.1 n.4 in (i.0, i.1, along (n.2 ∙ ap (λ x. x ++ n.1) m) i.2)
]

fraction_goes : (phase : Phase) → EndsInt phase → (fraction : List ℕ) → IsFraction fraction ⊎ (fraction ≡ []) → (after : Phase) × EndsMantissa after × Go phase fraction after
fraction_goes phase ends fraction (inr none) = (phase, ends.0, along none none_goes)
fraction_goes phase ends fraction (inl f) = (
  Fraction,
  (refl, (λ b e. e_no_digit Fraction (at_exponent b) b e ∙ at_e b e)),
  along (f.1 ∙ ap (λ x. 46 ∷ x) f.2.2)
      (then_goes (byte_goes 46 ends.1) (then_goes (byte_goes {s = Point} f.2.0 (digit_taken Fraction None f.2.0 f.2.3)) (digits_go Fraction (λ b i. digit_taken Fraction (at_exponent b) b i) f.2.1 f.2.4))),
)
  where
    at_e : (b : ℕ) → IsE b → at_exponent b ≡ Some Exponent
    at_e b (inl e) = rw e refl
    at_e b (inr e) = rw e refl

exponent_digits_go : (phase : Phase) → ((b : ℕ) → IsAsciiDigit b → next phase b ≡ Some ExponentDigits) → (digits : List ℕ) → AreSomeDigits digits → Go phase digits ExponentDigits
exponent_digits_go phase taken digits d =
    along d.2 (then_goes (byte_goes d.0 (taken d.0 d.3)) (digits_go ExponentDigits (λ b i. digit_taken ExponentDigits None b i) d.1 d.4))

no_sign : (b : ℕ) → IsAsciiDigit b → next Exponent b ≡ Some ExponentDigits
no_sign b d = grind (arith, nat_tests)

exponent_goes : (phase : Phase) → EndsMantissa phase → (exponent : List ℕ) → IsExponent exponent ⊎ (exponent ≡ []) → (after : Phase) × IsTrue (is_whole after) × Go phase exponent after
exponent_goes phase ends exponent (inr none) = (phase, ends.0, along none none_goes)
exponent_goes phase ends exponent (inl x) = (
  ExponentDigits,
  refl,
  along x.3 (then_goes (byte_goes x.0 (ends.1 x.0 x.4)) (elim x.5 [
    | inl s ↦ along (ap (λ l. l ++ x.2) s) (then_goes (byte_goes 45 refl) (exponent_digits_go Sign (λ b i. digit_taken ExponentDigits None b i) x.2 x.6))
    | inr s ↦ elim s [
      | inl s ↦ along (ap (λ l. l ++ x.2) s) (then_goes (byte_goes 43 refl) (exponent_digits_go Sign (λ b i. digit_taken ExponentDigits None b i) x.2 x.6))
      | inr s ↦ along (ap (λ l. l ++ x.2) s) (exponent_digits_go Exponent no_sign x.2 x.6)
    ]
  ])),
)

number_goes : (text : List ℕ) → IsNumber text → answer next finished Start text ≡ Some tt
number_goes text n =
    let number = signed_int_goes (n.0 ++ n.1) (n.0, n.1, refl, n.5, n.6) in
    let fraction = fraction_goes number.0 number.1 n.2 n.7 in
    let exponent = exponent_goes fraction.0 fraction.1 n.3 n.8 in
    let all = along n.4 (then_goes (then_goes number.2 fraction.2) exponent.2) in
    ap (option_and_then finished) all.runs ∙ ends exponent.0 exponent.1
  where
    ends : (phase : Phase) → IsTrue (is_whole phase) → finished phase ≡ Some tt
    ends phase w = rw w refl

abbrev Spells : List ℕ → Unit {0} → Type 0
Spells text _ = IsNumber text

decides : Decides Spells next finished Start
decides = record {
  sound = λ t s v e f. whole_number t s (leads next Leads leads_next Start refl t s e) (whole_of s v f);
  alive = λ t s e. let b = number_begun t s (leads next Leads leads_next Start refl t s e) in (b.0, (tt, b.1));
  complete = λ t v n. number_goes t n;
}
  where
    whole_of : (s : Phase) (v : Unit {0}) → finished s ≡ Some v → IsTrue (is_whole s)
    whole_of Zero v f = refl
    whole_of Digits v f = refl
    whole_of Fraction v f = refl
    whole_of ExponentDigits v f = refl
    whole_of Start v f = cc
    whole_of Minus v f = cc
    whole_of Point v f = cc
    whole_of Exponent v f = cc
    whole_of Sign v f = cc

pub number_test : (text : List ℕ) → IsTrue (is_number text) ↔ IsNumber text
number_test text =
    let test = tests_accepted Spells next finished Start decides text in
    ((λ h. (test.0 h).1), (λ n. test.1 (tt, n)))

pub begins_test : (text : List ℕ) → IsTrue (begins_number text) ↔ BeginsNumber text
begins_test text =
    let test = tests_begins Spells next finished Start decides text in
    ((λ h. let b = test.0 h in (b.0, b.1.1)), (λ b. test.1 (b.0, (tt, b.1))))

-- ---- one step of a reader

-- a byte more
pub byte_taken : (text : List ℕ) (phase : Phase) (b : ℕ) (after : Option Phase) → phase_after text ≡ Some phase → after ≡ next phase b → phase_after (text ++ b ∷ []) ≡ after
byte_taken text phase b after e n = steps-snoc next Start phase text b e ∙ sym n

-- the end
pub whole_test : (text : List ℕ) (phase : Phase) → phase_after text ≡ Some phase → is_number text ≡ is_whole phase
whole_test text phase e = ap (λ o. is_some (option_and_then finished o)) e ∙ of_phase phase
  where
    of_phase : (s : Phase) → is_some (finished s) ≡ is_whole s
    of_phase Start = refl
    of_phase Minus = refl
    of_phase Zero = refl
    of_phase Digits = refl
    of_phase Point = refl
    of_phase Fraction = refl
    of_phase Exponent = refl
    of_phase Sign = refl
    of_phase ExponentDigits = refl

-- after a byte that can't stand there, nothing makes a number of it
pub stopped_test : (text : List ℕ) (i : ℕ) (phase : Phase) → i < length text → phase_after (take i text) ≡ Some phase → None ≡ next phase (get_or text i 0) → is_number text ≡ false
stopped_test text i phase lt e n =
    let front : phase_after (take (i + 1) text) ≡ None = ap phase_after (take_more text i 0 lt) ∙ byte_taken (take i text) phase (get_or text i 0) None e n in
    let whole : phase_after text ≡ None =
    ap phase_after (sym (take-append-drop (i + 1) text)) ∙ steps-append next Start (take (i + 1) text) (drop (i + 1) text) ∙ ap (option_and_then (λ s. steps next s (drop (i + 1) text))) front in
    ap (λ o. is_some (option_and_then finished o)) whole

pub spelled_by : (test : Bool) (text : List ℕ) → test ≡ is_number text → IsTrue test ↔ IsNumber text
spelled_by test text e = subst (λ b. IsTrue b ↔ IsNumber text) (sym e) (number_test text)

pub begun_by : (test : Bool) (text : List ℕ) → test ≡ begins_number text → IsTrue test ↔ BeginsNumber text
begun_by test text e = subst (λ b. IsTrue b ↔ BeginsNumber text) (sym e) (begins_test text)
