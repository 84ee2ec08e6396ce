-- the parts decide which bytes are characters of a word, and what they spell
use Rattle.std.proofs.Common.{◌≡◌, ◌≢◌, ℕ, zero, suc, ◌+◌, ◌-◌, ◌*◌, ◌/◌, ◌%◌, ◌<◌, ◌≤◌, List, [], ◌∷◌, ◌++◌, refl, sym, ◌∙◌, ap, subst, append_assoc, arith, ◌⊎◌, inl, inr, Some, None, Option, Bool, true, false, encode_utf8, encode_utf8_all, lit≤}
use Rattle.std.specs.Prelude.{option_map, if◌then◌else◌, nat_lt, nat_le, ◌==◌, ◌||◌}
use Rattle.std.specs.Char.{IsScalar, digit_value}
use Rattle.std.specs.Int.{is_in_range}
use Rattle.std.proofs.lemmas.List.{append-nil}
use Rattle.std.proofs.lemmas.Bool.{cases_eq, cases_lt}
use Rattle.std.proofs.lemmas.Bool.Decides.{nat_tests}
use Rattle.std.proofs.lemmas.Str.{encodes-append}
use borrow.Author.Tests.{ltb-true, lt-ltb}
use lib.Utf8.{encode, scalar_cases, low_scalar}
use Rattle.json_tree.specs.Word.{IsUnescaped, escaped_by, IsHexadecimal, SpellsUnit, IsHighSurrogate, IsLowSurrogate, SpellsCharacter, itself, escaped, by_unit, by_pair, SpellsCharacters, none, more}
use Rattle.json_machine.specs.WordScan.{WordPart, Between, Character, Escape, Unit0, Unit1, Unit2, Unit3, High, LowEscape, Low0, Low1, Low2, Low3, WordState, word_start, in_part, put, paired, is_high_surrogate, with_first_of_two, with_first_of_three, with_first_of_four, first_of_four, first_of_three, lead, between, with_code, at_escape, with_digit, with_two, with_unit, with_low_one, with_low_two, by_part, next_character}
use Rattle.first_fault.proofs.Goes.{Goes, then_goes, byte_goes, none_goes, along}

-- ---- the UTF-8 of a character

encode1 : (c : ℕ) → c < 128 → encode_utf8 c ≡ c ∷ []
unfolding encode
encode1 c h = grind (arith, nat_tests)

encode2 : (c : ℕ) → 128 ≤ c → c < 2048 → encode_utf8 c ≡ (192 + c / 64) ∷ (128 + c % 64) ∷ []
unfolding encode
encode2 c l h = grind (arith, nat_tests)

encode3 : (c : ℕ) → 2048 ≤ c → c < 65536 → encode_utf8 c ≡ (224 + c / 4096) ∷ (128 + (c / 64) % 64) ∷ (128 + c % 64) ∷ []
unfolding encode
encode3 c l h = grind (arith, nat_tests)

encode4 : (c : ℕ) → 65536 ≤ c → encode_utf8 c ≡ (240 + c / 262144) ∷ (128 + (c / 4096) % 64) ∷ (128 + (c / 64) % 64) ∷ (128 + c % 64) ∷ []
unfolding encode
encode4 c l = grind (arith, nat_tests)

-- these bytes come after the value so far, and make it the character's
abbrev pub Ends : ℕ → ℕ → List ℕ → ℕ → Type 0
Ends zero code rest c = (rest ≡ []) × (c ≡ code)
Ends (suc later) code rest c = (b : ℕ) × (tail : List ℕ) × (rest ≡ b ∷ tail) × (128 ≤ b) × (b ≤ 191) × Ends later (code * 64 + (b - 128)) tail c

abbrev pub Completes : ℕ → ℕ → ℕ → ℕ → List ℕ → ℕ → Type 0
Completes later low high code rest c = (b : ℕ) × (tail : List ℕ) × (rest ≡ b ∷ tail) × (low ≤ b) × (b ≤ high) × Ends later (code * 64 + (b - 128)) tail c

-- ---- what leads to a part

abbrev pub PartLeads : List ℕ → WordPart → Type 0
PartLeads begun Between = begun ≡ []
PartLeads begun (Character later low high code) = (128 ≤ low) × (low ≤ high) × (high ≤ 191) × ((rest : List ℕ) (c : ℕ) → Completes later low high code rest c → IsUnescaped c × (begun ++ rest ≡ encode_utf8 c))
PartLeads begun Escape = begun ≡ 92 ∷ []
PartLeads begun Unit0 = begun ≡ 92 ∷ 117 ∷ []
PartLeads begun (Unit1 value) = (a : ℕ) × (begun ≡ 92 ∷ 117 ∷ a ∷ []) × IsHexadecimal a × (value ≡ digit_value a)
PartLeads begun (Unit2 value) = (a b : ℕ) × (begun ≡ 92 ∷ 117 ∷ a ∷ b ∷ []) × IsHexadecimal a × IsHexadecimal b × (value ≡ digit_value a * 16 + digit_value b) × ((value < 220) ⊎ (224 ≤ value))
PartLeads begun (Unit3 value) = (a b c : ℕ) × (begun ≡ 92 ∷ 117 ∷ a ∷ b ∷ c ∷ []) × IsHexadecimal a × IsHexadecimal b × IsHexadecimal c × (value ≡ (digit_value a * 16 + digit_value b) * 16 + digit_value c) × ((value < 3520) ⊎ (3584 ≤ value))
PartLeads begun (High high) = SpellsUnit begun high × IsHighSurrogate high
PartLeads begun (LowEscape high) = (first : List ℕ) × (begun ≡ first ++ 92 ∷ []) × SpellsUnit first high × IsHighSurrogate high
PartLeads begun (Low0 high) = (first : List ℕ) × (begun ≡ first ++ 92 ∷ 117 ∷ []) × SpellsUnit first high × IsHighSurrogate high
PartLeads begun (Low1 high) = (first : List ℕ) × (a : ℕ) × (begun ≡ first ++ 92 ∷ 117 ∷ a ∷ []) × SpellsUnit first high × IsHighSurrogate high × (digit_value a ≡ 13)
PartLeads begun (Low2 high value) = (first : List ℕ) × (a b : ℕ) × (begun ≡ first ++ 92 ∷ 117 ∷ a ∷ b ∷ []) × SpellsUnit first high × IsHighSurrogate high × (digit_value a ≡ 13) × IsHexadecimal b
    × (value ≡ 208 + digit_value b) × (12 ≤ digit_value b)
PartLeads begun (Low3 high value) = (first : List ℕ) × (a b c : ℕ) × (begun ≡ first ++ 92 ∷ 117 ∷ a ∷ b ∷ c ∷ []) × SpellsUnit first high × IsHighSurrogate high × (digit_value a ≡ 13) × IsHexadecimal b × IsHexadecimal c
    × (value ≡ (208 + digit_value b) * 16 + digit_value c) × (12 ≤ digit_value b)

-- the texts that lead to a state: characters that are done, and the bytes of the one in hand
pub record WordLeads (text : List ℕ) (w : WordState) : Type 0 where
  pub front : List ℕ
  pub begun : List ℕ
  pub done : List ℕ
  pub text_is : text ≡ front ++ begun
  pub spelled : SpellsCharacters front done
  pub word_is : w.word ≡ encode_utf8_all done
  pub part_leads : PartLeads begun w.part

pub word_leads_start : WordLeads [] word_start
word_leads_start = record { front = []; begun = []; done = []; text_is = refl; spelled = none; word_is = refl; part_leads = refl }

-- the character in hand goes on
going : (text : List ℕ) (w : WordState) (b : ℕ) (part : WordPart) (l : WordLeads text w) → PartLeads (l.begun ++ b ∷ []) part → WordLeads (text ++ b ∷ []) (in_part w part)
going text w b part l p = record {
  front = l.front;
  begun = l.begun ++ b ∷ [];
  done = l.done;
  text_is = rw l.text_is (append_assoc l.front l.begun (b ∷ []));
  spelled = l.spelled;
  word_is = l.word_is;
  part_leads = p;
}

-- the character in hand is done
putting : (text : List ℕ) (w : WordState) (b c : ℕ) (l : WordLeads text w) → SpellsCharacter (l.begun ++ b ∷ []) c → WordLeads (text ++ b ∷ []) (put w c)
putting text w b c l s = record {
  front = text ++ b ∷ [];
  begun = [];
  done = l.done ++ c ∷ [];
  text_is = sym (append-nil (text ++ b ∷ []));
  spelled = more l.front (l.begun ++ b ∷ []) l.done c l.spelled s (rw l.text_is (append_assoc l.front l.begun (b ∷ []))) refl;
  word_is = rw (l.word_is, encodes-append) (ap (λ x. encode_utf8_all l.done ++ x) (sym (append-nil (encode_utf8 c))));
  part_leads = refl;
}

-- ---- what each byte is

became : (t : List ℕ) (x next : WordState) → Some x ≡ Some next → WordLeads t x → WordLeads t next
became t x next e l = let same : x ≡ next = cc in subst (WordLeads t) same l

ranged : (low high b : ℕ) (x next : WordState) → (if is_in_range low high b then Some x else None) ≡ Some next → (low ≤ b) × (b ≤ high) × (Some x ≡ Some next)
ranged low high b x next e = grind (arith, nat_tests)

digit_or_none : (d : ℕ) (after : ℕ → Option WordState) (next : WordState) → (if nat_lt d 16 then after d else None) ≡ Some next → (d < 16) × (after d ≡ Some next)
digit_or_none d after next e =
    (elim (nat_lt d 16) as (λ r. nat_lt d 16 ≡ r → (if r then after d else None) ≡ Some next → (d < 16) × (after d ≡ Some next)) [
      | true ↦ λ h m. (ltb-true d 16 h, m)
      | false ↦ λ h m. cc
    ]) refl e

a_digit : (after : ℕ → Option WordState) (b : ℕ) (next : WordState) → with_digit after b ≡ Some next → IsHexadecimal b × (after (digit_value b) ≡ Some next)
a_digit after b next e = digit_or_none (digit_value b) after next e

mapped : (o : Option ℕ) (f : ℕ → WordState) (next : WordState) → option_map f o ≡ Some next → (c : ℕ) × (o ≡ Some c) × (Some (f c) ≡ Some next)
mapped None f next e = cc
mapped (Some c) f next e = (c, refl, e)

equal_or_none : (b k : ℕ) (x next : WordState) → (if b == k then Some x else None) ≡ Some next → (b ≡ k) × (Some x ≡ Some next)
equal_or_none b k x next e = grind (arith, nat_tests)

not_equal : (b k : ℕ) → b ≢ k → (b == k) ≡ false
not_equal b k n = grind (arith, nat_tests)

equal_or : (b k : ℕ) (x other : Option WordState) (next : WordState) → (if b == k then x else other) ≡ Some next → ((b ≡ k) × (x ≡ Some next)) ⊎ ((b ≢ k) × (other ≡ Some next))
equal_or b k x other next e = elim (cases_eq b k) [
  | inl same ↦ inl (same, sym (ap (λ (r : Bool). if r then x else other) (same_is_equal b k same)) ∙ e)
  | inr n ↦ inr (n, sym (ap (λ (r : Bool). if r then x else other) (not_equal b k n)) ∙ e)
]
  where
    same_is_equal : (b k : ℕ) → b ≡ k → (b == k) ≡ true
    same_is_equal b k same = grind (arith, nat_tests)

refused_or : (b : ℕ) (other : Option WordState) (next : WordState) → (if b == 34 || nat_lt b 32 then None else other) ≡ Some next → (b ≢ 34) × (32 ≤ b) × (other ≡ Some next)
refused_or b other next e = grind (arith, nat_tests)

ascii_or : (b : ℕ) (x next : WordState) (other : Option WordState) → (if nat_lt b 128 then Some x else other) ≡ Some next → ((b < 128) × (Some x ≡ Some next)) ⊎ ((128 ≤ b) × (other ≡ Some next))
ascii_or b x next other e = grind (arith, nat_tests)

ranged_or : (low high b : ℕ) (x next : WordState) (other : Option WordState) → (if is_in_range low high b then Some x else other) ≡ Some next → ((low ≤ b) × (b ≤ high) × (Some x ≡ Some next)) ⊎ (other ≡ Some next)
ranged_or low high b x next other e = grind (arith, nat_tests)

out_of_range : (v : ℕ) (x next : WordState) → (if is_in_range 220 223 v then None else Some x) ≡ Some next → ((v < 220) ⊎ (224 ≤ v)) × (Some x ≡ Some next)
out_of_range v x next e = grind (arith, nat_tests)

high_or_not : (u : ℕ) (x y next : WordState) → (if is_high_surrogate u then Some x else Some y) ≡ Some next → ((55296 ≤ u) × (u < 56320) × (Some x ≡ Some next)) ⊎ (((u < 55296) ⊎ (56320 ≤ u)) × (Some y ≡ Some next))
high_or_not u x y next e = grind (arith, nat_tests)

least_or_none : (k d : ℕ) (x next : WordState) → (if nat_le k d then Some x else None) ≡ Some next → (k ≤ d) × (Some x ≡ Some next)
least_or_none k d x next e = grind (arith, nat_tests)

escape_or_unit : (w : WordState) (b : ℕ) (next : WordState) → at_escape w b ≡ Some next → ((b ≡ 117) × (Some (in_part w Unit0) ≡ Some next)) ⊎ ((c : ℕ) × (escaped_by b ≡ Some c) × (Some (put w c) ≡ Some next))
escape_or_unit w b next e = elim (cases_eq b 117) [
  | inl u ↦ inl (u, sym (ap (at_escape w) u) ∙ e)
  | inr n ↦ inr (mapped (escaped_by b) (λ c. put w c) next (sym (other n) ∙ e))
]
  where
    other : b ≢ 117 → at_escape w b ≡ option_map (λ c. put w c) (escaped_by b)
    other n = ap (λ (r : Bool). if r then Some (in_part w Unit0) else option_map (λ c. put w c) (escaped_by b)) (not_equal b 117 n)

-- ---- the first byte

scalar_in : (c : ℕ) → (c < 55296) ⊎ ((57344 ≤ c) × (c < 1114112)) → IsScalar c
scalar_in c h = grind (arith, nat_tests)

unescaped : (c : ℕ) → 128 ≤ c → (c < 55296) ⊎ ((57344 ≤ c) × (c < 1114112)) → IsUnescaped c
unescaped c h s = record { scalar = scalar_in c s; no_control = omega arith; no_quote = λ e. omega arith; no_backslash = λ e. omega arith }

two_bytes : (a b c : ℕ) → 194 ≤ a → a ≤ 223 → 128 ≤ b → b ≤ 191 → c ≡ (a - 192) * 64 + (b - 128) → IsUnescaped c × (a ∷ b ∷ [] ≡ encode_utf8 c)
two_bytes a b c h1 h2 h3 h4 e =
    let first : 192 + c / 64 ≡ a = omega arith in
    let second : 128 + c % 64 ≡ b = omega arith in
    (unescaped c (omega arith) (inl (omega arith)), sym (encode2 c (omega arith) (omega arith) ∙ rw (first, second) refl))

-- the least and the largest second byte after these first bytes
least_second : (a b : ℕ) (k l : ℕ) → (if a == k then l else 128) ≤ b → 128 ≤ l → (128 ≤ b) × (a ≡ k → l ≤ b)
least_second a b k l h m = grind (arith, nat_tests)

largest_second : (a b : ℕ) (k l : ℕ) → b ≤ (if a == k then l else 191) → l ≤ 191 → (b ≤ 191) × (a ≡ k → b ≤ l)
largest_second a b k l h m = grind (arith, nat_tests)

three_bytes : (a b c d : ℕ) → 224 ≤ a → a ≤ 239 → (128 ≤ b) × (a ≡ 224 → 160 ≤ b) → (b ≤ 191) × (a ≡ 237 → b ≤ 159) → 128 ≤ c → c ≤ 191 → d ≡ ((a - 224) * 64 + (b - 128)) * 64 + (c - 128)
    → IsUnescaped d × (a ∷ b ∷ c ∷ [] ≡ encode_utf8 d)
three_bytes a b c d h1 h2 low high h5 h6 e =
    let least : 2048 ≤ d = elim (cases_eq a 224) [ inl x ↦ omega (arith, low.1 x) | inr x ↦ omega arith ] in
    let range : (d < 55296) ⊎ ((57344 ≤ d) × (d < 1114112)) = elim (cases_lt a 237) [
      | inl x ↦ inl (omega arith)
      | inr x ↦ elim (cases_eq a 237) [ inl y ↦ inl (omega (arith, high.1 y)) | inr y ↦ inr (omega arith, omega arith) ]
    ] in
    let first : 224 + d / 4096 ≡ a = omega arith in
    let middle : d / 64 ≡ (a - 224) * 64 + (b - 128) = omega arith in
    let second : 128 + (d / 64) % 64 ≡ b = rw middle (omega arith) in
    let third : 128 + d % 64 ≡ c = omega arith in
    (unescaped d (omega arith) range, sym (encode3 d least (omega arith) ∙ rw (first, second, third) refl))

four_bytes : (a b c d n : ℕ) → 240 ≤ a → a ≤ 244 → (128 ≤ b) × (a ≡ 240 → 144 ≤ b) → (b ≤ 191) × (a ≡ 244 → b ≤ 143) → 128 ≤ c → c ≤ 191 → 128 ≤ d → d ≤ 191 → n ≡ (((a - 240) * 64 + (b - 128)) * 64 + (c - 128)) * 64 + (d - 128)
    → IsUnescaped n × (a ∷ b ∷ c ∷ d ∷ [] ≡ encode_utf8 n)
four_bytes a b c d n h1 h2 low high h5 h6 h7 h8 e =
    let least : 65536 ≤ n = elim (cases_eq a 240) [ inl x ↦ omega (arith, low.1 x) | inr x ↦ omega arith ] in
    let below : n < 1114112 = elim (cases_eq a 244) [ inl x ↦ omega (arith, high.1 x) | inr x ↦ omega arith ] in
    let first : 240 + n / 262144 ≡ a = omega arith in
    let upper : n / 4096 ≡ (a - 240) * 64 + (b - 128) = omega arith in
    let middle : n / 64 ≡ ((a - 240) * 64 + (b - 128)) * 64 + (c - 128) = omega arith in
    let second : 128 + (n / 4096) % 64 ≡ b = rw upper (omega arith) in
    let third : 128 + (n / 64) % 64 ≡ c = rw middle (omega arith) in
    let fourth : 128 + n % 64 ≡ d = omega arith in
    (unescaped n (omega arith) (inr (omega arith, below)), sym (encode4 n least ∙ rw (first, second, third, fourth) refl))

low_at_least : (a k l : ℕ) → 128 ≤ l → 128 ≤ (if a == k then l else 128)
low_at_least a k l h = grind (arith, nat_tests)

high_at_most : (a k l : ℕ) → l ≤ 191 → (if a == k then l else 191) ≤ 191
high_at_most a k l h = grind (arith, nat_tests)

seconds_of_three : (a : ℕ) → (if a == 224 then 160 else 128) ≤ (if a == 237 then 159 else 191)
seconds_of_three a = grind (arith, nat_tests)

seconds_of_four : (a : ℕ) → (if a == 240 then 144 else 128) ≤ (if a == 244 then 143 else 191)
seconds_of_four a = grind (arith, nat_tests)

-- four digits
unit_small : (v d x y z : ℕ) → x < 16 → y < 16 → z < 16 → d < 16 → v ≡ (x * 16 + y) * 16 + z → v * 16 + d < 65536
unit_small v d x y z h1 h2 h3 h4 e = omega arith

unit_scalar : (v d : ℕ) → d < 16 → v * 16 + d < 65536 → (v < 3520) ⊎ (3584 ≤ v) → (v * 16 + d < 55296) ⊎ (56320 ≤ v * 16 + d) → (v * 16 + d < 55296) ⊎ ((57344 ≤ v * 16 + d) × (v * 16 + d < 1114112))
unit_scalar v d h s n (inl x) = inl x
unit_scalar v d h s (inl n) (inr x) = absurd (omega arith)
unit_scalar v d h s (inr n) (inr x) = inr (omega arith, omega arith)

low_unit : (v a y z d : ℕ) → a ≡ 13 → v ≡ (208 + y) * 16 + z → v * 16 + d ≡ ((a * 16 + y) * 16 + z) * 16 + d
low_unit v a y z d h e = omega arith

low_range : (v y z d : ℕ) → v ≡ (208 + y) * 16 + z → 12 ≤ y → y < 16 → z < 16 → d < 16 → (56320 ≤ v * 16 + d) × (v * 16 + d < 57344)
low_range v y z d e h1 h2 h3 h4 = (omega arith, omega arith)

thirteen : (d : ℕ) → d ≡ 13 → d < 16
thirteen d e = omega arith

lead_leads : (text : List ℕ) (w : WordState) (b : ℕ) (next : WordState) (l : WordLeads text w) → l.begun ≡ [] → lead w b ≡ Some next → WordLeads (text ++ b ∷ []) next
lead_leads text w b next l p e = elim (ranged_or 194 223 b _ next _ e) [
  | inl r ↦ became _ _ next r.2 (going text w b (Character 0 128 191 (b - 192)) l (
    lit≤ tt,
    lit≤ tt,
    lit≤ tt,
    (λ rest c m.
        let f = two_bytes b m.0 c r.0 r.1 m.3 m.4 m.5.1 in (f.0, rw (p, m.2, m.5.0) f.1)),
  ))
  | inr e ↦ elim (ranged_or 224 239 b _ next _ e) [
    | inl r ↦ became _ _ next r.2 (going text w b (Character 1 (if b == 224 then 160 else 128) (if b == 237 then 159 else 191) (b - 224)) l (
      low_at_least b 224 160 (lit≤ tt),
      seconds_of_three b,
      high_at_most b 237 159 (lit≤ tt),
      (λ rest c m.
          let f = three_bytes b m.0 m.5.0 c r.0 r.1 (least_second b m.0 224 160 m.3 (lit≤ tt)) (largest_second b m.0 237 159 m.4 (lit≤ tt)) m.5.3 m.5.4 m.5.5.1 in
          (f.0, rw (p, m.2, m.5.2, m.5.5.0) f.1)),
    ))
    | inr e ↦
        let r = ranged 240 244 b _ next e in
        became _ _ next r.2 (going text w b (Character 2 (if b == 240 then 144 else 128) (if b == 244 then 143 else 191) (b - 240)) l (
          low_at_least b 240 144 (lit≤ tt),
          seconds_of_four b,
          high_at_most b 244 143 (lit≤ tt),
          (λ rest c m.
              let f = four_bytes b m.0 m.5.0 m.5.5.0 c r.0 r.1 (least_second b m.0 240 144 m.3 (lit≤ tt)) (largest_second b m.0 244 143 m.4 (lit≤ tt)) m.5.3 m.5.4 m.5.5.3 m.5.5.4 m.5.5.5.1 in
              (f.0, rw (p, m.2, m.5.2, m.5.5.2, m.5.5.5.0) f.1)),
        ))
  ]
]

byte_leads : (part : WordPart) (text : List ℕ) (w : WordState) (b : ℕ) (next : WordState) → w.part ≡ part → (l : WordLeads text w) → PartLeads l.begun part → by_part w part b ≡ Some next → WordLeads (text ++ b ∷ []) next
byte_leads Between text w b next same l p e = elim (equal_or b 92 _ _ next e) [
  | inl x ↦ became _ _ next x.1 (going text w b Escape l (rw (p, x.0) refl))
  | inr x ↦
      let y = refused_or b _ next x.1 in
      elim (ascii_or b _ next _ y.2) [
        | inl z ↦ became _ _ next z.1 (putting text w b b l (itself (record { scalar = low_scalar b (omega arith); no_control = y.1; no_quote = y.0; no_backslash = x.0 }) (rw p (sym (encode1 b z.0)))))
        | inr z ↦ lead_leads text w b next l p z.1
      ]
]
byte_leads (Character zero low high code) text w b next same l p e =
    let r = ranged low high b (with_code w zero (code * 64 + (b - 128))) next e in
    let c = p.3 (b ∷ []) (code * 64 + (b - 128)) (b, [], refl, r.0, r.1, (refl, refl)) in
    became _ _ next r.2 (putting text w b (code * 64 + (b - 128)) l (itself c.0 c.1))
byte_leads (Character (suc later) low high code) text w b next same l p e =
    let r = ranged low high b (with_code w (suc later) (code * 64 + (b - 128))) next e in
    became _ _ next r.2 (going text w b (Character later 128 191 (code * 64 + (b - 128))) l (
      lit≤ tt,
      lit≤ tt,
      lit≤ tt,
      (λ rest c more.
          let f = p.3 (b ∷ rest) c (b, rest, refl, r.0, r.1, more) in (f.0, append_assoc l.begun (b ∷ []) rest ∙ f.1)),
    ))
byte_leads Escape text w b next same l p e = elim (escape_or_unit w b next e) [
  | inl u ↦ became _ _ next u.1 (going text w b Unit0 l (rw (p, u.0) refl))
  | inr c ↦ became _ _ next c.2 (putting text w b c.0 l (escaped b c.1 (rw p refl)))
]
byte_leads Unit0 text w b next same l p e =
    let d = a_digit (λ d. Some (in_part w (Unit1 d))) b next e in
    became _ _ next d.1 (going text w b (Unit1 (digit_value b)) l (b, rw p refl, d.0, refl))
byte_leads (Unit1 value) text w b next same l p e =
    let d = a_digit (λ d. with_two w (value * 16 + d)) b next e in
    let x = out_of_range (value * 16 + digit_value b) _ next d.1 in
    became _ _ next x.1 (going text w b (Unit2 (value * 16 + digit_value b)) l (p.0, b, rw p.1 refl, p.2, d.0, rw p.3 refl, x.0))
byte_leads (Unit2 value) text w b next same l p e =
    let d = a_digit (λ d. Some (in_part w (Unit3 (value * 16 + d)))) b next e in
    let small : digit_value b < 16 = d.0 in
    let fits : (value * 16 + digit_value b < 3520) ⊎ (3584 ≤ value * 16 + digit_value b) = elim p.6 [ inl x ↦ inl (omega arith) | inr x ↦ inr (omega arith) ] in
    became _ _ next d.1 (going text w b (Unit3 (value * 16 + digit_value b)) l (p.0, p.1, b, rw p.2 refl, p.3, p.4, d.0, rw p.5 refl, fits))
byte_leads (Unit3 value) text w b next same l p e =
    let d = a_digit (λ d. with_unit w (value * 16 + d)) b next e in
    let unit = value * 16 + digit_value b in
    let spelled : SpellsUnit (l.begun ++ b ∷ []) unit = (p.0, p.1, p.2, b, rw p.3 refl, p.4, p.5, p.6, d.0, rw p.7 refl) in
    let small = unit_small value (digit_value b) (digit_value p.0) (digit_value p.1) (digit_value p.2) p.4 p.5 p.6 d.0 p.7 in
    elim (high_or_not unit _ _ next d.1) [
      | inl x ↦ became _ _ next x.2 (going text w b (High unit) l (spelled, (x.0, x.1)))
      | inr x ↦ became _ _ next x.1 (putting text w b unit l (by_unit spelled (scalar_in unit (unit_scalar value (digit_value b) d.0 small p.8 x.0))))
    ]
byte_leads (High high) text w b next same l p e =
    let x = equal_or_none b 92 _ next e in
    became _ _ next x.1 (going text w b (LowEscape high) l (l.begun, rw x.0 refl, p.0, p.1))
byte_leads (LowEscape high) text w b next same l p e =
    let x = equal_or_none b 117 _ next e in
    became _ _ next x.1 (going text w b (Low0 high) l (p.0, rw (p.1, x.0) (simp append_assoc), p.2, p.3))
byte_leads (Low0 high) text w b next same l p e =
    let d = a_digit (λ d. with_low_one w high d) b next e in
    let x = equal_or_none (digit_value b) 13 _ next d.1 in
    became _ _ next x.1 (going text w b (Low1 high) l (p.0, b, rw p.1 (simp append_assoc), p.2, p.3, x.0))
byte_leads (Low1 high) text w b next same l p e =
    let d = a_digit (λ d. with_low_two w high d) b next e in
    let x = least_or_none 12 (digit_value b) _ next d.1 in
    became _ _ next x.1 (going text w b (Low2 high (208 + digit_value b)) l (p.0, p.1, b, rw p.2 (simp append_assoc), p.3, p.4, p.5, d.0, refl, x.0))
byte_leads (Low2 high value) text w b next same l p e =
    let d = a_digit (λ d. Some (in_part w (Low3 high (value * 16 + d)))) b next e in
    became _ _ next d.1 (going text w b (Low3 high (value * 16 + digit_value b)) l (p.0, p.1, p.2, b, rw p.3 (simp append_assoc), p.4, p.5, p.6, p.7, d.0, rw p.8 refl, p.9))
byte_leads (Low3 high value) text w b next same l p e =
    let d = a_digit (λ d. Some (put w (paired high (value * 16 + d)))) b next e in
    let unit = value * 16 + digit_value b in
    let spelled : SpellsUnit (92 ∷ 117 ∷ p.1 ∷ p.2 ∷ p.3 ∷ b ∷ []) unit = (p.1, p.2, p.3, b, refl, thirteen (digit_value p.1) p.7, p.8, p.9, d.0, low_unit value (digit_value p.1) (digit_value p.2) (digit_value p.3) (digit_value b) p.7 p.10) in
    became _ _ next d.1 (putting text w b (paired high unit) l (by_pair p.0 (92 ∷ 117 ∷ p.1 ∷ p.2 ∷ p.3 ∷ b ∷ []) high unit p.5 p.6 spelled (low_range value (digit_value p.2) (digit_value p.3) (digit_value b) p.10 p.11 p.8 p.9 d.0) (rw p.4 (simp append_assoc)) refl))

pub word_leads : (text : List ℕ) (w : WordState) (b : ℕ) (next : WordState) → WordLeads text w → next_character w b ≡ Some next → WordLeads (text ++ b ∷ []) next
word_leads text w b next l e = byte_leads w.part text w b next refl l l.part_leads e

-- ---- each state can go on to characters that are done

abbrev Alive : List ℕ → Type 0
Alive text = (rest cs : List ℕ) × SpellsCharacters (text ++ rest) cs

fed : (text : List ℕ) (b : ℕ) → Alive (text ++ b ∷ []) → Alive text
fed text b a = (b ∷ a.0, a.1, subst (λ t. SpellsCharacters t a.1) (append_assoc text (b ∷ []) a.0) a.2)

done_alive : (text : List ℕ) (w : WordState) → w.part ≡ Between → WordLeads text w → Alive text
done_alive text w same l =
    let none_begun : l.begun ≡ [] = subst (PartLeads l.begun) same l.part_leads in
    ([], l.done, subst (λ t. SpellsCharacters t l.done) (rw (l.text_is, none_begun) (sym (append-nil (l.front ++ []) ∙ append-nil l.front))) l.spelled)

-- by this byte
stepped : (text : List ℕ) (w : WordState) (part : WordPart) (b : ℕ) (next : WordState) → w.part ≡ part → WordLeads text w → by_part w part b ≡ Some next → WordLeads (text ++ b ∷ []) next
stepped text w part b next same l e = byte_leads part text w b next same l (subst (PartLeads l.begun) same l.part_leads) e

low3_alive : (text : List ℕ) (w : WordState) (high value : ℕ) → w.part ≡ Low3 high value → WordLeads text w → Alive text
low3_alive text w high value same l = fed text 48 (done_alive _ (put w (paired high (value * 16 + 0))) refl (stepped text w (Low3 high value) 48 _ same l refl))

low2_alive : (text : List ℕ) (w : WordState) (high value : ℕ) → w.part ≡ Low2 high value → WordLeads text w → Alive text
low2_alive text w high value same l = fed text 48 (low3_alive _ (in_part w (Low3 high (value * 16 + 0))) high (value * 16 + 0) refl (stepped text w (Low2 high value) 48 _ same l refl))

low1_alive : (text : List ℕ) (w : WordState) (high : ℕ) → w.part ≡ Low1 high → WordLeads text w → Alive text
low1_alive text w high same l = fed text 67 (low2_alive _ (in_part w (Low2 high 220)) high 220 refl (stepped text w (Low1 high) 67 _ same l refl))

low0_alive : (text : List ℕ) (w : WordState) (high : ℕ) → w.part ≡ Low0 high → WordLeads text w → Alive text
low0_alive text w high same l = fed text 68 (low1_alive _ (in_part w (Low1 high)) high refl (stepped text w (Low0 high) 68 _ same l refl))

low_escape_alive : (text : List ℕ) (w : WordState) (high : ℕ) → w.part ≡ LowEscape high → WordLeads text w → Alive text
low_escape_alive text w high same l = fed text 117 (low0_alive _ (in_part w (Low0 high)) high refl (stepped text w (LowEscape high) 117 _ same l refl))

high_alive : (text : List ℕ) (w : WordState) (high : ℕ) → w.part ≡ High high → WordLeads text w → Alive text
high_alive text w high same l = fed text 92 (low_escape_alive _ (in_part w (LowEscape high)) high refl (stepped text w (High high) 92 _ same l refl))

unit3_alive : (text : List ℕ) (w : WordState) (value : ℕ) → w.part ≡ Unit3 value → WordLeads text w → Alive text
unit3_alive text w value same l =
    let unit = value * 16 + 0 in
    (elim (is_high_surrogate unit) as (λ r. is_high_surrogate unit ≡ r → Alive text) [
      | true ↦ λ h. fed text 48 (high_alive _ (in_part w (High unit)) unit refl (stepped text w (Unit3 value) 48 _ same l (ap (λ (r : Bool). if r then Some (in_part w (High unit)) else Some (put w unit)) h)))
      | false ↦ λ h. fed text 48 (done_alive _ (put w unit) refl (stepped text w (Unit3 value) 48 _ same l (ap (λ (r : Bool). if r then Some (in_part w (High unit)) else Some (put w unit)) h)))
    ]) refl

unit2_alive : (text : List ℕ) (w : WordState) (value : ℕ) → w.part ≡ Unit2 value → WordLeads text w → Alive text
unit2_alive text w value same l = fed text 48 (unit3_alive _ (in_part w (Unit3 (value * 16 + 0))) (value * 16 + 0) refl (stepped text w (Unit2 value) 48 _ same l refl))

unit1_alive : (text : List ℕ) (w : WordState) (value : ℕ) → w.part ≡ Unit1 value → WordLeads text w → Alive text
unit1_alive text w value same l =
    let two = value * 16 + 0 in
    let no_low : is_in_range 220 223 two ≡ false = tenfold value in
    fed text 48 (unit2_alive _ (in_part w (Unit2 two)) two refl (stepped text w (Unit1 value) 48 _ same l (ap (λ (r : Bool). if r then None else Some (in_part w (Unit2 two))) no_low)))
  where
    tenfold : (v : ℕ) → is_in_range 220 223 (v * 16 + 0) ≡ false
    tenfold v = grind (arith, nat_tests)

unit0_alive : (text : List ℕ) (w : WordState) → w.part ≡ Unit0 → WordLeads text w → Alive text
unit0_alive text w same l = fed text 48 (unit1_alive _ (in_part w (Unit1 0)) 0 refl (stepped text w Unit0 48 _ same l refl))

escape_alive : (text : List ℕ) (w : WordState) → w.part ≡ Escape → WordLeads text w → Alive text
escape_alive text w same l = fed text 110 (done_alive _ (put w 10) refl (stepped text w Escape 110 _ same l refl))

low_in_range : (low high : ℕ) → low ≤ high → is_in_range low high low ≡ true
low_in_range low high h = grind (arith, nat_tests)

low_taken : (later : ℕ) (text : List ℕ) (w : WordState) (low high code : ℕ) → w.part ≡ Character later low high code → WordLeads text w
    → WordLeads (text ++ low ∷ []) (with_code w later (code * 64 + (low - 128)))
low_taken later text w low high code same l =
    let p = subst (PartLeads l.begun) same l.part_leads in
    stepped text w (Character later low high code) low _ same l (ap (λ (r : Bool). if r then Some (with_code w later (code * 64 + (low - 128))) else None) (low_in_range low high p.1))

character_alive : (later : ℕ) (text : List ℕ) (w : WordState) (low high code : ℕ) → w.part ≡ Character later low high code → WordLeads text w → Alive text
character_alive zero text w low high code same l = fed text low (done_alive _ (put w (code * 64 + (low - 128))) refl (low_taken zero text w low high code same l))
character_alive (suc later) text w low high code same l =
    fed text low (character_alive later _ (in_part w (Character later 128 191 (code * 64 + (low - 128)))) 128 191 (code * 64 + (low - 128)) refl (low_taken (suc later) text w low high code same l))

alive_by : (part : WordPart) (text : List ℕ) (w : WordState) → w.part ≡ part → WordLeads text w → Alive text
alive_by Between text w same l = done_alive text w same l
alive_by (Character later low high code) text w same l = character_alive later text w low high code same l
alive_by Escape text w same l = escape_alive text w same l
alive_by Unit0 text w same l = unit0_alive text w same l
alive_by (Unit1 value) text w same l = unit1_alive text w value same l
alive_by (Unit2 value) text w same l = unit2_alive text w value same l
alive_by (Unit3 value) text w same l = unit3_alive text w value same l
alive_by (High high) text w same l = high_alive text w high same l
alive_by (LowEscape high) text w same l = low_escape_alive text w high same l
alive_by (Low0 high) text w same l = low0_alive text w high same l
alive_by (Low1 high) text w same l = low1_alive text w high same l
alive_by (Low2 high value) text w same l = low2_alive text w high value same l
alive_by (Low3 high value) text w same l = low3_alive text w high value same l

pub word_alive : (text : List ℕ) (w : WordState) → WordLeads text w → (rest cs : List ℕ) × SpellsCharacters (text ++ rest) cs
word_alive text w l = alive_by w.part text w refl l

-- ---- each character leads to its code point

abbrev pub at_rest : List ℕ → WordState
at_rest word = record { word = word; part = Between }

abbrev Go : WordState → List ℕ → WordState → Type 0
Go w text next = Goes next_character w text next

hex_taken : (after : ℕ → Option WordState) (b : ℕ) → IsHexadecimal b → with_digit after b ≡ after (digit_value b)
hex_taken after b h = digit_taken (digit_value b) after h
  where
    digit_taken : (d : ℕ) (after : ℕ → Option WordState) → d < 16 → (if nat_lt d 16 then after d else None) ≡ after d
    digit_taken d after h = ap (λ (r : Bool). if r then after d else None) (lt-ltb d 16 h)

in_range : (low high b : ℕ) → low ≤ b → b ≤ high → is_in_range low high b ≡ true
in_range low high b h k = grind (arith, nat_tests)

not_in_range : (low high b : ℕ) → (b < low) ⊎ (high < b) → is_in_range low high b ≡ false
not_in_range low high b h = grind (arith, nat_tests)

-- a byte within a character of several
continues : (w : WordState) (later low high code b : ℕ) → low ≤ b → b ≤ high → Go (in_part w (Character later low high code)) (b ∷ []) (with_code w later (code * 64 + (b - 128)))
continues w later low high code b h k =
    byte_goes b (ap (λ (r : Bool). if r then Some (with_code w later (code * 64 + (b - 128))) else None) (in_range low high b h k))

plain_byte : (c : ℕ) (esc one : WordState) (other : Option WordState) → c ≢ 92 → c ≢ 34 → 32 ≤ c → c < 128
    → (if c == 92 then Some esc else if c == 34 || nat_lt c 32 then None else if nat_lt c 128 then Some one else other) ≡ Some one
plain_byte c esc one other n m h k = grind (arith, nat_tests)

wide_byte : (c : ℕ) (esc one : WordState) (other : Option WordState) → 128 ≤ c
    → (if c == 92 then Some esc else if c == 34 || nat_lt c 32 then None else if nat_lt c 128 then Some one else other) ≡ other
wide_byte c esc one other h = grind (arith, nat_tests)

second_low : (a b k l : ℕ) → 128 ≤ b → (a ≡ k → l ≤ b) → (if a == k then l else 128) ≤ b
second_low a b k l h f = elim (cases_eq a k) [
  | inl e ↦ let m = f e in grind (arith, nat_tests)
  | inr n ↦ grind (arith, nat_tests)
]

second_high : (a b k l : ℕ) → b ≤ 191 → (a ≡ k → b ≤ l) → b ≤ (if a == k then l else 191)
second_high a b k l h f = elim (cases_eq a k) [
  | inl e ↦ let m = f e in grind (arith, nat_tests)
  | inr n ↦ grind (arith, nat_tests)
]

two_go : (word : List ℕ) (c : ℕ) → 128 ≤ c → c < 2048 → Go (at_rest word) (encode_utf8 c) (at_rest (word ++ encode_utf8 c))
two_go word c h k =
    let r = at_rest word in
    let a = 192 + c / 64 in
    let b = 128 + c % 64 in
    let range : (194 ≤ a) × (a ≤ 223) = (omega arith, omega arith) in
    let begin : between r a ≡ Some (with_first_of_two r a) =
    wide_byte a (in_part r Escape) (put r a) (lead r a) (omega arith) ∙ ap (λ (t : Bool). if t then Some (with_first_of_two r a) else first_of_three r a) (in_range 194 223 a range.0 range.1) in
    let code : (a - 192) * 64 + (b - 128) ≡ c = omega arith in
    let last = continues r 0 128 191 (a - 192) b (omega arith) (omega arith) in
    along (encode2 c h k) (then_goes {a = a ∷ []} (byte_goes a begin) (subst (λ x. Go (with_first_of_two r a) (b ∷ []) (put r x)) code last))

three_go : (word : List ℕ) (c : ℕ) → IsScalar c → 2048 ≤ c → c < 65536 → Go (at_rest word) (encode_utf8 c) (at_rest (word ++ encode_utf8 c))
three_go word c s h k =
    let r = at_rest word in
    let a = 224 + c / 4096 in
    let b = 128 + (c / 64) % 64 in
    let d = 128 + c % 64 in
    let range : (224 ≤ a) × (a ≤ 239) = (omega arith, omega arith) in
    let begin : between r a ≡ Some (with_first_of_three r a) =
    wide_byte a (in_part r Escape) (put r a) (lead r a) (omega arith)
    ∙ ap (λ (t : Bool). if t then Some (with_first_of_two r a) else first_of_three r a) (not_in_range 194 223 a (inr (omega arith)))
    ∙ ap (λ (t : Bool). if t then Some (with_first_of_three r a) else first_of_four r a) (in_range 224 239 a range.0 range.1) in
    let low : (if a == 224 then 160 else 128) ≤ b = second_low a b 224 160 (omega arith) (λ e. omega arith) in
    let high : b ≤ (if a == 237 then 159 else 191) = second_high a b 237 159 (omega arith) (λ e. no_surrogate c (scalar_cases c s) e) in
    let middle = (a - 224) * 64 + (b - 128) in
    let code : middle * 64 + (d - 128) ≡ c = omega arith in
    let second = continues r 1 (if a == 224 then 160 else 128) (if a == 237 then 159 else 191) (a - 224) b low high in
    let third = continues r 0 128 191 middle d (omega arith) (omega arith) in
    along (encode3 c h k) (then_goes {a = a ∷ []} (byte_goes a begin) (then_goes {a = b ∷ []} second (subst (λ x. Go (in_part r (Character 0 128 191 middle)) (d ∷ []) (put r x)) code third)))
  where
    no_surrogate : (c : ℕ) → (c < 55296) ⊎ ((57344 ≤ c) × (c < 1114112)) → 224 + c / 4096 ≡ 237 → 128 + (c / 64) % 64 ≤ 159
    no_surrogate c (inl x) e = omega arith
    no_surrogate c (inr x) e = absurd (omega arith)

four_go : (word : List ℕ) (c : ℕ) → IsScalar c → 65536 ≤ c → Go (at_rest word) (encode_utf8 c) (at_rest (word ++ encode_utf8 c))
four_go word c s h =
    let r = at_rest word in
    let below : c < 1114112 = elim (scalar_cases c s) [ inl x ↦ omega arith | inr x ↦ x.1 ] in
    let a = 240 + c / 262144 in
    let b = 128 + (c / 4096) % 64 in
    let d = 128 + (c / 64) % 64 in
    let f = 128 + c % 64 in
    let range : (240 ≤ a) × (a ≤ 244) = (omega arith, omega arith) in
    let begin : between r a ≡ Some (with_first_of_four r a) =
    wide_byte a (in_part r Escape) (put r a) (lead r a) (omega arith)
    ∙ ap (λ (t : Bool). if t then Some (with_first_of_two r a) else first_of_three r a) (not_in_range 194 223 a (inr (omega arith)))
    ∙ ap (λ (t : Bool). if t then Some (with_first_of_three r a) else first_of_four r a) (not_in_range 224 239 a (inr (omega arith)))
    ∙ ap (λ (t : Bool). if t then Some (with_first_of_four r a) else None) (in_range 240 244 a range.0 range.1) in
    let low : (if a == 240 then 144 else 128) ≤ b = second_low a b 240 144 (omega arith) (λ e. omega arith) in
    let high : b ≤ (if a == 244 then 143 else 191) = second_high a b 244 143 (omega arith) (λ e. omega arith) in
    let upper = (a - 240) * 64 + (b - 128) in
    let middle = upper * 64 + (d - 128) in
    let code : middle * 64 + (f - 128) ≡ c = omega arith in
    let second = continues r 2 (if a == 240 then 144 else 128) (if a == 244 then 143 else 191) (a - 240) b low high in
    let third = continues r 1 128 191 upper d (omega arith) (omega arith) in
    let fourth = continues r 0 128 191 middle f (omega arith) (omega arith) in
    along (encode4 c h) (then_goes {a = a ∷ []} (byte_goes a begin) (then_goes {a = b ∷ []} second (then_goes {a = d ∷ []} third
    (subst (λ x. Go (in_part r (Character 0 128 191 middle)) (f ∷ []) (put r x)) code fourth))))

itself_goes : (word : List ℕ) (c : ℕ) → IsUnescaped c → Go (at_rest word) (encode_utf8 c) (at_rest (word ++ encode_utf8 c))
itself_goes word c u = elim (cases_lt c 128) [
  | inl ascii ↦ along (encode1 c ascii) (byte_goes c (plain_byte c _ (put (at_rest word) c) (lead (at_rest word) c) u.no_backslash u.no_quote u.no_control ascii))
  | inr wide ↦ elim (cases_lt c 2048) [
    | inl two ↦ two_go word c wide two
    | inr long ↦ elim (cases_lt c 65536) [
      | inl three ↦ three_go word c u.scalar long three
      | inr four ↦ four_go word c u.scalar four
    ]
  ]
]

escaped_goes : (word : List ℕ) (letter c : ℕ) → escaped_by letter ≡ Some c → Go (at_rest word) (92 ∷ letter ∷ []) (at_rest (word ++ encode_utf8 c))
escaped_goes word letter c e =
    let no_unit : letter ≢ 117 = λ u. let none = sym (ap escaped_by u) ∙ e in cc in
    then_goes {a = 92 ∷ []} (byte_goes 92 refl) (byte_goes {s = in_part (at_rest word) Escape} letter
    (ap (λ (r : Bool). if r then Some (in_part (at_rest word) Unit0) else option_map (λ c. put (at_rest word) c) (escaped_by letter)) (not_equal letter 117 no_unit) ∙ ap (option_map (λ c. put (at_rest word) c)) e))

no_low_start : (a b c d unit : ℕ) → c < 16 → d < 16 → unit ≡ ((a * 16 + b) * 16 + c) * 16 + d → (unit < 56320) ⊎ (57344 ≤ unit) → (a * 16 + b < 220) ⊎ (223 < a * 16 + b)
no_low_start a b c d unit h k e (inl x) = inl (omega arith)
no_low_start a b c d unit h k e (inr x) = inr (omega arith)

unit_goes : (word text : List ℕ) (unit : ℕ) → SpellsUnit text unit → (unit < 56320) ⊎ (57344 ≤ unit) → (next : WordState) → with_unit (at_rest word) unit ≡ Some next → Go (at_rest word) text next
unit_goes word text unit u n next e =
    let r = at_rest word in
    let a = digit_value u.0 in
    let b = digit_value u.1 in
    let c = digit_value u.2 in
    let d = digit_value u.3 in
    let open_two : with_two r (a * 16 + b) ≡ Some (in_part r (Unit2 (a * 16 + b))) =
    ap (λ (t : Bool). if t then None else Some (in_part r (Unit2 (a * 16 + b)))) (not_in_range 220 223 (a * 16 + b) (no_low_start a b c d unit u.7 u.8 u.9 n)) in
    along u.4 (then_goes {a = 92 ∷ []} (byte_goes 92 refl)
    (then_goes {a = 117 ∷ []} (byte_goes {s = in_part r Escape} 117 refl)
    (then_goes {a = u.0 ∷ []} (byte_goes {s = in_part r Unit0} u.0 (hex_taken (λ d. Some (in_part r (Unit1 d))) u.0 u.5))
    (then_goes {a = u.1 ∷ []} (byte_goes {s = in_part r (Unit1 a)} u.1 (hex_taken (λ d. with_two r (a * 16 + d)) u.1 u.6 ∙ open_two))
    (then_goes {a = u.2 ∷ []} (byte_goes {s = in_part r (Unit2 (a * 16 + b))} u.2 (hex_taken (λ d. Some (in_part r (Unit3 ((a * 16 + b) * 16 + d)))) u.2 u.7))
    (byte_goes {s = in_part r (Unit3 ((a * 16 + b) * 16 + c))} u.3 (hex_taken (λ d. with_unit r (((a * 16 + b) * 16 + c) * 16 + d)) u.3 u.8 ∙ ap (with_unit r) (sym u.9) ∙ e)))))))

low_digits : (a b c d low : ℕ) → a < 16 → b < 16 → c < 16 → d < 16 → low ≡ ((a * 16 + b) * 16 + c) * 16 + d → 56320 ≤ low → low < 57344 → (a ≡ 13) × (12 ≤ b)
low_digits a b c d low h1 h2 h3 h4 e k l = (omega arith, omega arith)

low_same : (a b c d low : ℕ) → a ≡ 13 → low ≡ ((a * 16 + b) * 16 + c) * 16 + d → ((208 + b) * 16 + c) * 16 + d ≡ low
low_same a b c d low h e = omega arith

low_goes : (word text : List ℕ) (high low : ℕ) → SpellsUnit text low → IsLowSurrogate low → Go (in_part (at_rest word) (High high)) text (at_rest (word ++ encode_utf8 (paired high low)))
low_goes word text high low u i =
    let r = at_rest word in
    let a = digit_value u.0 in
    let b = digit_value u.1 in
    let c = digit_value u.2 in
    let d = digit_value u.3 in
    let digits = low_digits a b c d low u.5 u.6 u.7 u.8 u.9 i.0 i.1 in
    along u.4 (then_goes {a = 92 ∷ []} (byte_goes 92 refl)
    (then_goes {a = 117 ∷ []} (byte_goes {s = in_part r (LowEscape high)} 117 refl)
    (then_goes {a = u.0 ∷ []} (byte_goes {s = in_part r (Low0 high)} u.0 (hex_taken (λ d. with_low_one r high d) u.0 u.5 ∙ ap (with_low_one r high) digits.0))
    (then_goes {a = u.1 ∷ []} (byte_goes {s = in_part r (Low1 high)} u.1 (hex_taken (λ d. with_low_two r high d) u.1 u.6 ∙ ap (λ (t : Bool). if t then Some (in_part r (Low2 high (208 + b))) else None) (least b digits.1)))
    (then_goes {a = u.2 ∷ []} (byte_goes {s = in_part r (Low2 high (208 + b))} u.2 (hex_taken (λ d. Some (in_part r (Low3 high ((208 + b) * 16 + d)))) u.2 u.7))
    (byte_goes {s = in_part r (Low3 high ((208 + b) * 16 + c))} u.3 (hex_taken (λ d. Some (put r (paired high (((208 + b) * 16 + c) * 16 + d)))) u.3 u.8 ∙ ap (λ x. Some (put r (paired high x))) (low_same a b c d low digits.0 u.9))))))))
  where
    least : (b : ℕ) → 12 ≤ b → nat_le 12 b ≡ true
    least b h = grind (arith, nat_tests)

character_goes : (word text : List ℕ) (c : ℕ) → SpellsCharacter text c → Go (at_rest word) text (at_rest (word ++ encode_utf8 c))
character_goes word text c (itself u e) = along e (itself_goes word c u)
character_goes word text c (escaped letter s e) = along e (escaped_goes word letter c s)
character_goes word text c (by_unit u s) =
    let range : (c < 55296) ⊎ (57344 ≤ c) = elim (scalar_cases c s) [ inl x ↦ inl x | inr x ↦ inr x.0 ] in
    let no_half : (c < 56320) ⊎ (57344 ≤ c) = elim range [ inl x ↦ inl (omega arith) | inr x ↦ inr x ] in
    let no_high : (c < 55296) ⊎ (56319 < c) = elim range [ inl x ↦ inl x | inr x ↦ inr (omega arith) ] in
    unit_goes word text c u no_half (put (at_rest word) c) (ap (λ (r : Bool). if r then Some (in_part (at_rest word) (High c)) else Some (put (at_rest word) c)) (not_in_range 55296 56319 c no_high))
character_goes word text c (by_pair first second high low u h v i e same) = along e (subst (λ x. Go (at_rest word) (first ++ second) (at_rest (word ++ encode_utf8 x))) (sym same)
    (then_goes (unit_goes word first high u (inl h.1) (in_part (at_rest word) (High high)) (ap (λ (r : Bool). if r then Some (in_part (at_rest word) (High high)) else Some (put (at_rest word) high)) (in_range 55296 56319 high h.0 (omega (arith, h.1)))))
    (low_goes word second high low v i)))

pub word_goes : (text cs : List ℕ) → SpellsCharacters text cs → Go word_start text (at_rest (encode_utf8_all cs))
word_goes _ _ none = none_goes
word_goes text all (more front last cs c s one te ae) =
    along te (subst (λ x. Go word_start (front ++ last) (at_rest x)) (sym (ap encode_utf8_all ae ∙ encodes-append cs (c ∷ []) ∙ ap (λ x. encode_utf8_all cs ++ x) (append-nil (encode_utf8 c))))
    (then_goes (word_goes front cs s) (character_goes (encode_utf8_all cs) last c one)))
