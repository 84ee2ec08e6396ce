-- the texts of exact numbers as words: nothing in them is escaped
use Rattle.std.proofs.Common.{◌≡◌, ℕ, ℤ, pos, negsuc, suc, ◌+◌, ◌<◌, ◌≤◌, ◌^◌, ◌%◌, Bool, true, false, List, [], ◌∷◌, ◌++◌, refl, sym, ◌∙◌, ap, arith}
use Rattle.std.specs.Prelude.{unsigned_abs, ◌==◌, if◌then◌else◌}
use Rattle.std.specs.Fmt.{decimal, signed_decimal}
use Rattle.std.specs.List.{flat_map}
use Rattle.std.specs.Str.{IsAscii, chars}
use Rattle.std.proofs.lemmas.Bool.Decides.{nat_tests}
use Rattle.std.proofs.lemmas.Fmt.{decimal_by_steps_wide}
use Rattle.std.proofs.lemmas.Grind.{flat_map-append}
use Rattle.std.proofs.lemmas.List.{append-nil}
use Rattle.std.proofs.lemmas.Str.{chars-IsAscii, IsAscii-append}
use Rattle.std.proofs.lemmas.Str.Ascii.{IsAscii-nil, IsAscii-cons}
use Rattle.algebra.specs.LowestTerms.{Parts}
use Rattle.json_tree.specs.PrintedForm.{printed_character, printed_word}
use Rattle.number_rules.specs.ExactText.{AreShort, exact_text_of, root_mark}

-- ASCII, and each character is printed as it is
record IsPlain (text : List ℕ) : Type 0 where
  ascii : IsAscii text
  same : flat_map printed_character text ≡ text

plain_byte : (b : ℕ) → b < 128 → printed_character b ≡ b ∷ [] → IsPlain (b ∷ [])
plain_byte b below same = record {
  ascii = IsAscii-cons b [] below IsAscii-nil;
  same = append-nil (printed_character b) ∙ same;
}

plain_both : (s t : List ℕ) → IsPlain s → IsPlain t → IsPlain (s ++ t)
plain_both s t a b = record {
  ascii = IsAscii-append s t a.ascii b.ascii;
  same = flat_map-append printed_character s t ∙ (λ i. a.same i ++ b.same i);
}

printed_digit : (d : ℕ) → d < 10 → printed_character (48 + d) ≡ (48 + d) ∷ []
unfolding lib.Utf8.encode
printed_digit d below = grind (arith, nat_tests)

plain_digit : (d : ℕ) → d < 10 → IsPlain ((48 + d) ∷ [])
plain_digit d below = plain_byte (48 + d) (omega (arith, below)) (printed_digit d below)

plain_decimal : (n : ℕ) → n < 10 ^ 64 → IsPlain (decimal n)
plain_decimal n below =
    decimal_by_steps_wide (λ m ds. IsPlain ds) (λ m small. plain_digit m small)
    (λ m ds large plain. plain_both ds ((48 + m % 10) ∷ []) plain (plain_digit (m % 10) (omega arith))) n below

comma_plain : IsPlain (44 ∷ [])
unfolding lib.Utf8.encode
comma_plain = plain_byte 44 (omega arith) refl

plain_signed : (z : ℤ) → unsigned_abs z < 10 ^ 64 → IsPlain (signed_decimal z)
unfolding lib.Utf8.encode
plain_signed (pos n) below = plain_decimal n below
plain_signed (negsuc n) below = plain_both (45 ∷ []) (decimal (suc n)) (plain_byte 45 (omega arith) refl) (plain_decimal (suc n) below)

plain_mark : (three : Bool) → IsPlain (if three then 44 ∷ 51 ∷ [] else [])
plain_mark true = plain_both (44 ∷ []) (51 ∷ []) comma_plain (plain_digit 3 (omega arith))
plain_mark false = record { ascii = IsAscii-nil; same = refl }

plain_exact : (k : ℕ) (p : Parts) → AreShort p → IsPlain (exact_text_of k p)
plain_exact k p short =
    plain_both (signed_decimal p.a) _ (plain_signed p.a (omega (arith, short.a)))
    (plain_both (44 ∷ []) _ comma_plain
    (plain_both (signed_decimal p.b) _ (plain_signed p.b (omega (arith, short.b)))
    (plain_both (44 ∷ []) _ comma_plain
    (plain_both (signed_decimal p.q) (root_mark k) (plain_signed p.q (omega (arith, short.q))) (plain_mark (k == 3))))))

pub exact_word : (k : ℕ) (p : Parts) → AreShort p → printed_word (exact_text_of k p) ≡ (34 ∷ exact_text_of k p) ++ (34 ∷ [])
exact_word k p short =
    let plain = plain_exact k p short in
    ap (λ t. (34 ∷ flat_map printed_character t) ++ (34 ∷ [])) (chars-IsAscii (exact_text_of k p) plain.ascii)
    ∙ ap (λ t. (34 ∷ t) ++ (34 ∷ [])) plain.same
