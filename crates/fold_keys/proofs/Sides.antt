-- sides and letters by their texts
use Rattle.std.proofs.Common.{◌≡◌, ℕ, ◌≤◌, ◌<◌, length, get_or, List, [], ◌∷◌, refl, sym, ◌∙◌, ap, subst, Bool, true, false, Option, Some, None, arith}
use Rattle.std.specs.Prelude.{◌||◌, ◌≢◌, MatchOption, codes}
use Rattle.std.specs.Fmt.{decimal}
use Rattle.std.specs.Str.{bytes_eq}
use Rattle.std.proofs.lemmas.Bool.Decides.{nat_tests}
use Rattle.std.proofs.lemmas.Fmt.{decimal_digit}
use Rattle.std.proofs.lemmas.Slice.Eq.{bytes_eq-Decides}
use Rattle.fold_base.specs.Letter.{spelling}
use Rattle.fold_base.specs.declared.letter.Letter.{Letter}
use Rattle.fold_base.specs.declared.letter.Letter.TheVariants.{Border, Mountain, Valley, Flat, Unassigned, Cut, Join}
use Rattle.fold_keys.specs.Elements.{is_side, is_letter}

either : (a b : Bool) → b ≡ true → a || b ≡ true
either true b e = refl
either false b e = e

text_is : (text word : List ℕ) → bytes_eq text word ≡ true → word ≡ text
text_is text word h = sym ((bytes_eq-Decides text word).0 h)

pub side_one : (text : List ℕ) → bytes_eq text (codes "1") ≡ true
    → (decimal 1 ≡ text) × (is_side text ≡ true)
side_one text h = (
  decimal_digit 1 (omega arith) ∙ text_is text (codes "1") h,
  (λ i. h i || (bytes_eq text (codes "-1") || bytes_eq text (codes "0"))),
)

pub side_minus_one : (text : List ℕ) → bytes_eq text (codes "-1") ≡ true
    → (45 ∷ decimal 1 ≡ text) × (is_side text ≡ true)
side_minus_one text h = (
  ap (λ ds. 45 ∷ ds) (decimal_digit 1 (omega arith)) ∙ text_is text (codes "-1") h,
  either (bytes_eq text (codes "1")) _ (λ i. h i || bytes_eq text (codes "0")),
)

pub side_zero : (text : List ℕ) → bytes_eq text (codes "0") ≡ true
    → (decimal 0 ≡ text) × (is_side text ≡ true)
side_zero text h = (
  decimal_digit 0 (omega arith) ∙ text_is text (codes "0") h,
  either (bytes_eq text (codes "1")) _ (either (bytes_eq text (codes "-1")) _ h),
)

letter_known : (letter : Letter) → is_letter (spelling letter ∷ []) ≡ true
letter_known Border = refl
letter_known Mountain = refl
letter_known Valley = refl
letter_known Flat = refl
letter_known Unassigned = refl
letter_known Cut = refl
letter_known Join = refl

no_letter : (b : ℕ) → ((letter : Letter) → spelling letter ≢ b) → is_letter (b ∷ []) ≡ false
no_letter b h =
    let border = h Border in
    let mountain = h Mountain in
    let valley = h Valley in
    let flat = h Flat in
    let unassigned = h Unassigned in
    let cut = h Cut in
    let join = h Join in
    grind (arith, nat_tests)

letter_found : (b : ℕ) (found : Option Letter)
    → MatchOption found ((letter : Letter) → spelling letter ≢ b) (λ letter. spelling letter ≡ b)
    → MatchOption found (is_letter (b ∷ []) ≡ false)
    (λ letter. (spelling letter ∷ [] ≡ b ∷ []) × (is_letter (b ∷ []) ≡ true))
letter_found b None h = no_letter b h
letter_found b (Some letter) h =
    (ap (λ c. c ∷ []) h, subst (λ c. is_letter (c ∷ []) ≡ true) h (letter_known letter))

one_byte : (word : List ℕ) → 1 ≤ length word → length word < 2 → get_or word 0 0 ∷ [] ≡ word
one_byte [] low high = absurd (omega arith)
one_byte (b ∷ []) low high = refl
one_byte (b ∷ c ∷ cs) low high = absurd (omega arith)

pub letter_in : (word : List ℕ) (found : Option Letter) → 1 ≤ length word → length word < 2
    → MatchOption found ((letter : Letter) → spelling letter ≢ get_or word 0 0)
    (λ letter. spelling letter ≡ get_or word 0 0)
    → MatchOption found (is_letter word ≡ false)
    (λ letter. (spelling letter ∷ [] ≡ word) × (is_letter word ≡ true))
letter_in word found low high h =
    subst (λ w. MatchOption found (is_letter w ≡ false)
    (λ letter. (spelling letter ∷ [] ≡ w) × (is_letter w ≡ true))) (one_byte word low high)
    (letter_found (get_or word 0 0) found h)
