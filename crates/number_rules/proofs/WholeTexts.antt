-- Plain digits: what is read of them is the number whose digits they are, and each number is read
-- of its digits.
use Rattle.std.proofs.Common.{◌≡◌, ℕ, ℤ, pos, negsuc, suc, ◌+◌, ◌-◌, ◌*◌, ◌/◌, ◌%◌, ◌^◌, ◌<◌, ◌≤◌, List, [], ◌∷◌, ◌++◌, refl, sym, ◌∙◌, ap, subst, length, take, drop, get_or, arith, Bool, true, false, Some, None, lit≤, append-nil, append_assoc, length-drop, to_z, of_z, ◌-ℤ◌, FitsSigned}
use Rattle.std.specs.Int.{w128}
use Rattle.std.proofs.lemmas.Int.{ints, to_z-of_z, to_z_pos, fits_signed_from_abs}
use Rattle.std.specs.Prelude.{if◌then◌else◌, ◌==◌, ◌&&◌, nat_le, not, Option, unsigned_abs}
use Rattle.std.specs.Char.{is_ascii_digit}
use Rattle.std.specs.Fmt.{decimal, signed_decimal}
use Rattle.std.proofs.lemmas.Fmt.{decimal_digit, decimal_step_wide, decimal_by_steps_wide}
use Rattle.std.proofs.lemmas.List.{take_more, take_all}
use Rattle.std.proofs.lemmas.Bool.Decides.{nat_tests}
use Rattle.number_rules.specs.declared.whole_text.Digits.{Digits}
use Rattle.number_rules.specs.declared.whole_text.Digits.TheVariants.{Nothing, Number, Other}
use Rattle.number_rules.specs.WholeText.{most, number_up_to_most, with_byte, with_bytes, before_comma, behind_comma}
use Rattle.number_rules.specs.Value.{begins_with_minus}

with_bytes-snoc : (d : Digits) (text : List ℕ) (b : ℕ) → with_bytes d (text ++ b ∷ []) ≡ with_byte (with_bytes d text) b
with_bytes-snoc d [] b = refl
with_bytes-snoc d (x ∷ text) b = with_bytes-snoc (with_byte d x) text b

pub with_more : (text : List ℕ) (i : ℕ) → i < length text → with_bytes Nothing (take (i + 1) text) ≡ with_byte (with_bytes Nothing (take i text)) (get_or text i 0)
with_more text i h = ap (with_bytes Nothing) (take_more text i 0 h) ∙ with_bytes-snoc Nothing (take i text) (get_or text i 0)

pub fits_digits : (n : ℕ) → n ≤ most → n < 10 ^ 64
fits_digits n h = let e : suc most ≤ 10 ^ 64 = lit≤ tt in omega (arith, e, h)

is_digit : (n : ℕ) → n < 10 → is_ascii_digit (48 + n) ≡ true
is_digit n h = grind (arith, nat_tests)

up_to_most : (n : ℕ) → n ≤ most → number_up_to_most n ≡ Number n
up_to_most n h = ap (λ t. if t then Number n else Other) (le_true n most h)
  where
    le_true : (n m : ℕ) → n ≤ m → nat_le n m ≡ true
    le_true n m h = grind (arith, nat_tests)

-- each number is read of its digits
pub each_read : (n : ℕ) → n ≤ most → with_bytes Nothing (decimal n) ≡ Number n
each_read n h = decimal_by_steps_wide (λ m ds. m ≤ most → with_bytes Nothing ds ≡ Number m) one more n (fits_digits n h) h
  where
    one : (m : ℕ) → m < 10 → m ≤ most → with_bytes Nothing ((48 + m) ∷ []) ≡ Number m
    one m small k = let e : 48 + m - 48 ≡ m = omega arith in
        ap (λ t. if t then Number (48 + m - 48) else Other) (is_digit m small) ∙ ap Number e

    not_zero : (m : ℕ) → 10 ≤ m → not (m / 10 == 0) ≡ true
    not_zero m h = grind (arith, nat_tests)

    more : (m : ℕ) (ds : List ℕ) → 10 ≤ m → (m / 10 ≤ most → with_bytes Nothing ds ≡ Number (m / 10)) → m ≤ most → with_bytes Nothing (ds ++ ((48 + m % 10) ∷ [])) ≡ Number m
    more m ds ten before k =
        let small : m % 10 < 10 = omega arith in
        let e : 10 * (m / 10) + (48 + m % 10 - 48) ≡ m = omega arith in
        with_bytes-snoc Nothing ds (48 + m % 10) ∙ ap (λ (d : Digits). with_byte d (48 + m % 10)) (before (omega (arith, k)))
        ∙ ap (λ (t : Bool). if t && not (m / 10 == 0) then number_up_to_most (10 * (m / 10) + (48 + m % 10 - 48)) else Other) (is_digit (m % 10) small)
        ∙ ap (λ (t : Bool). if t then number_up_to_most (10 * (m / 10) + (48 + m % 10 - 48)) else Other) (not_zero m ten)
        ∙ ap number_up_to_most e ∙ up_to_most m k

digit_at_least : (b : ℕ) → is_ascii_digit b ≡ true → 48 ≤ b
digit_at_least b e = grind (arith, nat_tests)

digit_at_most : (b : ℕ) → is_ascii_digit b ≡ true → b ≤ 57
digit_at_most b e = grind (arith, nat_tests)

-- what some bytes are, where they are read as this
abbrev Holds : List ℕ → Digits → Type 0
Holds bs Nothing = bs ≡ []
Holds bs (Number n) = (bs ≡ decimal n) × (n ≤ most)
Holds bs Other = Unit

under_most : (n : ℕ) → n ≤ 9 → n ≤ most
under_most n h = let e : 9 ≤ most = lit≤ tt in omega (arith, e, h)

first_digit : (b : ℕ) → is_ascii_digit b ≡ true → (b ∷ [] ≡ decimal (b - 48)) × (b - 48 ≤ most)
first_digit b e =
    let low : 48 ≤ b = digit_at_least b e in
    let high : b ≤ 57 = digit_at_most b e in
    let back : 48 + (b - 48) ≡ b = omega arith in
    (sym (decimal_digit (b - 48) (omega arith) ∙ ap (λ (x : ℕ). x ∷ []) back), under_most (b - 48) (omega arith))

one_more : (bs : List ℕ) (n b : ℕ) → is_ascii_digit b ≡ true → ¬ (n ≡ 0) → bs ≡ decimal n → 10 * n + (b - 48) ≤ most → bs ++ b ∷ [] ≡ decimal (10 * n + (b - 48))
one_more bs n b e some is fits =
    let low : 48 ≤ b = digit_at_least b e in
    let high : b ≤ 57 = digit_at_most b e in
    let front : (10 * n + (b - 48)) / 10 ≡ n = omega arith in
    let last : 48 + (10 * n + (b - 48)) % 10 ≡ b = omega arith in
    let ten : 10 ≤ 10 * n + (b - 48) = omega arith in
    sym (decimal_step_wide (10 * n + (b - 48)) ten (fits_digits _ fits) ∙ ap (λ (m : ℕ). decimal m ++ ((48 + (10 * n + (b - 48)) % 10) ∷ [])) front ∙ ap (λ (x : ℕ). decimal n ++ (x ∷ [])) last ∙ ap (λ (ds : List ℕ). ds ++ b ∷ []) (sym is))

holds_more : (bs : List ℕ) (d : Digits) (b : ℕ) → Holds bs d → Holds (bs ++ b ∷ []) (with_byte d b)
holds_more bs Nothing b h = by_digit (is_ascii_digit b) refl
  where
    by_digit : (t : Bool) → is_ascii_digit b ≡ t → Holds (bs ++ b ∷ []) (if t then Number (b - 48) else Other)
    by_digit true e = (ap (λ (x : List ℕ). x ++ b ∷ []) h ∙ (first_digit b e).0, (first_digit b e).1)
    by_digit false e = tt
holds_more bs (Number n) b h = by_digit (is_ascii_digit b) refl (n == 0) refl
  where
    by_size : (t : Bool) → nat_le (10 * n + (b - 48)) most ≡ t → is_ascii_digit b ≡ true → ¬ (n ≡ 0) → Holds (bs ++ b ∷ []) (if t then Number (10 * n + (b - 48)) else Other)
    by_size true f e some = let k : 10 * n + (b - 48) ≤ most = le_of _ _ f in (one_more bs n b e some h.0 k, k)
      where
        le_of : (x y : ℕ) → nat_le x y ≡ true → x ≤ y
        le_of x y e = grind (arith, nat_tests)
    by_size false f e some = tt

    not_zero : (m : ℕ) → (m == 0) ≡ false → ¬ (m ≡ 0)
    not_zero m e = grind (arith, nat_tests)

    by_digit : (t : Bool) → is_ascii_digit b ≡ t → (u : Bool) → (n == 0) ≡ u → Holds (bs ++ b ∷ []) (if t && not u then number_up_to_most (10 * n + (b - 48)) else Other)
    by_digit true e false f = by_size (nat_le (10 * n + (b - 48)) most) refl e (not_zero n f)
    by_digit true e true f = tt
    by_digit false e u f = tt
holds_more bs Other b h = tt

holds_all : (front rest : List ℕ) (d : Digits) → Holds front d → Holds (front ++ rest) (with_bytes d rest)
holds_all front [] d h = subst (λ (x : List ℕ). Holds x d) (sym (append-nil front)) h
holds_all front (b ∷ rest) d h = subst (λ (x : List ℕ). Holds x (with_bytes (with_byte d b) rest)) (append_assoc front (b ∷ []) rest) (holds_all (front ++ b ∷ []) rest (with_byte d b) (holds_more front d b h))

-- a number that is read is that of the digits
pub read_of : (text : List ℕ) (n : ℕ) → Number n ≡ with_bytes Nothing text → (text ≡ decimal n) × (n ≤ most)
read_of text n e = subst (Holds text) (sym e) (holds_all [] text Nothing refl)

-- no digits begin with a minus
stuck : (text : List ℕ) → with_bytes Other text ≡ Other
stuck [] = refl
stuck (b ∷ text) = stuck text

pub no_minus : (text : List ℕ) (n : ℕ) → n ≤ most → text ≡ decimal n → begins_with_minus text ≡ false
no_minus [] n h e = refl
no_minus (b ∷ text) n h e = by_byte (b == 45) refl
  where
    by_byte : (t : Bool) → (b == 45) ≡ t → t ≡ false
    by_byte false f = refl
    by_byte true f = let read : with_bytes Nothing (b ∷ text) ≡ Number n = ap (with_bytes Nothing) e ∙ each_read n h in
        let other : with_bytes Nothing (b ∷ text) ≡ Other = ap (λ (x : ℕ). with_bytes (with_byte Nothing x) text) (is_45 b f) ∙ stuck text in
        absurd (differs (sym other ∙ read))
      where
        is_45 : (x : ℕ) → (x == 45) ≡ true → x ≡ 45
        is_45 x e = grind (arith, nat_tests)

        differs : Other ≡ Number n → ⊥
        differs e = cc

-- what stands behind a minus is the size of a number below zero
pub behind_minus : (text : List ℕ) (r : Option ℕ) → begins_with_minus text ≡ true → ((n : ℕ) → n ≤ most → take (length text - 1) (drop 1 text) ≡ decimal n → r ≡ Some n)
    → (z : ℤ) → unsigned_abs z ≤ most → text ≡ signed_decimal z → (n : ℕ) × (r ≡ Some (suc n)) × (z ≡ negsuc n)
behind_minus text r minus each (pos n) h e = let f : begins_with_minus text ≡ false = no_minus text n h e in absurd (cc)
behind_minus text r minus each (negsuc n) h e =
    let rest : take (length text - 1) (drop 1 text) ≡ drop 1 text = take_all (length text - 1) (drop 1 text) (omega (arith, length-drop 1 text)) in
    (n, each (suc n) h (rest ∙ ap (drop 1) e), refl)

pub one_read : (text : List ℕ) (m n : ℕ) → Number m ≡ with_bytes Nothing text → n ≤ most → text ≡ decimal n → Some m ≡ Some n
one_read text m n e h f = same (e ∙ ap (with_bytes Nothing) f ∙ each_read n h)
  where
    same : Number m ≡ Number n → Some m ≡ Some n
    same e = cc

-- digits without a comma
pub digits_without_comma : (n : ℕ) → n ≤ most → behind_comma (decimal n) ≡ None
digits_without_comma n h = decimal_by_steps_wide (λ m ds. behind_comma ds ≡ None) one more n (fits_digits n h)
  where
    no_comma : (m : ℕ) → (48 + m == 44) ≡ false
    no_comma m = grind (arith, nat_tests)

    one : (m : ℕ) → m < 10 → behind_comma ((48 + m) ∷ []) ≡ None
    one m h = ap (λ (t : Bool). if t then Some [] else None) (no_comma m)

    snoc : (ds : List ℕ) (b : ℕ) → (b == 44) ≡ false → behind_comma ds ≡ None → behind_comma (ds ++ (b ∷ [])) ≡ None
    snoc [] b f e = ap (λ (t : Bool). if t then Some [] else None) f
    snoc (x ∷ ds) b f e = by_byte (x == 44) e (snoc ds b f)
      where
        by_byte : (t : Bool) → (if t then Some ds else behind_comma ds) ≡ None → (behind_comma ds ≡ None → behind_comma (ds ++ (b ∷ [])) ≡ None) → (if t then Some (ds ++ (b ∷ [])) else behind_comma (ds ++ (b ∷ []))) ≡ None
        by_byte true e goes = absurd cc
        by_byte false e goes = goes e

    more : (m : ℕ) (ds : List ℕ) → 10 ≤ m → behind_comma ds ≡ None → behind_comma (ds ++ ((48 + m % 10) ∷ [])) ≡ None
    more m ds h e = snoc ds (48 + m % 10) (no_comma (m % 10)) e

pub without_comma : (z : ℤ) → unsigned_abs z ≤ most → behind_comma (signed_decimal z) ≡ None
without_comma (pos n) h = digits_without_comma n h
without_comma (negsuc n) h = digits_without_comma (suc n) h

-- what stands before and behind the first comma of a text
pub before_first : (front rest : List ℕ) → behind_comma front ≡ None → before_comma (front ++ (44 ∷ rest)) ≡ front
before_first [] rest e = refl
before_first (b ∷ front) rest e = by_byte (b == 44) e (before_first front rest)
  where
    by_byte : (t : Bool) → (if t then Some front else behind_comma front) ≡ None → (behind_comma front ≡ None → before_comma (front ++ (44 ∷ rest)) ≡ front) → (if t then [] else (b ∷ before_comma (front ++ (44 ∷ rest)))) ≡ b ∷ front
    by_byte true e goes = absurd cc
    by_byte false e goes = ap (λ (x : List ℕ). b ∷ x) (goes e)

pub behind_first : (front rest : List ℕ) → behind_comma front ≡ None → behind_comma (front ++ (44 ∷ rest)) ≡ Some rest
behind_first [] rest e = refl
behind_first (b ∷ front) rest e = by_byte (b == 44) e (behind_first front rest)
  where
    by_byte : (t : Bool) → (if t then Some front else behind_comma front) ≡ None → (behind_comma front ≡ None → behind_comma (front ++ (44 ∷ rest)) ≡ Some rest) → (if t then Some (front ++ (44 ∷ rest)) else behind_comma (front ++ (44 ∷ rest))) ≡ Some rest
    by_byte true e goes = absurd cc
    by_byte false e goes = goes e

pub joined_again : (text rest : List ℕ) → behind_comma text ≡ Some rest → text ≡ before_comma text ++ (44 ∷ rest)
joined_again [] rest e = absurd cc
joined_again (b ∷ text) rest e = by_byte (b == 44) refl e (joined_again text rest)
  where
    is_comma : (x : ℕ) → (x == 44) ≡ true → x ≡ 44
    is_comma x e = grind (arith, nat_tests)

    same : Some text ≡ Some rest → text ≡ rest
    same e = cc

    by_byte : (t : Bool) → (b == 44) ≡ t → (if t then Some text else behind_comma text) ≡ Some rest → (behind_comma text ≡ Some rest → text ≡ before_comma text ++ (44 ∷ rest)) → b ∷ text ≡ (if t then [] else (b ∷ before_comma text)) ++ (44 ∷ rest)
    by_byte true f e goes = ap (λ (x : ℕ). x ∷ text) (is_comma b f) ∙ ap (λ (x : List ℕ). 44 ∷ x) (same e)
    by_byte false f e goes = ap (λ (x : List ℕ). b ∷ x) (goes e)

-- a field before a comma
pub field : (text : List ℕ) (z : ℤ) (rest : List ℕ) → unsigned_abs z ≤ most → text ≡ signed_decimal z ++ (44 ∷ rest) → (before_comma text ≡ signed_decimal z) × (behind_comma text ≡ Some rest)
field text z rest h e = (ap before_comma e ∙ before_first (signed_decimal z) rest (without_comma z h), ap behind_comma e ∙ behind_first (signed_decimal z) rest (without_comma z h))

-- what is said of the number behind a minus
pub nothing_read : (r : Option ℕ) (n : ℕ) → r ≡ Some (suc n) → r ≡ None → ⊥
nothing_read r n e f = cc

pub zero_read : (r : Option ℕ) (n size : ℕ) → r ≡ Some (suc n) → r ≡ Some size → size ≡ 0 → ⊥
zero_read r n size e f g = let h : suc n ≡ size = cc in omega arith

pub below_size : (r : Option ℕ) (n size : ℕ) → r ≡ Some (suc n) → r ≡ Some size → size ≡ suc n
below_size r n size e f = cc

pub below_zero_read : (size : ℕ) (z : ℤ) (n : ℕ) → size ≡ suc n → z ≡ negsuc n → unsigned_abs z ≤ most → Some (to_z w128 (of_z w128 (pos 0 -ℤ to_z w128 size))) ≡ Some z
below_zero_read size z n e f h =
    let below : suc most ≤ 2 ^ 127 = lit≤ tt in
    let small : size ≤ most = subst (λ (m : ℕ). m ≤ most) (sym e) (subst (λ (x : ℤ). unsigned_abs x ≤ most) f h) in
    let opposite : pos 0 -ℤ pos (suc n) ≡ negsuc n = omega (arith, ints) in
    let is : pos 0 -ℤ to_z w128 size ≡ z = ap (λ (x : ℤ). pos 0 -ℤ x) (to_z_pos w128 size (omega (arith, below, small)) ∙ ap (λ (m : ℕ). pos m) e) ∙ opposite ∙ sym f in
    let fits : FitsSigned w128 z = fits_signed_from_abs w128 z (omega (arith, below, h)) in
    ap (λ (x : ℤ). Some x) (ap (λ (x : ℤ). to_z w128 (of_z w128 x)) is ∙ to_z-of_z w128 z fits)

-- digits of one number
digits_once : (m n : ℕ) → m ≤ most → n ≤ most → decimal m ≡ decimal n → m ≡ n
digits_once m n g h e = same (sym (each_read m g) ∙ ap (with_bytes Nothing) e ∙ each_read n h)
  where
    same : Number m ≡ Number n → m ≡ n
    same e = cc

no_sign : (m n : ℕ) → m ≤ most → decimal m ≡ 45 ∷ decimal (suc n) → ⊥
no_sign m n h e = differs (ap begins_with_minus (sym e) ∙ no_minus (decimal m) m h refl)
  where
    differs : true ≡ false → ⊥
    differs e = cc

pub whole_once : (y z : ℤ) → unsigned_abs y ≤ most → unsigned_abs z ≤ most → signed_decimal y ≡ signed_decimal z → y ≡ z
whole_once (pos m) (pos n) g h e = ap (λ (x : ℕ). pos x) (digits_once m n g h e)
whole_once (pos m) (negsuc n) g h e = absurd (no_sign m n g e)
whole_once (negsuc m) (pos n) g h e = absurd (no_sign n m h (sym e))
whole_once (negsuc m) (negsuc n) g h e = ap negsuc (below (digits_once (suc m) (suc n) g h (ap (drop 1) e)))
  where
    below : suc m ≡ suc n → m ≡ n
    below e = omega arith
