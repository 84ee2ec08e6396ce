-- a text of few digits is the text of one number
use Rattle.std.proofs.Common.{◌≡◌, ℕ, ℤ, pos, negsuc, suc, ◌+◌, ◌/◌, ◌%◌, ◌^◌, ◌<◌, ◌≤◌, List, [], ◌∷◌, length, cond, refl, sym, ◌∙◌, ap, subst, Bool, true, false, Option, Some, None, arith}
use Rattle.std.specs.Prelude.{◌&&◌, if◌then◌else◌, codes, nat_lt, is_some}
use Rattle.std.specs.Fmt.{decimal, signed_decimal, digits, digit_glyph, digits_onto}
use Rattle.std.specs.Str.{bytes_eq}
use Rattle.std.specs.Str.Parse.{AllDigits, digits_value}
use Rattle.std.proofs.Math.Nat.{one-le-pow}
use Rattle.std.proofs.lemmas.Bool.{ne_eqb}
use Rattle.std.proofs.lemmas.Bool.Decides.{nat_tests}
use Rattle.std.proofs.lemmas.Fmt.{decimal_is_IsNumeral_wide, decimal_digit, length-decimal-le}
use Rattle.std.proofs.lemmas.Slice.Eq.{bytes_eq-Decides}
use Rattle.std.proofs.lemmas.Str.Parse.{digit_from_value}
use Rattle.fold_keys.specs.Elements.{id_in_text}

-- a number of more than k digits fills k places
fills : (k n : ℕ) (acc : List ℕ) → 10 ^ k ≤ n
    → length (digits_onto k 10 false n acc) ≡ k + length acc
fills Prim.Native.Nat.zero n acc h = omega arith
fills (suc k) n acc h =
    let more : 10 ^ k ≤ n / 10 = omega (arith, h) in
    let some : 0 < n / 10 = omega (arith, more, one-le-pow k 10 (omega arith)) in
    ap (λ b. length (cond b (digit_glyph false (n % 10) ∷ acc)
    (digits_onto k 10 false (n / 10) (digit_glyph false (n % 10) ∷ acc))))
    (ne_eqb (n / 10) 0 (λ e. omega (arith, e, some)))
    ∙ fills k (n / 10) (digit_glyph false (n % 10) ∷ acc) more ∙ omega arith

fills_64 : (n : ℕ) → 10 ^ 64 ≤ n → length (decimal n) ≡ 64
unfolding digits
fills_64 n h = fills 64 n [] h

lower : (a b : ℕ) → nat_lt a b ≡ true → a < b
lower a b e = grind (arith, nat_tests)

upper : (a b : ℕ) → nat_lt a b ≡ false → b ≤ a
upper a b e = grind (arith, nat_tests)

-- a number whose text has fewer than 64 digits has no more
few_digits : (n : ℕ) → length (decimal n) < 64 → n < 10 ^ 64
few_digits n short = at (nat_lt n (10 ^ 64)) refl
  where
    at : (b : Bool) → nat_lt n (10 ^ 64) ≡ b → n < 10 ^ 64
    at true e = lower n (10 ^ 64) e
    at false e = absurd (omega (arith, fills_64 n (upper n (10 ^ 64) e), short))

-- the text of a number of few digits is that of no other
pub one_decimal : (m n : ℕ) → m < 10 ^ 64 → length (decimal m) < 64 → decimal m ≡ decimal n → m ≡ n
one_decimal m n small short e =
    let few : n < 10 ^ 64 = few_digits n (subst (λ t. length t < 64) e short) in
    sym (decimal_is_IsNumeral_wide m small).1 ∙ ap (digits_value 10) e
    ∙ (decimal_is_IsNumeral_wide n few).1

-- what is spelled as an id is one
picked_small : (a b : Bool) (v m : ℕ) (text : List ℕ) → bytes_eq text (decimal v) ≡ a
    → nat_lt v (2 ^ 32) ≡ b → (if a && b then Some v else None) ≡ Some m
    → (m < 2 ^ 32) × (decimal m ≡ text)
picked_small true true v m text i l e =
    let same : v ≡ m = cc in
    subst (λ k. (k < 2 ^ 32) × (decimal k ≡ text)) same
    (lower v (2 ^ 32) l, sym ((bytes_eq-Decides text (decimal v)).0 i))
picked_small true false v m text i l e = cc
picked_small false b v m text i l e = cc

pub small_id : (n : ℕ) → is_some (id_in_text (decimal n)) ≡ true → n < 2 ^ 32
small_id n is = at (id_in_text (decimal n)) refl is
  where
    at : (o : Option ℕ) → id_in_text (decimal n) ≡ o → is_some o ≡ true → n < 2 ^ 32
    at None e is = cc
    at (Some m) e is =
        let v = digits_value 10 (decimal n) in
        let p = picked_small (bytes_eq (decimal n) (decimal v)) (nat_lt v (2 ^ 32)) v m
        (decimal n) refl refl e in
        let short = length-decimal-le 10 m (omega (arith, p.0)) (omega (arith, p.0)) in
        subst (λ k. k < 2 ^ 32)
        (one_decimal m n (omega (arith, p.0)) (omega (arith, short)) p.1) p.0

-- two ids with one text
pub one_id : (m n : ℕ) → is_some (id_in_text (decimal m)) ≡ true → decimal m ≡ decimal n → m ≡ n
one_id m n is e =
    let small = small_id m is in
    let short = length-decimal-le 10 m (omega (arith, small)) (omega (arith, small)) in
    one_decimal m n (omega (arith, small)) (omega (arith, short)) e

-- ---- sides

digit_text : (d n : ℕ) → d < 10 → (48 + d) ∷ [] ≡ decimal n → d ≡ n
digit_text d n small e =
    let spelled = decimal_digit d small in
    one_decimal d n (omega (arith, small)) (subst (λ t. length t < 64) (sym spelled) (omega arith))
    (spelled ∙ e)

pub is_one : (z : ℤ) → bytes_eq (signed_decimal z) (codes "1") ≡ true → z ≡ pos 1
is_one (pos n) h =
    ap pos (sym (digit_text 1 n (omega arith)
    (sym ((bytes_eq-Decides (decimal n) (codes "1")).0 h))))
is_one (negsuc n) h =
    let clash : 45 ∷ decimal (suc n) ≡ codes "1" =
    (bytes_eq-Decides (45 ∷ decimal (suc n)) (codes "1")).0 h in absurd (cc)

pub is_zero : (z : ℤ) → bytes_eq (signed_decimal z) (codes "0") ≡ true → z ≡ pos 0
is_zero (pos n) h =
    ap pos (sym (digit_text 0 n (omega arith)
    (sym ((bytes_eq-Decides (decimal n) (codes "0")).0 h))))
is_zero (negsuc n) h =
    let clash : 45 ∷ decimal (suc n) ≡ codes "0" =
    (bytes_eq-Decides (45 ∷ decimal (suc n)) (codes "0")).0 h in absurd (cc)

tail_of : (a : ℕ) (xs ys : List ℕ) → a ∷ xs ≡ a ∷ ys → xs ≡ ys
tail_of a xs ys e = cc

pub is_minus_one : (z : ℤ) → bytes_eq (signed_decimal z) (codes "-1") ≡ true → z ≡ negsuc 0
is_minus_one (negsuc n) h =
    let text : 45 ∷ decimal (suc n) ≡ codes "-1" =
    (bytes_eq-Decides (45 ∷ decimal (suc n)) (codes "-1")).0 h in
    let one : 1 ≡ suc n =
    digit_text 1 (suc n) (omega arith) (sym (tail_of 45 (decimal (suc n)) (49 ∷ []) text)) in
    ap negsuc (omega (arith, one))
is_minus_one (pos n) h =
    let text : decimal n ≡ codes "-1" = (bytes_eq-Decides (decimal n) (codes "-1")).0 h in
    let few = few_digits n (subst (λ t. length t < 64) (sym text) (omega arith)) in
    let digits = subst (AllDigits 10) text (decimal_is_IsNumeral_wide n few).0.1 in
    absurd (omega (arith, (digit_from_value 45 digits.0).0))
