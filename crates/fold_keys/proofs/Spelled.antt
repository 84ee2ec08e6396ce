-- ids and sides spell numbers
use Rattle.std.proofs.Common.{ℕ, suc, ◌<◌, ◌^◌, ◌++◌, List, [], ◌∷◌, get_or, refl, inl, inr, ℤ, pos, negsuc, FitsSigned, w8, arith}
use Rattle.std.specs.Fmt.{decimal, signed_decimal}
use Rattle.std.specs.Str.Parse.{AllDigits}
use Rattle.std.proofs.lemmas.Fmt.{decimal_is_IsNumeral, decimal_digit, first_decimal}
use Rattle.std.proofs.lemmas.Str.Parse.{digit_from_value}
use Rattle.std.proofs.lemmas.Int.{ints}
use Rattle.std.proofs.lemmas.List.{append-nil}
use Rattle.json_tree.specs.Number.{IsNumber, IsInt, AreDigits, IsMinusOrNone}

all_digits : (ds : List ℕ) → AllDigits 10 ds → AreDigits ds
all_digits [] d = tt
all_digits (b ∷ bs) d = (digit_from_value b d.0, all_digits bs d.1)

int_of : (ds : List ℕ) → AllDigits 10 ds → 48 < get_or ds 0 0 → IsInt ds
int_of [] d more = absurd (omega arith)
int_of (b ∷ bs) d more =
    let range = digit_from_value b d.0 in
    inr (b, bs, refl, (omega arith, omega arith), all_digits bs d.1)

decimal_is_int : (n : ℕ) → n < 2 ^ 64 → IsInt (decimal n)
decimal_is_int Prim.Native.Nat.zero small = inl (decimal_digit 0 (omega arith))
decimal_is_int (suc n) small =
    int_of (decimal (suc n)) (decimal_is_IsNumeral (suc n) small).0.1
    (first_decimal (suc n) (omega arith) small)

whole_number : (minus int : List ℕ) → IsMinusOrNone minus → IsInt int → IsNumber (minus ++ int)
whole_number minus int m i = (minus, int, [], [], simp append-nil, m, i, inr refl, inr refl)

pub id_is_number : (n : ℕ) → n < 2 ^ 64 → IsNumber (decimal n)
id_is_number n small = whole_number [] (decimal n) (inr refl) (decimal_is_int n small)

pub side_is_number : (z : ℤ) → FitsSigned w8 z → IsNumber (signed_decimal z)
side_is_number (pos n) fits =
    whole_number [] (decimal n) (inr refl) (decimal_is_int n (omega (arith, ints, fits)))
side_is_number (negsuc n) fits =
    whole_number (45 ∷ []) (decimal (suc n)) (inl refl)
    (decimal_is_int (suc n) (omega (arith, ints, fits)))
