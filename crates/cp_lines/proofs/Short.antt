-- what a text spells is no longer than the text
use Rattle.std.proofs.Common.{◌≡◌, ℕ, ◌+◌, ◌≤◌, List, [], ◌∷◌, ◌++◌, length, length-append, arith, sym, ap, subst, Option, Some, None}
use Rattle.std.specs.Prelude.{option_to_list}
use Rattle.std.specs.List.{AllByRecursion}
use Rattle.cp_lines.specs.CpText.{SpacedNumbers, KindAndNumbers, SpellsLine, EndedLines, none, one_more, CpText}
use Rattle.cp_lines.specs.Short.{HasNumbersUpTo}
use Rattle.cp_lines.specs.declared.line.CpLine.{CpLine}

split : (text front rest : List ℕ) → text ≡ front ++ rest → length text ≡ length front + length rest
split text front rest e = simp length-append at (ap length e)

split_three : (text a b c : List ℕ) → text ≡ a ++ b ++ c → length text ≡ (length a + length b) + length c
split_three text a b c e = simp length-append at (ap length e)

numbers_up_to : (most : ℕ) (ns : List (List ℕ)) (text : List ℕ) → SpacedNumbers ns text → length text ≤ most
    → AllByRecursion (λ n. length n ≤ most) ns
numbers_up_to most [] text h few = tt
numbers_up_to most (n ∷ ns) text h few =
    let sizes = split_three text h.0 n h.1 h.2 in
    (omega (arith, sizes), numbers_up_to most ns h.1 h.5 (omega (arith, sizes)))

line_up_to : (most : ℕ) (text : List ℕ) (l : Option CpLine) → SpellsLine text l → length text ≤ most
    → AllByRecursion (HasNumbersUpTo most) (option_to_list l)
line_up_to most text None s few = tt
line_up_to most text (Some l) s few =
    let whole = split text s.0 s.1 s.2 in
    let front = s.3 in
    let parts = split s.0 front.0 ((l.kind + 48) ∷ front.1) front.2 in
    let all = numbers_up_to most (l.x1 ∷ l.y1 ∷ l.x2 ∷ l.y2 ∷ []) front.1 front.5 (omega (arith, whole, parts)) in
    ((all.0, all.1.0, all.1.1.0, all.1.1.1.0), tt)

-- a line that spells something has a byte
line_count : (text : List ℕ) (l : Option CpLine) → SpellsLine text l → length (option_to_list l) ≤ length text
line_count text None s = omega arith
line_count text (Some l) s =
    let whole = split text s.0 s.1 s.2 in
    let front = s.3 in
    let parts = split s.0 front.0 ((l.kind + 48) ∷ front.1) front.2 in
    omega (arith, whole, parts)

all_both : {A : Type 0} (P : A → Type 0) (xs ys : List A) → AllByRecursion P xs → AllByRecursion P ys → AllByRecursion P (xs ++ ys)
all_both P [] ys a b = b
all_both P (x ∷ xs) ys a b = (a.0, all_both P xs ys a.1 b)

with_last : (most : ℕ) (lines earlier : List CpLine) (text : List ℕ) (l : Option CpLine) → AllByRecursion (HasNumbersUpTo most) earlier
    → SpellsLine text l → length text ≤ most → lines ≡ earlier ++ option_to_list l → AllByRecursion (HasNumbersUpTo most) lines
with_last most lines earlier text l a s few e =
    subst (AllByRecursion (HasNumbersUpTo most)) (sym e)
    (all_both (HasNumbersUpTo most) earlier (option_to_list l) a (line_up_to most text l s few))

ended_up_to : (most : ℕ) (text : List ℕ) (lines : List CpLine) → EndedLines text lines → length text ≤ most
    → AllByRecursion (HasNumbersUpTo most) lines
ended_up_to most _ _ none few = tt
ended_up_to most text lines (one_more before line end earlier l en sp ie te le) few =
    let sizes = split_three text before line end te in
    with_last most lines earlier line l (ended_up_to most before earlier en (omega (arith, sizes))) sp (omega (arith, sizes)) le

ended_count : (text : List ℕ) (lines : List CpLine) → EndedLines text lines → length lines ≤ length text
ended_count _ _ none = omega arith
ended_count text lines (one_more before line end earlier l en sp ie te le) =
    let sizes = split_three text before line end te in
    let counts : length lines ≡ length earlier + length (option_to_list l) = simp length-append at (ap length le) in
    let first = ended_count before earlier en in
    let last = line_count line l sp in
    omega (arith, sizes, counts, first, last)

pub numbers : (text : List ℕ) (lines : List CpLine) → CpText text lines → AllByRecursion (HasNumbersUpTo (length text)) lines
numbers text lines c =
    let sizes = split text c.0 c.1 c.6 in
    with_last (length text) lines c.2 c.1 c.3 (ended_up_to (length text) c.0 c.2 c.4 (omega (arith, sizes))) c.5 (omega (arith, sizes)) c.7

pub count : (text : List ℕ) (lines : List CpLine) → CpText text lines → length lines ≤ length text
count text lines c =
    let sizes = split text c.0 c.1 c.6 in
    let counts : length lines ≡ length c.2 + length (option_to_list c.3) = simp length-append at (ap length c.7) in
    let first = ended_count c.0 c.2 c.4 in
    let last = line_count c.1 c.3 c.5 in
    omega (arith, sizes, counts, first, last)
