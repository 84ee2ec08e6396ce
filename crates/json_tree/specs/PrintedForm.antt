-- the printed form of a tree: no blanks, members in their order, numbers as they were spelled; each
-- layer is said over the printed forms of what stands inside it
use Rattle.std.specs.Prelude.{ℕ, ◌/◌, ◌%◌, ◌==◌, nat_lt, List, [], ◌∷◌, ◌++◌, if◌then◌else◌, codes, encode_utf8}
use Rattle.std.specs.Char.{digit_char}
use Rattle.std.specs.List.{flat_map, join_with_byte}
use Rattle.std.specs.Str.{chars}
use Rattle.json_tree.specs.Spells.{truth_word}
use Rattle.json_tree.specs.declared.tree.Json.{Json, Json-F, fold-Json}
use Rattle.json_tree.specs.declared.tree.Json.TheFolds.{fold-Member}
use Rattle.json_tree.specs.declared.tree.Json.TheOpen.{Member-F}
use Rattle.json_tree.specs.declared.tree.Json.TheOpen as layers
use Rattle.json_tree.specs.declared.tree.Member.{Member}

-- a control character by its code, in two hexadecimal digits
abbrev pub printed_control : ℕ → List ℕ
printed_control c = codes "\\u00" ++ digit_char (c / 16) ∷ digit_char (c % 16) ∷ []

-- a character of a word: the quote, the backslash and the control characters escaped, all else as
-- it is
abbrev pub printed_character : ℕ → List ℕ
printed_character c =
    if c == 34 then codes "\\\"" else
    if c == 92 then codes "\\\\" else
    if c == 8 then codes "\\b" else
    if c == 12 then codes "\\f" else
    if c == 10 then codes "\\n" else
    if c == 13 then codes "\\r" else
    if c == 9 then codes "\\t" else
    if nat_lt c 32 then printed_control c else
    encode_utf8 c

abbrev pub printed_word : List ℕ → List ℕ
printed_word word = (34 ∷ []) ++ flat_map printed_character (chars word) ++ (34 ∷ [])

-- the comma that stands before each element but the first
abbrev pub comma_before : ℕ → List ℕ
comma_before place = if place == 0 then [] else (44 ∷ [])

abbrev pub printed_layer : Json-F (List ℕ) (List ℕ) → List ℕ
printed_layer layers.Null = codes "null"
printed_layer (layers.Truth is) = truth_word is
printed_layer (layers.Number text) = text
printed_layer (layers.Word word) = printed_word word
printed_layer (layers.List items) = (91 ∷ []) ++ join_with_byte 44 items ++ (93 ∷ [])
printed_layer (layers.Object members) = (123 ∷ []) ++ join_with_byte 44 members ++ (125 ∷ [])

abbrev pub printed_pair : Member-F (List ℕ) (List ℕ) → List ℕ
printed_pair m = printed_word m.key ++ (58 ∷ []) ++ m.value

abbrev pub printed_form : Json → List ℕ
printed_form tree = fold-Json (List ℕ) (List ℕ) printed_layer printed_pair tree

abbrev pub printed_member : Member → List ℕ
printed_member m = fold-Member (List ℕ) (List ℕ) printed_layer printed_pair m
