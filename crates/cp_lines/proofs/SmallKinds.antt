-- the kinds of lines that a text spells are at most 4
use Rattle.std.proofs.Common.{◌≡◌, ℕ, ◌≤◌, List, [], ◌++◌, All, sym, subst, Option, Some, None}
use Rattle.std.specs.Prelude.{option_to_list}
use Rattle.std.proofs.lemmas.List.Elements.{All-nil, All-cons, All-append}
use Rattle.cp_lines.specs.CpText.{SpellsLine, EndedLines, none, one_more, CpText}
use Rattle.cp_lines.specs.declared.line.CpLine.{CpLine}

abbrev IsSmall : CpLine → Type 0
IsSmall l = l.kind ≤ 4

line_kind : (text : List ℕ) (l : Option CpLine) → SpellsLine text l → All IsSmall (option_to_list l)
line_kind text None s = All-nil IsSmall
line_kind text (Some l) s = All-cons IsSmall l [] s.3.4 (All-nil IsSmall)

with_last : (lines earlier : List CpLine) (text : List ℕ) (l : Option CpLine) → All IsSmall earlier → SpellsLine text l → lines ≡ earlier ++ option_to_list l → All IsSmall lines
with_last lines earlier text l a s e = subst (All IsSmall) (sym e) (All-append IsSmall earlier (option_to_list l) a (line_kind text l s))

ended_kinds : (text : List ℕ) (lines : List CpLine) → EndedLines text lines → All IsSmall lines
ended_kinds _ _ none = All-nil IsSmall
ended_kinds text lines (one_more before line end earlier l en sp ie te le) = with_last lines earlier line l (ended_kinds before earlier en) sp le

pub small_kinds : (text : List ℕ) (lines : List CpLine) → CpText text lines → All IsSmall lines
small_kinds text lines c = with_last lines c.2 c.1 c.3 (ended_kinds c.0 c.2 c.4) c.5 c.7
