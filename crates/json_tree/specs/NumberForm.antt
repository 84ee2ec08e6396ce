-- how the text of a number is kept
use Rattle.std.specs.Prelude.{ℕ, ◌≤◌, List, take}
use Rattle.json_tree.specs.Number.{IsNumber}
use Rattle.json_tree.specs.declared.number.Form.{Form}
use Rattle.json_tree.specs.declared.number.Form.TheVariants.{Short, Long}

-- a short text is the first so many bytes of its room
abbrev pub text_of : Form → List ℕ
text_of (Short count bytes) = take count bytes
text_of (Long text) = text.value

abbrev pub IsWithinRoom : Form → Type 0
IsWithinRoom (Short count bytes) = count ≤ 22
IsWithinRoom (Long text) = Unit {0}

-- the text spells a number
pub record IsNumberForm (form : Form) : Type 0 where
  pub within : IsWithinRoom form
  pub number : IsNumber (text_of form)
