use Rattle.std.proofs.Common.{subst, sym}
use Rattle.std.specs.Str.{IsUtf8}
use Rattle.std.proofs.lemmas.Str.{IsUtf8-from_ascii}
use Rattle.json_tree.specs.NumberForm.{text_of}
use Rattle.json_tree.proofs.NumberBytes.{number_ascii}
use Rattle.json_tree.proofs.number.NumberText.as_str.Goals as goal

pub from_utf8_unchecked-requires : goal.from_utf8_unchecked-requires
from_utf8_unchecked-requires c =
    let text = text_of c.self.inside.form in
    subst IsUtf8 (sym c.bytes.ensures) (IsUtf8-from_ascii text (number_ascii text c.self.invariant.number))
