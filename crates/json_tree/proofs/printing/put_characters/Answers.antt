use Rattle.std.proofs.Common.{◌++◌, string_bytes, ◌∙◌, ap, sym, map-id}
use Rattle.std.specs.List.{flat_map}
use Rattle.std.proofs.lemmas.Iterator.{YieldsList-from_chars}
use Rattle.std.proofs.lemmas.Iterator.Consumers.{YieldsList-end}
use Rattle.json_tree.specs.PrintedForm.{printed_character}
use Rattle.json_tree.proofs.printing.put_characters.Goals as goal

pub returns : goal.returns
returns c =
    let done = YieldsList-end (YieldsList-from_chars c.args.word.now c.utf8.word cc) c.loop-character.yielded _ c.loop-character.yielded_by _ _ c.in-None.is c.next.ensures.steps in
    c.loop-character.invariant ∙ ap (λ cs. string_bytes c.args.out.now ++ flat_map printed_character cs) (sym (map-id c.loop-character.yielded) ∙ done.0)
