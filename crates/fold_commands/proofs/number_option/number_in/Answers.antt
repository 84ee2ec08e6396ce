use Rattle.std.proofs.Common.{◌∙◌, ap, subst, Err}
use Rattle.std.specs.Str.Parse.{ParsesUnsigned}
use Rattle.fold_keys.specs.Elements.{id_in_text}
use Rattle.fold_keys.proofs.IdTexts.{id_parsed}
use Rattle.fold_commands.proofs.Meaning.{no_number}
use Rattle.fold_commands.proofs.number_option.number_in.Goals as goal

pub returns-in-Ok : goal.returns-in-Ok
returns-in-Ok c =
    c.ok.ensures.value
    ∙ id_parsed c.in-Ok.number c.parse.result c.as_str.ensures.number
    (subst (λ t. ParsesUnsigned 32 10 t c.parse.result) c.as_str.ensures.same c.parse.ensures.value.0)
    ∙ ap id_in_text c.in-Ok.ensures.same

pub returns-in-Err-NoNumber : goal.returns-in-Err-NoNumber
returns-in-Err-NoNumber c = no_number c.args.text.now (c.in-Err-NoNumber.ensures.no_number (ap Err c.in-Err-NoNumber.field-0-is))
