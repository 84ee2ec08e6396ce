use Rattle.std.proofs.Common.{◌≡◌, ◌∙◌, codes, subst, option_map}
use Rattle.std.proofs.lemmas.Result.{err_from_is_err_and}
use Rattle.clap.specs.Words.{rows_of, found_of}
use Rattle.clap.proofs.WalkLemmas.{first_value-rows}
use Rattle.fold_commands.specs.Words.{Says, NamesFormat, said_in}
use Rattle.fold_commands.specs.declared.words.Format.TheVariants.{Fold}
use Rattle.fold_commands.proofs.Meaning.{no_format}
use Rattle.fold_commands.proofs.words.show_options.Goals as goal

pub returns-in_err-from-clause-err : goal.returns-in_err-from-clause-err
returns-in_err-from-clause-err c =
    let found = found_of c.args.options.now in
    let said : option_map (λ s. s.now) c.get_str.result ≡ said_in (rows_of found) (codes "from") = c.get_str.ensures ∙ first_value-rows found (codes "from") in
    let p = err_from_is_err_and c.from_residual.result c.from_residual.ensures.1 in
    rw (p.1, p.2) (no_format (said_in (rows_of found)) _ c.in_err-from.field-0.0 said c.in_err-from.ensures.err.0 c.in_err-from.ensures.err.1)

pub returns-clause-ok : goal.returns-clause-ok
returns-clause-ok c =
    let found = found_of c.args.options.now in
    let said : option_map (λ s. s.now) c.get_str.result ≡ said_in (rows_of found) (codes "from") = c.get_str.ensures ∙ first_value-rows found (codes "from") in
    subst (λ t. Says NamesFormat Fold t c.in_ok-from.from) said c.in_ok-from.ensures.ok
