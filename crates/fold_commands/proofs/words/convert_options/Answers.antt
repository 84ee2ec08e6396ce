use Rattle.std.proofs.Common.{◌≡◌, ◌∙◌, codes, subst, option_map}
use Rattle.std.proofs.lemmas.Result.{err_from_is_err_and}
use Rattle.clap.specs.Words.{rows_of, found_of}
use Rattle.clap.proofs.WalkLemmas.{first_value-rows}
use Rattle.fold_commands.specs.Words.{Says, NamesFormat, NamesNumber, said_in}
use Rattle.fold_commands.specs.declared.words.Format.TheVariants.{Fold}
use Rattle.fold_commands.specs.NumberOption.{NamesChoice}
use Rattle.fold_commands.specs.declared.number_option.NumberChoice.TheVariants.{Exact}
use Rattle.fold_commands.proofs.Meaning.{no_choice, no_from, no_to, no_frame}
use Rattle.fold_commands.proofs.words.convert_options.Goals as goal

pub returns-in_err-from-clause-err : goal.returns-in_err-from-clause-err
returns-in_err-from-clause-err c =
    let found = found_of c.args.options.now in
    let said : option_map (λ s. s.now) c.get_str.result ≡ said_in (rows_of found) (codes "from") = c.get_str.ensures ∙ first_value-rows found (codes "from") in
    let p = err_from_is_err_and c.from_residual.result c.from_residual.ensures.1 in
    rw (p.1, p.2) (no_from (said_in (rows_of found)) _ c.in_err-from.field-0.0 said c.in_err-from.ensures.err.0 c.in_err-from.ensures.err.1)

pub returns-in_err-to-clause-err : goal.returns-in_err-to-clause-err
returns-in_err-to-clause-err c =
    let found = found_of c.args.options.now in
    let said : option_map (λ s. s.now) c.get_str-2.result ≡ said_in (rows_of found) (codes "to") = c.get_str-2.ensures ∙ first_value-rows found (codes "to") in
    let p = err_from_is_err_and c.from_residual-in_err-to.result c.from_residual-in_err-to.ensures.1 in
    rw (p.1, p.2) (no_to (said_in (rows_of found)) _ c.in_err-to.field-0.0 said c.in_err-to.ensures.err.0 c.in_err-to.ensures.err.1)

pub returns-in_err-frame-clause-err : goal.returns-in_err-frame-clause-err
returns-in_err-frame-clause-err c =
    let found = found_of c.args.options.now in
    let said : option_map (λ s. s.now) c.get_str-3.result ≡ said_in (rows_of found) (codes "frame") = c.get_str-3.ensures ∙ first_value-rows found (codes "frame") in
    let p = err_from_is_err_and c.from_residual-in_err-frame.result c.from_residual-in_err-frame.ensures.1 in
    rw (p.1, p.2) (no_frame (said_in (rows_of found)) _ c.in_err-frame.field-0.0 said c.in_err-frame.ensures.err)

pub returns-in_err-number-clause-err : goal.returns-in_err-number-clause-err
returns-in_err-number-clause-err c =
    let found = found_of c.args.options.now in
    let said : option_map (λ s. s.now) c.get_str-4.result ≡ said_in (rows_of found) (codes "number") = c.get_str-4.ensures ∙ first_value-rows found (codes "number") in
    let p = err_from_is_err_and c.from_residual-in_err-number.result c.from_residual-in_err-number.ensures.1 in
    rw (p.1, p.2) (no_choice (said_in (rows_of found)) _ c.in_err-number.field-0.0 said c.in_err-number.ensures.err)

pub returns-clause-ok : goal.returns-clause-ok
returns-clause-ok c =
    let found = found_of c.args.options.now in
    let from : option_map (λ s. s.now) c.get_str.result ≡ said_in (rows_of found) (codes "from") = c.get_str.ensures ∙ first_value-rows found (codes "from") in
    let to : option_map (λ s. s.now) c.get_str-2.result ≡ said_in (rows_of found) (codes "to") = c.get_str-2.ensures ∙ first_value-rows found (codes "to") in
    let frame : option_map (λ s. s.now) c.get_str-3.result ≡ said_in (rows_of found) (codes "frame") = c.get_str-3.ensures ∙ first_value-rows found (codes "frame") in
    let number : option_map (λ s. s.now) c.get_str-4.result ≡ said_in (rows_of found) (codes "number") = c.get_str-4.ensures ∙ first_value-rows found (codes "number") in (
      c.in_ok-from.from,
      c.in_ok-to.to,
      c.in_ok-frame.frame,
      c.in_ok-number.number,
      subst (λ t. Says NamesFormat Fold t c.in_ok-from.from) from c.in_ok-from.ensures.ok,
      subst (λ t. Says NamesFormat Fold t c.in_ok-to.to) to c.in_ok-to.ensures.ok,
      subst (λ t. Says NamesNumber 0 t c.in_ok-frame.frame) frame c.in_ok-frame.ensures.ok,
      subst (λ t. Says NamesChoice Exact t c.in_ok-number.number) number c.in_ok-number.ensures.ok,
      c.conversion.ensures,
    )
