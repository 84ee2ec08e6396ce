use Rattle.std.proofs.Common.{◌≡◌, ◌∙◌, codes, subst, option_map}
use Rattle.std.proofs.lemmas.Result.{err_from_is_err_and}
use Rattle.clap.specs.Words.{rows_of, found_of}
use Rattle.clap.proofs.WalkLemmas.{first_value-rows}
use Rattle.fold_commands.specs.Words.{MeanDrill, NamesCount, Says, said_in}
use Rattle.fold_commands.proofs.Meaning.{no_option}
use Rattle.fold_commands.proofs.words.drill_options.Goals as goal

pub returns-in_err-count-clause-err : goal.returns-in_err-count-clause-err
returns-in_err-count-clause-err c =
    let found = found_of c.args.options.now in
    let said : option_map (λ s. s.now) c.get_str.result ≡ said_in (rows_of found) (codes "count") = c.get_str.ensures ∙ first_value-rows found (codes "count") in
    let p = err_from_is_err_and c.from_residual.result c.from_residual.ensures.1 in
    rw (p.1, p.2) (no_option (MeanDrill (said_in (rows_of found))) NamesCount 100 (said_in (rows_of found)) (codes "count") _ _ (λ o h. (o.count, h)) said c.in_err-count.ensures.err)

pub returns-clause-ok : goal.returns-clause-ok
returns-clause-ok c =
    let found = found_of c.args.options.now in
    let said : option_map (λ s. s.now) c.get_str.result ≡ said_in (rows_of found) (codes "count") = c.get_str.ensures ∙ first_value-rows found (codes "count") in
    subst (λ t. Says NamesCount 100 t c.in_ok-count.count) said c.in_ok-count.ensures.ok
