use Rattle.std.proofs.Common.{◌≡◌, rules, codes}
use Rattle.std.proofs.lemmas.Result.{err_from_is_err_and}
use Rattle.clap.specs.Words.{rows_of, found_of}
use Rattle.fold_commands.specs.Words.{MeanConvert, MeanDrill, MeanFold, MeanJudge, MeanRepair, said_in}
use Rattle.fold_commands.proofs.Decide.{no_convert, no_drill, no_fold, no_judge, no_repair}
use Rattle.fold_commands.proofs.Meaning.{no_meaning}
use Rattle.fold_commands.proofs.words.command_of.Goals as goal

pub returns-in_err-convert_options-clause-err : goal.returns-in_err-convert_options-clause-err
returns-in_err-convert_options-clause-err c =
    let said = said_in (rows_of (found_of c.args.options.now)) in
    let is : c.args.name.now ≡ codes "convert" = search rules in
    let p = err_from_is_err_and c.from_residual-in_err-convert_options.result c.from_residual-in_err-convert_options.ensures.1 in
    rw (p.1, p.2) (no_meaning (MeanConvert said) c.args.name.now said _ (no_convert c.args.name.now said is) c.in_err-convert_options.ensures.err)

pub returns-in_err-repair_options-clause-err : goal.returns-in_err-repair_options-clause-err
returns-in_err-repair_options-clause-err c =
    let said = said_in (rows_of (found_of c.args.options.now)) in
    let is : c.args.name.now ≡ codes "repair" = search rules in
    let p = err_from_is_err_and c.from_residual-in_err-repair_options.result c.from_residual-in_err-repair_options.ensures.1 in
    rw (p.1, p.2) (no_meaning (MeanRepair said) c.args.name.now said _ (no_repair c.args.name.now said is) c.in_err-repair_options.ensures.err)

pub returns-in_err-fold_options-clause-err : goal.returns-in_err-fold_options-clause-err
returns-in_err-fold_options-clause-err c =
    let said = said_in (rows_of (found_of c.args.options.now)) in
    let is : c.args.name.now ≡ codes "fold" = search rules in
    let p = err_from_is_err_and c.from_residual-in_err-fold_options.result c.from_residual-in_err-fold_options.ensures.1 in
    rw (p.1, p.2) (no_meaning (MeanFold said) c.args.name.now said _ (no_fold c.args.name.now said is) c.in_err-fold_options.ensures.err)

pub returns-in_err-judge_options-clause-err : goal.returns-in_err-judge_options-clause-err
returns-in_err-judge_options-clause-err c =
    let said = said_in (rows_of (found_of c.args.options.now)) in
    let is : c.args.name.now ≡ codes "judge" = search rules in
    let p = err_from_is_err_and c.from_residual-in_err-judge_options.result c.from_residual-in_err-judge_options.ensures.1 in
    rw (p.1, p.2) (no_meaning (MeanJudge said) c.args.name.now said _ (no_judge c.args.name.now said is) c.in_err-judge_options.ensures.err)

pub returns-in_err-drill_options-clause-err : goal.returns-in_err-drill_options-clause-err
returns-in_err-drill_options-clause-err c =
    let said = said_in (rows_of (found_of c.args.options.now)) in
    let is : c.args.name.now ≡ codes "drill" = search rules in
    let p = err_from_is_err_and c.from_residual-in_err-drill_options.result c.from_residual-in_err-drill_options.ensures.1 in
    rw (p.1, p.2) (no_meaning (MeanDrill said) c.args.name.now said _ (no_drill c.args.name.now said is) c.in_err-drill_options.ensures.err)
