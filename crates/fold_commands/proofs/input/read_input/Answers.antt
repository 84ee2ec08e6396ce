use Rattle.std.proofs.Common.{◌≡◌, Err, ap, length, rules, subst, sym}
use Rattle.std.proofs.lemmas.Result.{err_from_is_err_and}
use Rattle.cp_lines.specs.Reads.{Reads}
use Rattle.cp_lines.specs.CpText.{CpText}
use Rattle.json_tree.specs.Tree.{HasLengthsUpTo}
use Rattle.fold_commands.specs.Status.{of_cp}
use Rattle.fold_commands.specs.Outcome.{IsReading, Spell}
use Rattle.fold_commands.specs.declared.input.Input.TheVariants as input
use Rattle.fold_commands.specs.declared.words.Format.TheVariants.{Cp}
use Rattle.fold_commands.proofs.Drawn.{sound_lines}
use Rattle.fold_commands.proofs.Reading.{unread_some, refused_cp}
use Rattle.fold_commands.proofs.input.read_input.Goals as goal

pub returns-in_err-reader-in-Fold-clause-answer : goal.returns-in_err-reader-in-Fold-clause-answer
returns-in_err-reader-in-Fold-clause-answer g c =
    let p = err_from_is_err_and c.from_residual.result c.from_residual.ensures.1 in
    let taken = c.in_err-reader-in-Fold.ensures.taken in
    rw (p.1, p.2) (unread_some c.args.format (g.S.Source.left c.args.source.now) _ (λ e. c.in_err-reader-in-Fold.ensures.too_long (ap Err e)) taken.0 taken.3)

pub returns-in_err-bytes-in-Cp-clause-answer : goal.returns-in_err-bytes-in-Cp-clause-answer
returns-in_err-bytes-in-Cp-clause-answer g c =
    let p = err_from_is_err_and c.from_residual-in_err-bytes-in-Cp.result c.from_residual-in_err-bytes-in-Cp.ensures.1 in
    let taken = c.in_err-bytes-in-Cp.ensures.taken in
    rw (p.1, p.2) (unread_some c.args.format (g.S.Source.left c.args.source.now) _ (λ e. c.in_err-bytes-in-Cp.ensures.too_long (ap Err e)) taken.0 taken.3)

pub returns-in_err-read_cp-in-Cp-clause-answer : goal.returns-in_err-read_cp-in-Cp-clause-answer
returns-in_err-read_cp-in-Cp-clause-answer g c =
    let p = err_from_is_err_and c.from_residual-in_err-read_cp-in-Cp.result c.from_residual-in_err-read_cp-in-Cp.ensures.1 in
    let all = c.in_ok-bytes-in-Cp.ensures.all in
    let format : c.args.format ≡ Cp = search rules in
    let text : c.as_slice.result.now ≡ all.0 = search rules in
    let answer : Reads all.0 (Err c.in_err-read_cp-in-Cp.field-0.0) = subst (λ b. Reads b (Err c.in_err-read_cp-in-Cp.field-0.0)) text c.in_err-read_cp-in-Cp.ensures.answer in
    rw (p.1, p.2) (all.0, all.1, subst (λ f. IsReading f all.0 (Err (of_cp c.in_err-read_cp-in-Cp.field-0.0))) (sym format) (refused_cp all.0 _ all.3 answer))

pub returns-in_ok-read_cp-in-Cp-clause-answer : goal.returns-in_ok-read_cp-in-Cp-clause-answer
returns-in_ok-read_cp-in-Cp-clause-answer g c =
    let all = c.in_ok-bytes-in-Cp.ensures.all in
    let format : c.args.format ≡ Cp = search rules in
    let text : c.as_slice.result.now ≡ all.0 = search rules in
    let spelled : CpText all.0 c.in_ok-read_cp-in-Cp.field-0 = subst (λ b. CpText b c.in_ok-read_cp-in-Cp.field-0) text c.in_ok-read_cp-in-Cp.ensures.answer in
    (all.0, all.1, (all.3, subst (λ f. Spell f all.0 (input.Cp c.in_ok-read_cp-in-Cp.field-0)) (sym format) spelled))

pub returns-in_ok-finish-in-Fold-clause-sound : goal.returns-in_ok-finish-in-Fold-clause-sound
returns-in_ok-finish-in-Fold-clause-sound g c =
    let all = c.in_ok-reader-in-Fold.ensures.all in
    let tree = c.in_ok-finish-in-Fold.field-0 in
    let lengths : HasLengthsUpTo (length all.0) tree = c.in_ok-finish-in-Fold.ensures.lengths all.0 all.2 in
    record {
      proper = c.in_ok-finish-in-Fold.ensures.proper all.0 all.2;
      lists = c.read_trees_are_readable.ensures.lists (length all.0) tree all.3 lengths;
      version = c.read_trees_are_readable.ensures.version (length all.0) tree all.3 lengths;
      short = (length all.0, all.3, lengths);
    }

pub returns-in_ok-read_cp-in-Cp-clause-sound : goal.returns-in_ok-read_cp-in-Cp-clause-sound
returns-in_ok-read_cp-in-Cp-clause-sound g c =
    let all = c.in_ok-bytes-in-Cp.ensures.all in
    let lines = c.in_ok-read_cp-in-Cp.field-0 in
    let text : c.as_slice.result.now ≡ all.0 = search rules in
    let spelled : CpText all.0 lines = subst (λ b. CpText b lines) text c.in_ok-read_cp-in-Cp.ensures.answer in
    sound_lines all.0 lines all.3 c.in_ok-read_cp-in-Cp.ensures.kinds
    (c.short_lines.ensures.count all.0 lines spelled) (c.short_lines.ensures.numbers all.0 lines spelled)
