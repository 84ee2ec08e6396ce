use Rattle.std.proofs.Common.{◌≡◌, ◌∙◌, codes, subst, option_map}
use Rattle.std.proofs.lemmas.Result.{err_from_is_err_and}
use Rattle.clap.specs.Words.{rows_of, found_of}
use Rattle.clap.proofs.WalkLemmas.{first_value-rows}
use Rattle.drawing_repair.specs.declared.options.Faces.TheVariants.{Find}
use Rattle.drawing_repair.specs.declared.options.Flat.TheVariants.{Keep}
use Rattle.fold_commands.specs.NumberOption.{NamesChoice}
use Rattle.fold_commands.specs.Words.{MeanRepair, NamesFaces, NamesFlat, NamesFormat, NamesNumber, Says, said_in}
use Rattle.fold_commands.specs.declared.number_option.NumberChoice.TheVariants.{Exact}
use Rattle.fold_commands.specs.declared.words.Format.TheVariants.{Fold}
use Rattle.fold_commands.proofs.Meaning.{no_option, nothing_named}
use Rattle.fold_commands.proofs.words.repair_options.Goals as goal

pub returns-in_err-from-clause-err : goal.returns-in_err-from-clause-err
returns-in_err-from-clause-err c =
    let found = found_of c.args.options.now in
    let said : option_map (λ s. s.now) c.get_str.result ≡ said_in (rows_of found) (codes "from") = c.get_str.ensures ∙ first_value-rows found (codes "from") in
    let p = err_from_is_err_and c.from_residual.result c.from_residual.ensures.1 in
    rw (p.1, p.2) (no_option (MeanRepair (said_in (rows_of found))) NamesFormat Fold (said_in (rows_of found)) (codes "from") _ _ (λ o h. (o.from, h.from)) said (nothing_named NamesFormat Fold _ c.in_err-from.field-0.0 c.in_err-from.ensures.err))

pub returns-in_err-to-clause-err : goal.returns-in_err-to-clause-err
returns-in_err-to-clause-err c =
    let found = found_of c.args.options.now in
    let said : option_map (λ s. s.now) c.get_str-2.result ≡ said_in (rows_of found) (codes "to") = c.get_str-2.ensures ∙ first_value-rows found (codes "to") in
    let p = err_from_is_err_and c.from_residual-in_err-to.result c.from_residual-in_err-to.ensures.1 in
    rw (p.1, p.2) (no_option (MeanRepair (said_in (rows_of found))) NamesFormat Fold (said_in (rows_of found)) (codes "to") _ _ (λ o h. (o.to, h.to)) said (nothing_named NamesFormat Fold _ c.in_err-to.field-0.0 c.in_err-to.ensures.err))

pub returns-in_err-frame-clause-err : goal.returns-in_err-frame-clause-err
returns-in_err-frame-clause-err c =
    let found = found_of c.args.options.now in
    let said : option_map (λ s. s.now) c.get_str-3.result ≡ said_in (rows_of found) (codes "frame") = c.get_str-3.ensures ∙ first_value-rows found (codes "frame") in
    let p = err_from_is_err_and c.from_residual-in_err-frame.result c.from_residual-in_err-frame.ensures.1 in
    rw (p.1, p.2) (no_option (MeanRepair (said_in (rows_of found))) NamesNumber 0 (said_in (rows_of found)) (codes "frame") _ _ (λ o h. (o.frame, h.frame)) said c.in_err-frame.ensures.err)

pub returns-in_err-number-clause-err : goal.returns-in_err-number-clause-err
returns-in_err-number-clause-err c =
    let found = found_of c.args.options.now in
    let said : option_map (λ s. s.now) c.get_str-4.result ≡ said_in (rows_of found) (codes "number") = c.get_str-4.ensures ∙ first_value-rows found (codes "number") in
    let p = err_from_is_err_and c.from_residual-in_err-number.result c.from_residual-in_err-number.ensures.1 in
    rw (p.1, p.2) (no_option (MeanRepair (said_in (rows_of found))) NamesChoice Exact (said_in (rows_of found)) (codes "number") _ _ (λ o h. (o.number, h.number)) said c.in_err-number.ensures.err)

pub returns-in_err-flat-clause-err : goal.returns-in_err-flat-clause-err
returns-in_err-flat-clause-err c =
    let found = found_of c.args.options.now in
    let said : option_map (λ s. s.now) c.get_str-5.result ≡ said_in (rows_of found) (codes "flat") = c.get_str-5.ensures ∙ first_value-rows found (codes "flat") in
    let p = err_from_is_err_and c.from_residual-in_err-flat.result c.from_residual-in_err-flat.ensures.1 in
    rw (p.1, p.2) (no_option (MeanRepair (said_in (rows_of found))) NamesFlat Keep (said_in (rows_of found)) (codes "flat") _ _ (λ o h. (o.flat, h.flat)) said (nothing_named NamesFlat Keep _ c.in_err-flat.field-0.0 c.in_err-flat.ensures.err))

pub returns-in_err-faces-clause-err : goal.returns-in_err-faces-clause-err
returns-in_err-faces-clause-err c =
    let found = found_of c.args.options.now in
    let said : option_map (λ s. s.now) c.get_str-6.result ≡ said_in (rows_of found) (codes "faces") = c.get_str-6.ensures ∙ first_value-rows found (codes "faces") in
    let p = err_from_is_err_and c.from_residual-in_err-faces.result c.from_residual-in_err-faces.ensures.1 in
    rw (p.1, p.2) (no_option (MeanRepair (said_in (rows_of found))) NamesFaces Find (said_in (rows_of found)) (codes "faces") _ _ (λ o h. (o.faces, h.faces)) said (nothing_named NamesFaces Find _ c.in_err-faces.field-0.0 c.in_err-faces.ensures.err))

pub returns-clause-ok : goal.returns-clause-ok
returns-clause-ok c =
    let found = found_of c.args.options.now in
    let from_is : option_map (λ s. s.now) c.get_str.result ≡ said_in (rows_of found) (codes "from") = c.get_str.ensures ∙ first_value-rows found (codes "from") in
    let to_is : option_map (λ s. s.now) c.get_str-2.result ≡ said_in (rows_of found) (codes "to") = c.get_str-2.ensures ∙ first_value-rows found (codes "to") in
    let frame_is : option_map (λ s. s.now) c.get_str-3.result ≡ said_in (rows_of found) (codes "frame") = c.get_str-3.ensures ∙ first_value-rows found (codes "frame") in
    let number_is : option_map (λ s. s.now) c.get_str-4.result ≡ said_in (rows_of found) (codes "number") = c.get_str-4.ensures ∙ first_value-rows found (codes "number") in
    let flat_is : option_map (λ s. s.now) c.get_str-5.result ≡ said_in (rows_of found) (codes "flat") = c.get_str-5.ensures ∙ first_value-rows found (codes "flat") in
    let faces_is : option_map (λ s. s.now) c.get_str-6.result ≡ said_in (rows_of found) (codes "faces") = c.get_str-6.ensures ∙ first_value-rows found (codes "faces") in
    record {
      from = subst (λ t. Says NamesFormat Fold t c.in_ok-from.from) from_is c.in_ok-from.ensures.ok;
      to = subst (λ t. Says NamesFormat Fold t c.in_ok-to.to) to_is c.in_ok-to.ensures.ok;
      frame = subst (λ t. Says NamesNumber 0 t c.in_ok-frame.frame) frame_is c.in_ok-frame.ensures.ok;
      number = subst (λ t. Says NamesChoice Exact t c.in_ok-number.number) number_is c.in_ok-number.ensures.ok;
      flat = subst (λ t. Says NamesFlat Keep t c.in_ok-flat.flat) flat_is c.in_ok-flat.ensures.ok;
      faces = subst (λ t. Says NamesFaces Find t c.in_ok-faces.faces) faces_is c.in_ok-faces.ensures.ok;
    }
