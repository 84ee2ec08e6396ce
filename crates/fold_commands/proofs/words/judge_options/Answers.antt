use Rattle.std.proofs.Common.{◌≡◌, ◌∙◌, codes, subst, option_map}
use Rattle.std.proofs.lemmas.Result.{err_from_is_err_and}
use Rattle.clap.specs.Words.{rows_of, found_of}
use Rattle.clap.proofs.WalkLemmas.{first_value-rows}
use Rattle.fold_commands.specs.NumberOption.{NamesChoice}
use Rattle.fold_commands.specs.Words.{MeanJudge, NamesNumber, Says, said_in}
use Rattle.fold_commands.specs.declared.number_option.NumberChoice.TheVariants.{Exact}
use Rattle.fold_commands.proofs.Decide.{orders_beside}
use Rattle.fold_commands.proofs.Meaning.{no_option}
use Rattle.fold_commands.proofs.words.judge_options.Goals as goal

pub returns-in_err-frame-clause-err : goal.returns-in_err-frame-clause-err
returns-in_err-frame-clause-err c =
    let found = found_of c.args.options.now in
    let said : option_map (λ s. s.now) c.get_str.result ≡ said_in (rows_of found) (codes "frame") = c.get_str.ensures ∙ first_value-rows found (codes "frame") in
    let p = err_from_is_err_and c.from_residual.result c.from_residual.ensures.1 in
    rw (p.1, p.2) (no_option (MeanJudge (said_in (rows_of found))) NamesNumber 0 (said_in (rows_of found)) (codes "frame") _ _ (λ o h. (o.frame, h.frame)) said c.in_err-frame.ensures.err)

pub returns-in_err-number-clause-err : goal.returns-in_err-number-clause-err
returns-in_err-number-clause-err c =
    let found = found_of c.args.options.now in
    let said : option_map (λ s. s.now) c.get_str-2.result ≡ said_in (rows_of found) (codes "number") = c.get_str-2.ensures ∙ first_value-rows found (codes "number") in
    let p = err_from_is_err_and c.from_residual-in_err-number.result c.from_residual-in_err-number.ensures.1 in
    rw (p.1, p.2) (no_option (MeanJudge (said_in (rows_of found))) NamesChoice Exact (said_in (rows_of found)) (codes "number") _ _ (λ o h. (o.number, h.number)) said c.in_err-number.ensures.err)

pub returns-in_err-orders-clause-err : goal.returns-in_err-orders-clause-err
returns-in_err-orders-clause-err c =
    let found = found_of c.args.options.now in
    let said : option_map (λ s. s.now) c.get_str-3.result ≡ said_in (rows_of found) (codes "orders") = c.get_str-3.ensures ∙ first_value-rows found (codes "orders") in
    let p = err_from_is_err_and c.from_residual-in_err-orders.result c.from_residual-in_err-orders.ensures.1 in
    rw (p.1, p.2) (no_option (MeanJudge (said_in (rows_of found))) NamesNumber c.in_ok-frame.frame (said_in (rows_of found)) (codes "orders") _ _ (λ o h. (o.orders, orders_beside (said_in (rows_of found)) c.in_ok-frame.frame (subst (λ t. Says NamesNumber 0 t c.in_ok-frame.frame) (c.get_str.ensures ∙ first_value-rows found (codes "frame")) c.in_ok-frame.ensures.ok) o h)) said c.in_err-orders.ensures.err)

pub returns-clause-ok : goal.returns-clause-ok
returns-clause-ok c =
    let found = found_of c.args.options.now in
    let frame_is : option_map (λ s. s.now) c.get_str.result ≡ said_in (rows_of found) (codes "frame") = c.get_str.ensures ∙ first_value-rows found (codes "frame") in
    let number_is : option_map (λ s. s.now) c.get_str-2.result ≡ said_in (rows_of found) (codes "number") = c.get_str-2.ensures ∙ first_value-rows found (codes "number") in
    let orders_is : option_map (λ s. s.now) c.get_str-3.result ≡ said_in (rows_of found) (codes "orders") = c.get_str-3.ensures ∙ first_value-rows found (codes "orders") in
    record {
      frame = subst (λ t. Says NamesNumber 0 t c.in_ok-frame.frame) frame_is c.in_ok-frame.ensures.ok;
      number = subst (λ t. Says NamesChoice Exact t c.in_ok-number.number) number_is c.in_ok-number.ensures.ok;
      orders = subst (λ t. Says NamesNumber c.in_ok-frame.frame t c.in_ok-orders.orders) orders_is c.in_ok-orders.ensures.ok;
    }
