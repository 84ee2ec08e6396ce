use Rattle.std.proofs.Common.{◌≡◌, rules, subst, sym, arith}
use Rattle.std.specs.Fmt.{decimal}
use Rattle.json_tree.specs.Number.{IsNumber}
use Rattle.fold_keys.proofs.Spelled.{id_is_number}
use Rattle.fold_keys.proofs.spelling.spelled_id.Goals as goal

pub number_in-requires : goal.number_in-requires
number_in-requires c =
    let e : c.as_str.result.now ≡ decimal c.args.id = search rules in
    subst IsNumber (sym e) (id_is_number c.args.id (omega arith))
