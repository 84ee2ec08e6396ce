use Rattle.std.proofs.Common.{◌≡◌, rules, subst, sym}
use Rattle.std.specs.Fmt.{signed_decimal}
use Rattle.json_tree.specs.Number.{IsNumber}
use Rattle.fold_keys.proofs.Spelled.{side_is_number}
use Rattle.fold_keys.proofs.spelling.spelled_side.Goals as goal

pub number_in-requires : goal.number_in-requires
number_in-requires c =
    let e : c.as_str.result.now ≡ signed_decimal c.args.side = search rules in
    subst IsNumber (sym e) (side_is_number c.args.side (search rules))
