use Rattle.std.proofs.Common.{◌≡◌, true}
use Rattle.std.specs.Prelude.{codes}
use Rattle.std.specs.Str.{bytes_eq}
use Rattle.fold_keys.proofs.Sides.{side_one, side_minus_one, side_zero}
use Rattle.fold_keys.proofs.element.side_in.Goals as goal

pub returns-then-eq : goal.returns-then-eq
returns-then-eq c =
    let e : bytes_eq c.args.text.now (codes "1") ≡ true = cc in side_one c.args.text.now e

pub returns-then-eq-2 : goal.returns-then-eq-2
returns-then-eq-2 c =
    let e : bytes_eq c.args.text.now (codes "-1") ≡ true = cc in side_minus_one c.args.text.now e

pub returns-then-eq-3 : goal.returns-then-eq-3
returns-then-eq-3 c =
    let e : bytes_eq c.args.text.now (codes "0") ≡ true = cc in side_zero c.args.text.now e
