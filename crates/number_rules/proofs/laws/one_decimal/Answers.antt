use Rattle.number_rules.proofs.OneDecimal.{decimal_once, some_decimal}
use Rattle.number_rules.proofs.laws.one_decimal.Goals as goal

pub returns : goal.returns
returns c = record { once = decimal_once; some = some_decimal }
