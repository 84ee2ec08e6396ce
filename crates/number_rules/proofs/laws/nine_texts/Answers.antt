use Rattle.number_rules.proofs.Nines.{small_nine}
use Rattle.number_rules.proofs.NineTexts.{nine_is_number}
use Rattle.number_rules.proofs.NineValues.{nine_value}
use Rattle.number_rules.proofs.laws.nine_texts.Goals as goal

pub returns : goal.returns
returns c = record { number = nine_is_number; value = nine_value; short = small_nine }
