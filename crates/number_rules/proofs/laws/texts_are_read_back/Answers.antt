use Rattle.number_rules.proofs.ExactTexts.{number_back, rational_back}
use Rattle.number_rules.proofs.laws.texts_are_read_back.Goals as goal

pub returns : goal.returns
returns g c = record {
  same = λ k parts holds x r short reads. number_back k parts holds x r short reads;
  rational = λ parts p r number short reads. rational_back parts p r number short reads;
}
