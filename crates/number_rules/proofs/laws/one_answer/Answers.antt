use Rattle.number_rules.proofs.OneReading.{text_once, some_text}
use Rattle.number_rules.proofs.laws.one_answer.Goals as goal

pub returns : goal.returns
returns g c = record {
  once = λ k parts row holds fits text r s is has. text_once k parts holds row fits text r s is has;
  some = λ k parts row holds fits text. some_text k parts holds row fits text;
}
