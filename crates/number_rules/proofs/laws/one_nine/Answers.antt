use Rattle.number_rules.proofs.Nines.{one_nine, some_nine, exact_nine}
use Rattle.number_rules.proofs.laws.one_nine.Goals as goal

pub returns : goal.returns
returns c = record {
  once = one_nine;
  exists = λ k p radicand small is. some_nine k p small is.lowest.positive;
  exact = exact_nine;
}
