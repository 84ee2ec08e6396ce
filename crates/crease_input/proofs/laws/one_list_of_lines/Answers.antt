use Rattle.crease_input.proofs.OneFile.{lines_once, some_lines}
use Rattle.crease_input.proofs.laws.one_list_of_lines.Goals as goal

pub returns : goal.returns
returns g c =
    let k = g.N.Exact.ROOT in
    let parts = g.N.Exact.parts in
    let nine = c.one_nine.ensures in
    let holds = g.met.N.Exact.holds in
    let radicand = g.met.N.Exact.radicand in record {
      once = λ ends v w is has. lines_once k parts
          (λ x m n. nine.once k (parts x) m n radicand (holds.is_number x))
          (λ x m. nine.exact k (parts x) m (holds.is_number x))
          (λ x. nine.exists k (parts x) radicand g.met.N.Exact.at_most_three (holds.is_number x))
          ends v w is has;
      some = λ ends. some_lines k parts
          (λ x m n. nine.once k (parts x) m n radicand (holds.is_number x))
          (λ x m. nine.exact k (parts x) m (holds.is_number x))
          (λ x. nine.exists k (parts x) radicand g.met.N.Exact.at_most_three (holds.is_number x))
          ends;
    }
