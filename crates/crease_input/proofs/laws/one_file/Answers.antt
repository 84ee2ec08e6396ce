use Rattle.crease_input.proofs.OneFile.{file_once, some_file}
use Rattle.crease_input.proofs.laws.one_file.Goals as goal

pub returns : goal.returns
returns g c =
    let nine = c.one_nine.ensures in
    let holds = g.met.N.Exact.holds in
    let radicand = g.met.N.Exact.radicand in record {
      once = λ class ends faces orders f h is has. file_once g.N.Exact.ROOT g.N.Exact.parts
          (λ x m n. nine.once g.N.Exact.ROOT (g.N.Exact.parts x) m n radicand (holds.is_number x))
          (λ x m. nine.exact g.N.Exact.ROOT (g.N.Exact.parts x) m (holds.is_number x))
          (λ x. nine.exists g.N.Exact.ROOT (g.N.Exact.parts x) radicand g.met.N.Exact.at_most_three (holds.is_number x))
          class ends faces orders f h is has;
      some = λ class ends faces orders. some_file g.N.Exact.ROOT g.N.Exact.parts
          (λ x m n. nine.once g.N.Exact.ROOT (g.N.Exact.parts x) m n radicand (holds.is_number x))
          (λ x m. nine.exact g.N.Exact.ROOT (g.N.Exact.parts x) m (holds.is_number x))
          (λ x. nine.exists g.N.Exact.ROOT (g.N.Exact.parts x) radicand g.met.N.Exact.at_most_three (holds.is_number x))
          class ends faces orders;
    }
