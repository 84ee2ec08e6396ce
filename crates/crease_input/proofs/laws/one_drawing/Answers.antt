use Rattle.number_rules.specs.OneReading.{ReadsText}
use Rattle.crease_input.proofs.ExactReadings.{exact_once, some_exact}
use Rattle.crease_input.proofs.OneDrawing.{drawn_once, drawn_or_not, undrawn_once}
use Rattle.crease_input.proofs.SomeDrawing.{some_frame}
use Rattle.crease_input.proofs.laws.one_drawing.Goals as goal

pub returns : goal.returns
returns g c =
    let k = g.N.Exact.ROOT in
    let parts = g.N.Exact.parts in
    let holds = g.met.N.Exact.holds in
    let radicand = g.met.N.Exact.radicand in
    let nine = c.one_nine.ensures in
    let one = c.one_answer.ensures in
    let exact = exact_once k parts holds (λ x r. c.texts_are_read_back.ensures.same k parts holds x r) in record {
      answer = λ row fits faces entries a b is has. drawn_once k parts (ReadsText k parts row) (one.once k parts row holds fits) exact faces entries a b is has;
      reason = λ row fits faces entries e f is has. undrawn_once k parts (ReadsText k parts row) (one.once k parts row holds fits) exact faces entries e f is has;
      not_both = λ row fits faces entries a f is. drawn_or_not k parts (ReadsText k parts row) (one.once k parts row holds fits) exact faces entries a f is;
      some = λ row fits faces entries root. some_frame k parts (ReadsText k parts row)
          (λ x. nine.exists k (parts x) radicand g.met.N.Exact.at_most_three (holds.is_number x))
          (λ x m n. nine.once k (parts x) m n radicand (holds.is_number x))
          (one.some k parts row holds fits) (some_exact k parts holds) faces entries root;
    }
