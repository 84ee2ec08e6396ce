use Rattle.crease_input.proofs.OneReading.{have_ends_once, have_unread_once, apart, some_reading}
use Rattle.crease_input.proofs.laws.one_reading.Goals as goal

pub returns : goal.returns
returns g c = record {
  ends = λ row fits lines a b is has. have_ends_once g.N.Exact.ROOT g.N.Exact.parts row (c.one_answer.ensures.once g.N.Exact.ROOT g.N.Exact.parts row g.met.N.Exact.holds fits) lines a b is has;
  unread = λ row fits lines e f is has. have_unread_once g.N.Exact.ROOT g.N.Exact.parts row (c.one_answer.ensures.once g.N.Exact.ROOT g.N.Exact.parts row g.met.N.Exact.holds fits) lines e f is has;
  not_both = λ row fits lines a f is. apart g.N.Exact.ROOT g.N.Exact.parts row (c.one_answer.ensures.once g.N.Exact.ROOT g.N.Exact.parts row g.met.N.Exact.holds fits) lines a f is;
  some = λ row fits lines. some_reading g.N.Exact.ROOT g.N.Exact.parts row (c.one_answer.ensures.some g.N.Exact.ROOT g.N.Exact.parts row g.met.N.Exact.holds fits) lines;
}
