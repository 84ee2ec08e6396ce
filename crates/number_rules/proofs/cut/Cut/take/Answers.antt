use Rattle.std.proofs.Common.{rules, refl}
use Rattle.number_rules.proofs.Cuts.{whole_taken, cut_taken}
use Rattle.number_rules.proofs.cut.Cut.take.Goals as goal

pub returns-then-self-gt0-clause-more : goal.returns-then-self-gt0-clause-more
returns-then-self-gt0-clause-more c = λ n count before shows. whole_taken n count c.args.digit before c.args.self.now _ (search rules) refl c.with_capped_digit-self.ensures refl shows

pub returns-else-self-gt0-clause-more : goal.returns-else-self-gt0-clause-more
returns-else-self-gt0-clause-more c = λ n count before shows. cut_taken n count c.args.digit before c.args.self.now _ (search rules) refl refl c.next-self.ensures shows
