use Rattle.std.proofs.Common.{rules}
use Rattle.number_rules.specs.Cut.{Shows}
use Rattle.number_rules.proofs.Digits.{a_digit, no_digit}
use Rattle.number_rules.proofs.cut.Cut.take_byte.Goals as goal

pub returns-then-is_ascii_digit-clause-more : goal.returns-then-is_ascii_digit-clause-more
returns-then-is_ascii_digit-clause-more c = λ n count before shows. a_digit (λ m k. Shows m k before c.take.new.self) n count c.args.byte (search rules) (c.take.ensures.more n count before shows)

pub returns-else-is_ascii_digit-clause-more : goal.returns-else-is_ascii_digit-clause-more
returns-else-is_ascii_digit-clause-more c = λ n count before shows. no_digit (λ m k. Shows m k before c.args.self.now) n count c.args.byte (search rules) shows
