use Rattle.std.proofs.Common.{rules, ◌∙◌}
use Rattle.number_rules.proofs.Digits.{digit_taken, digit_passed}
use Rattle.number_rules.proofs.scan.with_capped_digit.Goals as goal

pub returns-then-is_ascii_digit-clause-value : goal.returns-then-is_ascii_digit-clause-value
returns-then-is_ascii_digit-clause-value c = λ n e. c.min.ensures ∙ digit_taken n c.args.size c.args.byte (search rules) e

pub returns-else-is_ascii_digit-clause-value : goal.returns-else-is_ascii_digit-clause-value
returns-else-is_ascii_digit-clause-value c = λ n e. digit_passed n c.args.size c.args.byte (search rules) e
