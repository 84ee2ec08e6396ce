use Rattle.std.proofs.Common.{◌≡◌, rules, true}
use Rattle.number_rules.specs.Value.{begins_with_minus}
use Rattle.number_rules.proofs.WholeTexts.{behind_minus, nothing_read, zero_read, below_size, below_zero_read}
use Rattle.number_rules.proofs.whole_text.read_whole.Goals as goal

pub returns-in_err-size-clause-each : goal.returns-in_err-size-clause-each
returns-in_err-size-clause-each c = λ z h e.
    let minus : begins_with_minus c.args.bytes.now ≡ true = search rules in
    let w = behind_minus c.args.bytes.now c.read_digits-2.result minus c.read_digits-2.ensures.each z h e in
    absurd (nothing_read c.read_digits-2.result w.0 w.1 c.in_err-size.was)

pub returns-in-0-clause-each : goal.returns-in-0-clause-each
returns-in-0-clause-each c = λ z h e.
    let minus : begins_with_minus c.args.bytes.now ≡ true = search rules in
    let w = behind_minus c.args.bytes.now c.read_digits-2.result minus c.read_digits-2.ensures.each z h e in
    absurd (zero_read c.read_digits-2.result w.0 c.in_ok-size.size w.1 c.in_ok-size.was (search rules))

pub returns-in_default-clause-each : goal.returns-in_default-clause-each
returns-in_default-clause-each c = λ z h e.
    let minus : begins_with_minus c.args.bytes.now ≡ true = search rules in
    let w = behind_minus c.args.bytes.now c.read_digits-2.result minus c.read_digits-2.ensures.each z h e in
    below_zero_read c.in_ok-size.size z w.0 (below_size c.read_digits-2.result w.0 c.in_ok-size.size w.1 c.in_ok-size.was) w.2 h
