use Rattle.std.proofs.Common.{◌≡◌, true, false, rules, sym, ◌∙◌, ap, FitsSigned}
use Rattle.std.specs.Int.{w128}
use Rattle.std.proofs.lemmas.Int.{to_z-of_z}
use Rattle.number_rules.specs.Value.{begins_with_minus}
use Rattle.fold_keys.proofs.Versions.{below_zero_is_read, far_is_above, near_is_above}
use Rattle.fold_keys.proofs.reading.is_above_spec.Goals as goal

pub returns-then-begins_with_minus : goal.returns-then-begins_with_minus
returns-then-begins_with_minus c =
    let minus : begins_with_minus c.args.text.now ≡ true =
    ap begins_with_minus (sym c.bytes.ensures.same) ∙ sym c.begins_with_minus.ensures
    ∙ c.if-begins_with_minus.true in
    below_zero_is_read c.args.text.now minus

pub returns-then-decimal : goal.returns-then-decimal
returns-then-decimal c =
    let plain : begins_with_minus c.args.text.now ≡ false =
    ap begins_with_minus (sym c.bytes.ensures.same) ∙ sym c.begins_with_minus.ensures
    ∙ c.if-begins_with_minus.false in
    c.if-decimal.true
    ∙ far_is_above c.args.text.now c.read_decimal-decimal.result plain
    c.read_decimal-decimal.ensures.value c.if-decimal.true

pub returns-else-decimal : goal.returns-else-decimal
returns-else-decimal c =
    let plain : begins_with_minus c.args.text.now ≡ false =
    ap begins_with_minus (sym c.bytes.ensures.same) ∙ sym c.begins_with_minus.ensures
    ∙ c.if-begins_with_minus.false in
    let fits : FitsSigned w128 c.read_decimal-decimal.result.near = search rules in
    rw (to_z-of_z w128 c.read_decimal-decimal.result.near fits)
    (near_is_above c.args.text.now c.read_decimal-decimal.result plain
    c.read_decimal-decimal.ensures.value c.if-decimal.false)
