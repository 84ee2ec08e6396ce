use Rattle.std.proofs.Common.{◌≡◌, ◌∙◌, ◌<◌, ◌≤◌, ◌/◌, ◌^◌, ap, arith, ℕ, length}
use Rattle.std.specs.Fmt.{decimal}
use Rattle.std.proofs.lemmas.Fmt.{length-decimal-le_wide}
use Rattle.number_rules.proofs.nine_text.put_size.Goals as goal

few_digits : (n : ℕ) → n < 2 ^ 128 → length (decimal (n / 1000000000)) ≤ 30
few_digits n h = length-decimal-le_wide 30 (n / 1000000000) (omega arith) (omega (arith, h)) (omega (arith, h))

pub put_fraction-requires-clause-room : goal.put_fraction-requires-clause-room
put_fraction-requires-clause-room c =
    let few = few_digits c.args.size c.ranges.size.fits in
    let same : length c.as_bytes.result.now ≡ length (decimal (c.args.size / 1000000000))
    = ap length (c.as_bytes.ensures.value ∙ c.format.ensures.text) ∙ ap (λ (d : ℕ). length (decimal (c.args.size / d))) c.from.ensures in
    omega (arith, few, same, c.put_all-end.ensures.end)
