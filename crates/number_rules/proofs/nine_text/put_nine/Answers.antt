use Rattle.std.proofs.Common.{◌≡◌, ◌∙◌, ap, sym, arith, FitsSigned, ℕ, pos, ◌<◌, ◌<ℤ◌, ◌∷◌, length}
use Rattle.std.specs.Prelude.{unsigned_abs}
use Rattle.std.specs.Int.{w128}
use Rattle.std.proofs.lemmas.Int.{ints, to_z-of_z}
use Rattle.number_rules.specs.Nine.{size_text}
use Rattle.number_rules.proofs.NineTexts.{text_below_zero, behind_minus}
use Rattle.number_rules.proofs.nine_text.put_nine.Goals as goal

pub returns-then-billionths-lt0-clause-text : goal.returns-then-billionths-lt0-clause-text
returns-then-billionths-lt0-clause-text c =
    let fits : FitsSigned w128 c.args.billionths = c.ranges.billionths in
    let size : c.unsigned_abs-size.result ≡ unsigned_abs c.args.billionths = simp to_z-of_z at c.unsigned_abs-size.ensures.value in
    let test = simp to_z-of_z at c.if-billionths-lt0.true in
    let less : c.args.billionths <ℤ pos 0 = grind (arith, ints, test) in
    let room : 0 < length c.args.room.now = omega arith in
    c.put_size.ensures.text ∙ behind_minus c.args.room.now (size_text c.unsigned_abs-size.result) room
    ∙ ap (λ (n : ℕ). 45 ∷ size_text n) size ∙ sym (text_below_zero c.args.billionths less)
