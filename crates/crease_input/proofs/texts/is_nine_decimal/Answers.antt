use Rattle.std.proofs.Common.{subst}
use Rattle.number_rules.specs.Nine.{IsExactlyNine}
use Rattle.crease_input.proofs.texts.is_nine_decimal.Goals as goal

pub returns : goal.returns
returns g c =
    let exact = g.met.N.Exact in
    let parts = g.N.Exact.parts c.args.value in
    let number = exact.holds.is_number c.args.value in
    let near = c.round_to_nine.result.near in (
      (λ t. (near, c.round_to_nine.ensures.exact.0 t)),
      (λ h. c.round_to_nine.ensures.exact.1 (subst (IsExactlyNine parts)
          (c.one_nine.ensures.once g.N.Exact.ROOT parts h.0 near exact.radicand number
          (c.one_nine.ensures.exact g.N.Exact.ROOT parts h.0 number h.1) c.round_to_nine.ensures.near) h.1)),
    )
