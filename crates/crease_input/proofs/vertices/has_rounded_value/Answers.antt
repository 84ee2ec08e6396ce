use Rattle.std.proofs.Common.{rules, FitsSigned, IsTrue, ◌≤◌, ◌^◌, subst, arith}
use Rattle.std.specs.Prelude.{◌↔◌, unsigned_abs}
use mir.Syntax.{w128}
use Rattle.std.proofs.lemmas.Int.{to_z-of_z}
use Rattle.number_rules.specs.Billionths.{HasBillionths}
use Rattle.crease_input.proofs.vertices.has_rounded_value.Goals as goal

pub has_billionths-requires-clause-count : goal.has_billionths-requires-clause-count
has_billionths-requires-clause-count g c =
    let fits : FitsSigned w128 c.round_to_nine.result.near = search rules in
    let size : unsigned_abs c.round_to_nine.result.near ≤ 2 ^ 125 =
    c.nine_texts.ensures.short g.N.Exact.ROOT (g.N.Exact.parts c.args.value) c.round_to_nine.result.near g.met.N.Exact.radicand
    g.met.N.Exact.at_most_three (g.met.N.Exact.holds.is_number c.args.value) c.requires.short c.round_to_nine.ensures.near in
    rw (to_z-of_z w128 c.round_to_nine.result.near fits) (omega (arith, size))

pub returns : goal.returns
returns g c =
    let fits : FitsSigned w128 c.round_to_nine.result.near = search rules in
    let has : IsTrue c.has_billionths.result ↔ HasBillionths c.args.text.now c.round_to_nine.result.near =
    subst (λ z. IsTrue c.has_billionths.result ↔ HasBillionths c.args.text.now z) (to_z-of_z w128 c.round_to_nine.result.near fits)
    c.has_billionths.ensures in (
      (λ h. (c.round_to_nine.result.near, c.round_to_nine.ensures.near, has.0 h)),
      (λ h. has.1
          (subst (HasBillionths c.args.text.now)
          (c.one_nine.ensures.once g.N.Exact.ROOT (g.N.Exact.parts c.args.value) h.0 c.round_to_nine.result.near g.met.N.Exact.radicand
          (g.met.N.Exact.holds.is_number c.args.value) h.1 c.round_to_nine.ensures.near)
          h.2)),
    )
