use Rattle.std.proofs.Common.{sym, subst, arith}
use Rattle.json_tree.specs.Number.{IsNumber}
use Rattle.crease_input.proofs.pattern.put_nine.Goals as goal

pub spelled-requires : goal.spelled-requires
spelled-requires g c =
    let exact = g.met.N.Exact in
    let nine = c.print9-count.ensures.text in
    let short =
    c.nine_texts.ensures.short g.N.Exact.ROOT (g.N.Exact.parts c.args.value) nine.0 exact.radicand
    exact.at_most_three (exact.holds.is_number c.args.value) c.requires nine.1.0 in
    subst IsNumber (sym nine.1.1) (c.nine_texts.ensures.number nine.0 (omega (arith, short)))
