use Rattle.std.proofs.Common.{refl, ap, sym, of_z, FitsSigned}
use Rattle.std.specs.Int.{w128}
use Rattle.std.proofs.lemmas.Int.{to_z-of_z}
use Rattle.algebra.specs.LowestTerms.{Parts}
use Rattle.root_two.specs.Roots.{root_parts}
use Rattle.number_rules.proofs.ExactTexts.{not_lowest}
use Rattle.number_rules.proofs.texts.as_it_stands.Goals as goal
use Rattle.number_rules.proofs.texts.as_it_stands.Goals.{else-number-a-via-then-number-a+then-number-b+else-number-q, else-number-a-via-then-number-a+else-number-b, else-number-a-via-else-number-a}

pub returns-else-number-a : goal.returns-else-number-a
returns-else-number-a g c =
    let a_fits : FitsSigned w128 c.args.a = c.ranges.a in
    let b_fits : FitsSigned w128 c.args.b = c.ranges.b in
    let q_fits : FitsSigned w128 c.args.q = c.ranges.q in
    let reduced = simp to_z-of_z at c.in-Some.ensures.value in (
      refl,
      not_lowest (record { a = c.args.a; b = c.args.b; q = c.args.q }) (root_parts c.in-Some.number) reduced (λ e.
          elim c.else-number-a.branch [
            | else-number-a-via-then-number-a+then-number-b+else-number-q w ↦ w.if-number-q.false (ap (λ (x : Parts). of_z w128 x.q) (sym e))
            | else-number-a-via-then-number-a+else-number-b w ↦ w.if-number-b.false (ap (λ (x : Parts). of_z w128 x.b) (sym e))
            | else-number-a-via-else-number-a w ↦ w.if-number-a.false (ap (λ (x : Parts). of_z w128 x.a) (sym e))
          ]),
    )
