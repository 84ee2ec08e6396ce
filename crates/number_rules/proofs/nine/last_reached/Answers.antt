use Rattle.std.proofs.Common.{rules, ◌∙◌, sym, FitsSigned, ◌≡◌, true, false}
use Rattle.std.specs.Int.{w128}
use Rattle.std.proofs.lemmas.Int.{to_z-of_z}
use Rattle.number_rules.specs.Nine.{IsInReach}
use Rattle.number_rules.proofs.Nines.{between_reach, last_is_nine, next_to_each_other}
use Rattle.number_rules.proofs.nine.last_reached.Goals as goal

pub reaches-requires-clause-within : goal.reaches-requires-clause-within
reaches-requires-clause-within g c =
    let fits : FitsSigned w128 c.halfway-middle.result = search rules in
    let i = c.loop-value.invariant in
    simp to_z-of_z (between_reach (g.N.Exact.parts c.args.value) _ _ c.halfway-middle.result i.low_within i.high_within c.halfway-middle.ensures.above c.halfway-middle.ensures.below)

pub loop-value-preserved-then-reaches : goal.loop-value-preserved-then-reaches
loop-value-preserved-then-reaches g c =
    let fits : FitsSigned w128 c.halfway-middle.result = search rules in
    let i = c.loop-value.invariant in
    let within : IsInReach (g.N.Exact.parts c.args.value) c.halfway-middle.result
    = between_reach (g.N.Exact.parts c.args.value) _ _ c.halfway-middle.result i.low_within i.high_within c.halfway-middle.ensures.above c.halfway-middle.ensures.below in
    let answer = simp to_z-of_z at c.reaches.ensures in
    record {
      between = simp to_z-of_z c.halfway-middle.ensures.below;
      low_within = simp to_z-of_z within;
      high_within = i.high_within;
      reached = simp to_z-of_z (sym answer ∙ c.if-reaches.true);
      not_reached = i.not_reached;
    }

pub loop-value-preserved : goal.loop-value-preserved
loop-value-preserved g c =
    let fits : FitsSigned w128 c.halfway-middle.result = search rules in
    let i = c.loop-value.invariant in
    let within : IsInReach (g.N.Exact.parts c.args.value) c.halfway-middle.result
    = between_reach (g.N.Exact.parts c.args.value) _ _ c.halfway-middle.result i.low_within i.high_within c.halfway-middle.ensures.above c.halfway-middle.ensures.below in
    let answer = simp to_z-of_z at c.reaches.ensures in
    record {
      between = simp to_z-of_z c.halfway-middle.ensures.above;
      low_within = i.low_within;
      high_within = simp to_z-of_z within;
      reached = i.reached;
      not_reached = simp to_z-of_z (sym answer ∙ c.if-reaches.false);
    }

no_false : false ≡ true → ⊥
no_false e = cc

pub returns-clause-nine : goal.returns-clause-nine
returns-clause-nine g c =
    let i = c.loop-value.invariant in
    let next = next_to_each_other _ _ i.between (λ less. no_false (sym c.loop-value-test.false ∙ c.are_apart.ensures.1 less)) in
    last_is_nine g.N.Exact.ROOT (g.N.Exact.parts c.args.value) _ _ next i.reached i.not_reached
