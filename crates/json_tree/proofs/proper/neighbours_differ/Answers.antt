use Rattle.std.proofs.Common.{◌-◌, refl, arith}
use Rattle.json_tree.proofs.Distinct.{distinct_from_places, places_from_distinct, differ_from_sorted}
use Rattle.json_tree.proofs.proper.neighbours_differ.Goals as goal

pub returns-then-eq : goal.returns-then-eq
returns-then-eq c = (λ never. absurd (cc), λ h. let differ = places_from_distinct c.args.sorted.now (c.loop-later.later - 1) c.loop-later.later h (omega arith) c.loop-later-test.true in grind arith)

pub returns : goal.returns
returns c = (λ _. distinct_from_places c.args.sorted.now (differ_from_sorted c.args.sorted.now c.requires (λ k h. c.loop-later.invariant k (omega arith))), λ _. refl)
