use Rattle.std.proofs.Common.{arith, subst, refl}
use Rattle.std.proofs.lemmas.List.{take_all}
use Rattle.json_tree.specs.Tree.{AreDistinct, keys}
use Rattle.json_tree.proofs.Distinct.{repeated, distinct_taken}
use Rattle.json_tree.proofs.proper.each_is_new.Goals as goal

pub returns-then-has_key : goal.returns-then-has_key
returns-then-has_key c = (
  (λ never. absurd (cc)),
  (λ d. absurd (repeated c.args.members.now c.loop-place.place c.index-members-place.result c.loop-place-test.true c.index-members-place.is (c.if-has_key.ensures.0 refl) d)),
)

pub loop-place-preserved : goal.loop-place-preserved
loop-place-preserved c = distinct_taken c.args.members.now c.loop-place.place c.index-members-place.result c.loop-place-test.true c.index-members-place.is c.loop-place.invariant (λ has. let e = c.if-has_key.ensures.1 has in cc)

pub returns : goal.returns
returns c = (
  (λ yes. subst (λ l. AreDistinct (keys l)) (take_all c.loop-place.place c.args.members.now (omega arith)) c.loop-place.invariant),
  (λ d. refl),
)
