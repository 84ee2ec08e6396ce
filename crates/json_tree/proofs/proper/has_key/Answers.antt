use Rattle.std.proofs.Common.{◌≢◌, arith, subst, rules}
use Rattle.std.proofs.lemmas.List.{take_all}
use Rattle.json_tree.specs.Tree.{HasKey}
use Rattle.json_tree.proofs.Distinct.{lacks_taken}
use Rattle.json_tree.proofs.proper.has_key.Goals as goal

pub loop-member-preserved : goal.loop-member-preserved
loop-member-preserved c =
    let other : c.member-item.result.key ≢ c.args.key.now = search rules in
    lacks_taken c.args.members.now c.loop-member.member-index c.member-item.result c.loop-member-test.true c.member-item.is c.args.key.now c.loop-member.invariant other

pub returns : goal.returns
returns c = (
  (λ never. absurd (cc)),
  (λ has. absurd (subst (λ l. ¬ HasKey l c.args.key.now) (take_all c.loop-member.member-index c.args.members.now (omega arith)) c.loop-member.invariant has)),
)
