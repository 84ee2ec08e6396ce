use Rattle.std.proofs.Common.{◌∙◌, ap, arith}
use Rattle.std.proofs.lemmas.List.{take_all}
use Rattle.json_tree.specs.Tree.{keys}
use Rattle.json_tree.proofs.Distinct.{words_reordered}
use Rattle.json_tree.proofs.proper.sorted_keys.Goals as goal

pub returns-clause-permutation : goal.returns-clause-permutation
returns-clause-permutation c =
    let members = c.as_slice-member-items.result.now in
    let all = c.loop-member.invariant ∙ ap keys (take_all c.loop-member.member-index members (omega arith) ∙ c.as_slice-member-items.ensures) in
    words_reordered (keys c.args.members.now) c.loop-member.sorted.items c.sort_unstable.new.self.items all c.sort_unstable.ensures.permutation
