use Rattle.std.proofs.Common.{◌≡◌, take, map}
use Rattle.fold_keys.proofs.member.write_members.Given as goal

abbrev pub invariant-loop-member : goal.invariant-loop-member
invariant-loop-member g l = l.items ≡ map g.M.MemberKind.tree_of (take l.member-index l.members)
