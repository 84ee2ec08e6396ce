use Rattle.std.proofs.Common.{◌≡◌, take}
use Rattle.fold_keys.proofs.member.copy_members.Given as goal

abbrev pub invariant-loop-member : goal.invariant-loop-member
invariant-loop-member g l = l.made ≡ take l.member-index l.members
