use Rattle.std.proofs.Common.{◌≡◌, take}
use Rattle.fold_commands.proofs.judge.are_same_lists.Given as goal

abbrev pub invariant-loop-place : goal.invariant-loop-place
invariant-loop-place l = take l.place l.lists ≡ take l.place l.others
