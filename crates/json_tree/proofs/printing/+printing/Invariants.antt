use Rattle.std.proofs.Common.{◌≡◌, ◌++◌, map, take, string_bytes}
use Rattle.std.specs.List.{AllByRecursion, join_with_byte}
use Rattle.json_tree.specs.PrintedForm.{printed_form, printed_member}
use Rattle.json_tree.specs.Tree.{HasValidTexts, MemberHasValidTexts}
use Rattle.json_tree.proofs.printing.+printing.Given as goal

abbrev pub invariant-put_items-loop-place : goal.invariant-put_items-loop-place
invariant-put_items-loop-place l = record {
  printed : string_bytes l.out ≡ string_bytes l.fn.out ++ join_with_byte 44 (map printed_form (take l.place l.items));
  texts : AllByRecursion HasValidTexts (take l.place l.items);
}

abbrev pub invariant-put_members-loop-place : goal.invariant-put_members-loop-place
invariant-put_members-loop-place l = record {
  printed : string_bytes l.out ≡ string_bytes l.fn.out ++ join_with_byte 44 (map printed_member (take l.place l.members));
  texts : AllByRecursion MemberHasValidTexts (take l.place l.members);
}
