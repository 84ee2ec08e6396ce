use Rattle.std.proofs.Common.{◌≡◌, ◌≢◌, ℕ, rules, subst, sym, inl, inr}
use Rattle.std.specs.Option.{option_copied}
use Rattle.number_rules.specs.declared.unread.Row.{Row}
use Rattle.fold_commands.specs.Fields.{numbers_over_three, numbers_over_two, parts_over_three, parts_over_two, whole_over_three, whole_over_two}
use Rattle.fold_commands.specs.FoldedFrames.{FoldsOver, FoldsRead}
use Rattle.fold_commands.specs.Steps.{Follows}
use Rattle.fold_commands.proofs.folded.fold_over.Goals as goal

pub returns-then-root-eq3 : goal.returns-then-root-eq3
returns-then-root-eq3 c =
    let is : c.args.root ≡ 3 = search rules in
    let r = c.fold_read.result in
    let orders = option_copied c.args.orders in
    let by_row = subst (λ (row : Row). Follows (FoldsRead 3 parts_over_three numbers_over_three whole_over_three c.args.aim orders row c.args.frame.now) r) c.exact_rule-rule.ensures.row c.fold_read.ensures in
    subst (λ (root : ℕ). Follows (FoldsOver c.args.aim orders root c.args.frame.now) r) (sym is) by_row

pub returns-else-root-eq3 : goal.returns-else-root-eq3
returns-else-root-eq3 c =
    let no : c.args.root ≢ 3 = search rules in
    let is : c.args.root ≡ 2 = elim c.requires.root [ inl two ↦ two | inr three ↦ absurd (no three) ] in
    let r = c.fold_read-else-root-eq3.result in
    let orders = option_copied c.args.orders in
    let by_row = subst (λ (row : Row). Follows (FoldsRead 2 parts_over_two numbers_over_two whole_over_two c.args.aim orders row c.args.frame.now) r) c.exact_rule-rule-else-root-eq3.ensures.row c.fold_read-else-root-eq3.ensures in
    subst (λ (root : ℕ). Follows (FoldsOver c.args.aim orders root c.args.frame.now) r) (sym is) by_row
