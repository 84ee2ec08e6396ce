use Rattle.std.proofs.Common.{◌≡◌, rules, subst, sym}
use Rattle.std.specs.Option.{option_copied}
use Rattle.number_rules.specs.declared.unread.Row.{Row}
use Rattle.fold_commands.specs.Fields.{numbers_over_three, numbers_over_two, parts_over_three, parts_over_two, whole_over_three, whole_over_two}
use Rattle.fold_commands.specs.FoldedFrames.{FoldsBy, FoldsRead}
use Rattle.fold_commands.specs.Steps.{Follows}
use Rattle.fold_commands.specs.declared.number_option.NumberChoice.{NumberChoice}
use Rattle.fold_commands.specs.declared.number_option.NumberChoice.TheVariants.{RootTwo, RootThree}
use Rattle.fold_commands.proofs.folded.fold_by.Goals as goal

pub fold_read-requires-in-Grid-clause-ready : goal.fold_read-requires-in-Grid-clause-ready
fold_read-requires-in-Grid-clause-ready c = c.requires.ready 1

pub fold_read-requires-in-RootTwo-clause-ready : goal.fold_read-requires-in-RootTwo-clause-ready
fold_read-requires-in-RootTwo-clause-ready c = c.requires.ready 2

pub fold_read-requires-in-RootThree-clause-ready : goal.fold_read-requires-in-RootThree-clause-ready
fold_read-requires-in-RootThree-clause-ready c = c.requires.ready 3

pub returns-in-RootTwo : goal.returns-in-RootTwo
returns-in-RootTwo c =
    let is : c.args.number ≡ RootTwo c.in-RootTwo.n = search rules in
    let r = c.fold_read-in-RootTwo.result in
    let orders = option_copied c.args.orders in
    let by_row = subst (λ (row : Row). Follows (FoldsRead 2 parts_over_two numbers_over_two whole_over_two c.args.aim orders row c.args.frame.now) r) c.root_two_rule-rule.ensures.row c.fold_read-in-RootTwo.ensures in
    subst (λ (choice : NumberChoice). Follows (FoldsBy c.args.aim orders choice c.args.frame.now) r) (sym is) by_row

pub returns-in-RootThree : goal.returns-in-RootThree
returns-in-RootThree c =
    let is : c.args.number ≡ RootThree c.in-RootThree.n = search rules in
    let r = c.fold_read-in-RootThree.result in
    let orders = option_copied c.args.orders in
    let by_row = subst (λ (row : Row). Follows (FoldsRead 3 parts_over_three numbers_over_three whole_over_three c.args.aim orders row c.args.frame.now) r) c.root_three_rule-rule.ensures.row c.fold_read-in-RootThree.ensures in
    subst (λ (choice : NumberChoice). Follows (FoldsBy c.args.aim orders choice c.args.frame.now) r) (sym is) by_row
