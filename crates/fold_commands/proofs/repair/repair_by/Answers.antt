use Rattle.std.proofs.Common.{◌≡◌, rules, subst, sym}
use Rattle.number_rules.specs.declared.unread.Row.{Row}
use Rattle.fold_commands.specs.Fields.{parts_over_three, parts_over_two, whole_over_three, whole_over_two}
use Rattle.fold_commands.specs.Repairs.{RepairsBy, RepairsRead}
use Rattle.fold_commands.specs.Steps.{Follows}
use Rattle.fold_commands.specs.declared.number_option.NumberChoice.{NumberChoice}
use Rattle.fold_commands.specs.declared.number_option.NumberChoice.TheVariants.{RootTwo, RootThree}
use Rattle.fold_commands.proofs.repair.repair_by.Goals as goal

pub repair_read-requires-in-Grid-clause-ready : goal.repair_read-requires-in-Grid-clause-ready
repair_read-requires-in-Grid-clause-ready c = c.requires 1

pub repair_read-requires-in-RootTwo-clause-ready : goal.repair_read-requires-in-RootTwo-clause-ready
repair_read-requires-in-RootTwo-clause-ready c = c.requires 2

pub repair_read-requires-in-RootThree-clause-ready : goal.repair_read-requires-in-RootThree-clause-ready
repair_read-requires-in-RootThree-clause-ready c = c.requires 3

pub returns-in-RootTwo : goal.returns-in-RootTwo
returns-in-RootTwo c =
    let is : c.args.options.now.number ≡ RootTwo c.in-RootTwo.n = search rules in
    let r = c.repair_read-in-RootTwo.result in
    let by_row = subst (λ (row : Row). Follows (RepairsRead 2 parts_over_two whole_over_two c.args.options.now row c.args.given.now) r) c.root_two_rule-rule.ensures.row c.repair_read-in-RootTwo.ensures in
    subst (λ (choice : NumberChoice). Follows (RepairsBy choice c.args.options.now c.args.given.now) r) (sym is) by_row

pub returns-in-RootThree : goal.returns-in-RootThree
returns-in-RootThree c =
    let is : c.args.options.now.number ≡ RootThree c.in-RootThree.n = search rules in
    let r = c.repair_read-in-RootThree.result in
    let by_row = subst (λ (row : Row). Follows (RepairsRead 3 parts_over_three whole_over_three c.args.options.now row c.args.given.now) r) c.root_three_rule-rule.ensures.row c.repair_read-in-RootThree.ensures in
    subst (λ (choice : NumberChoice). Follows (RepairsBy choice c.args.options.now c.args.given.now) r) (sym is) by_row
