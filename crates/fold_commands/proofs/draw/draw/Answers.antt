use Rattle.std.proofs.Common.{◌≡◌, rules, subst, sym}
use Rattle.number_rules.specs.declared.unread.Row.{Row}
use Rattle.fold_commands.specs.Drawings.{DrawsBy, DrawsLines}
use Rattle.fold_commands.specs.Fields.{parts_over_three, parts_over_two}
use Rattle.fold_commands.specs.Steps.{Follows}
use Rattle.fold_commands.specs.declared.number_option.NumberChoice.{NumberChoice}
use Rattle.fold_commands.specs.declared.number_option.NumberChoice.TheVariants.{RootTwo, RootThree}
use Rattle.fold_commands.proofs.draw.draw.Goals as goal

pub returns-in-RootTwo : goal.returns-in-RootTwo
returns-in-RootTwo c =
    let is : c.args.number ≡ RootTwo c.in-RootTwo.n = search rules in
    let r = c.draw_by-in-RootTwo.result in
    let by_row = subst (λ (row : Row). Follows (DrawsLines 2 parts_over_two row c.args.lines) r) c.root_two_rule-rule.ensures.row c.draw_by-in-RootTwo.ensures in
    subst (λ (choice : NumberChoice). Follows (DrawsBy choice c.args.lines) r) (sym is) by_row

pub returns-in-RootThree : goal.returns-in-RootThree
returns-in-RootThree c =
    let is : c.args.number ≡ RootThree c.in-RootThree.n = search rules in
    let r = c.draw_by-in-RootThree.result in
    let by_row = subst (λ (row : Row). Follows (DrawsLines 3 parts_over_three row c.args.lines) r) c.root_three_rule-rule.ensures.row c.draw_by-in-RootThree.ensures in
    subst (λ (choice : NumberChoice). Follows (DrawsBy choice c.args.lines) r) (sym is) by_row
