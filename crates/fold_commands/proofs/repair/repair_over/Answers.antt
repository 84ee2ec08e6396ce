use Rattle.std.proofs.Common.{◌≡◌, ◌≢◌, rules, subst, sym, inl, inr}
use Rattle.number_rules.specs.declared.unread.Row.{Row}
use Rattle.std.proofs.Common.{ℕ}
use Rattle.fold_commands.specs.Fields.{parts_over_three, parts_over_two, whole_over_three, whole_over_two}
use Rattle.fold_commands.specs.Repairs.{RepairsOver, RepairsRead}
use Rattle.fold_commands.specs.Steps.{Follows}
use Rattle.fold_commands.proofs.repair.repair_over.Goals as goal

pub returns-then-root-eq3 : goal.returns-then-root-eq3
returns-then-root-eq3 c =
    let is : c.args.root ≡ 3 = search rules in
    let r = c.repair_read.result in
    let by_row = subst (λ (row : Row). Follows (RepairsRead 3 parts_over_three whole_over_three c.args.options.now row c.args.given.now) r) c.exact_rule-rule.ensures.row c.repair_read.ensures in
    subst (λ (root : ℕ). Follows (RepairsOver root c.args.options.now c.args.given.now) r) (sym is) by_row

pub returns-else-root-eq3 : goal.returns-else-root-eq3
returns-else-root-eq3 c =
    let no : c.args.root ≢ 3 = search rules in
    let is : c.args.root ≡ 2 = elim c.requires.root [ inl two ↦ two | inr three ↦ absurd (no three) ] in
    let r = c.repair_read-else-root-eq3.result in
    let by_row = subst (λ (row : Row). Follows (RepairsRead 2 parts_over_two whole_over_two c.args.options.now row c.args.given.now) r) c.exact_rule-rule-else-root-eq3.ensures.row c.repair_read-else-root-eq3.ensures in
    subst (λ (root : ℕ). Follows (RepairsOver root c.args.options.now c.args.given.now) r) (sym is) by_row
