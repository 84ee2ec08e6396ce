use Rattle.std.proofs.Common.{◌≡◌, ◌∙◌, ap, ap₂, rules, get_or, List, []}
use Rattle.clap.specs.Words.{Rule, rule_of, with_rule}
use Rattle.clap.specs.Simple.{new_shape}
use Rattle.fold_commands.specs.Words.{option_rule}
use Rattle.fold_commands.proofs.Meaning.{rules_more}
use Rattle.fold_commands.proofs.words.subcommand.Goals as goal

pub loop-name-preserved : goal.loop-name-preserved
loop-name-preserved c =
    let rule : rule_of c.action-option.result ≡ option_rule (get_or c.args.entry.now.options.now c.loop-name.name-index (record { ref_ptr = (0, 0); now = [] })).now = search rules in
    record {
      shape = c.in_ok-command.ensures.shape (search rules)
          ∙ ap₂ with_rule c.loop-name.invariant.shape rule
          ∙ ap (λ (rs : List Rule). record { top = record (new_shape c.args.entry.now.name.now) { rules = rs }; subs = [] }) (rules_more c.args.entry.now.options.now c.loop-name.name-index _ c.loop-name-test.true);
      local = search rules;
    }
