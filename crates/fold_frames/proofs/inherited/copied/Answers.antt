use Rattle.std.proofs.Common.{rules, ◌≡◌, map, ◌∙◌, ap}
use Rattle.std.specs.Map.Iter.{deref_pair}
use Rattle.std.proofs.lemmas.Map.Iter.{iter_end}
use Rattle.fold_frames.proofs.Merge.{copied_more}
use Rattle.fold_frames.proofs.inherited.copied.Goals as goal

pub returns : goal.returns
returns c =
    let all : map deref_pair c.loop-key.yielded ≡ c.args.table.now.entries = search (rules, iter_end) in
    c.loop-key.invariant ∙ ap (map (λ e. (e.0.now, e.1.now))) all

pub loop-key-preserved : goal.loop-key-preserved
loop-key-preserved c =
    copied_more deref_pair (λ e. (e.0.now, e.1.now)) c.loop-key.entries c.push.new.self c.loop-key.yielded (c.in-Some.key, c.in-Some.value)
    (record { key = c.in_ok-copy.field-0; value = c.in_ok-copy_value.field-0 }) c.loop-key.invariant (search rules)
    (λ i. (c.in_ok-copy.ensures i, c.in_ok-copy_value.ensures i))
