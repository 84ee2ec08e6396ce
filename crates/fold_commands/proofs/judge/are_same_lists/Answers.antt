use Rattle.std.proofs.Common.{◌≡◌, ◌∙◌, [], arith, length, rules, sym, true}
use Rattle.std.proofs.lemmas.List.{get_or_default}
use Rattle.fold_commands.proofs.SameLists.{same_more}
use Rattle.fold_commands.proofs.judge.are_same_lists.Goals as goal

pub loop-place-preserved : goal.loop-place-preserved
loop-place-preserved c =
    let long : length c.args.lists.now ≡ length c.args.others.now = search rules in
    let yes : c.are_same_ids.result ≡ true = search rules in
    let same : c.as_slice.result.now ≡ c.as_slice-in-loop-place.result.now = c.are_same_ids.ensures.0 yes in
    same_more c.args.lists.now c.args.others.now c.loop-place.place [] c.loop-place-test.true long c.loop-place.invariant
    (get_or_default c.args.lists.now c.loop-place.place [] c.index-lists-place.result c.loop-place-test.true
    ∙ sym c.index-lists-place.is ∙ sym c.as_slice.ensures ∙ same ∙ c.as_slice-in-loop-place.ensures ∙ c.index-others-place.is
    ∙ get_or_default c.args.others.now c.loop-place.place c.index-others-place.result [] (omega (arith, long, c.loop-place-test.true)))
