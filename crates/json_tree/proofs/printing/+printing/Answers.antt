use Rattle.std.proofs.Common.{IsUtf8, sym, ap, ◌∙◌, subst, arith}
use Rattle.std.specs.List.{AllByRecursion}
use Rattle.std.proofs.lemmas.Grind.{common_steps}
use Rattle.json_tree.specs.PrintedForm.{printed_form, printed_member}
use Rattle.json_tree.specs.Tree.{HasValidText, HasValidTexts, MemberHasValidTexts}
use Rattle.json_tree.proofs.Outcomes.{on_ok, on_ok_by}
use Rattle.json_tree.proofs.Trees.{printed_form-List, printed_form-Object, every-Null, every-Truth, every-Number, every-Word, every-List, every-Object, every_member}
use Rattle.json_tree.proofs.Joined.{joined_more, all_more}
use Rattle.json_tree.proofs.printing.+printing.Goals as goal

pub put_items-loop-place-preserved : goal.put_items-loop-place-preserved
put_items-loop-place-preserved t c = record {
  printed = joined_more c.args.items.now c.loop-place.place c.index-items-place.result c.loop-place-test.true c.index-items-place.is printed_form _ _ _ _ c.loop-place.invariant.printed c.in_ok-put_comma.ensures c.in_ok-put_value.ensures.printed;
  texts = all_more c.args.items.now c.loop-place.place c.index-items-place.result c.loop-place-test.true c.index-items-place.is HasValidTexts c.in_ok-put_value.ensures.texts c.loop-place.invariant.texts;
}

pub put_members-loop-place-preserved : goal.put_members-loop-place-preserved
put_members-loop-place-preserved t c = record {
  printed = joined_more c.args.members.now c.loop-place.place c.index-members-place.result c.loop-place-test.true c.index-members-place.is printed_member _ _ _ _ c.loop-place.invariant.printed c.in_ok-put_comma.ensures c.in_ok-put_member.ensures.printed;
  texts = all_more c.args.members.now c.loop-place.place c.index-members-place.result c.loop-place-test.true c.index-members-place.is MemberHasValidTexts c.in_ok-put_member.ensures.texts c.loop-place.invariant.texts;
}

pub put_member-returns-clause-texts : goal.put_member-returns-clause-texts
put_member-returns-clause-texts t c = on_ok_by _ c.put_value.ensures.texts (λ all. every_member HasValidText (λ m. IsUtf8 m.key) c.args.member.now c.in_ok-put_word.ensures.utf8 all)

pub put_value-returns-in-Null-clause-texts : goal.put_value-returns-in-Null-clause-texts
put_value-returns-in-Null-clause-texts t c = on_ok _ (subst HasValidTexts (sym c.in-Null.is) (every-Null HasValidText (λ m. IsUtf8 m.key) tt))

pub put_value-returns-in-Truth-true-clause-texts : goal.put_value-returns-in-Truth-true-clause-texts
put_value-returns-in-Truth-true-clause-texts t c = on_ok _ (subst HasValidTexts (sym c.in-Truth-true.is) (every-Truth HasValidText (λ m. IsUtf8 m.key) _ tt))

pub put_value-returns-in-Truth-false-clause-texts : goal.put_value-returns-in-Truth-false-clause-texts
put_value-returns-in-Truth-false-clause-texts t c = on_ok _ (subst HasValidTexts (sym c.in-Truth-false.is) (every-Truth HasValidText (λ m. IsUtf8 m.key) _ tt))

pub put_value-returns-in-Number-clause-texts : goal.put_value-returns-in-Number-clause-texts
put_value-returns-in-Number-clause-texts t c = on_ok _ (subst HasValidTexts (sym c.in-Number.is) (every-Number HasValidText (λ m. IsUtf8 m.key) _ c.as_str.ensures.number))

pub put_value-returns-in-Word-clause-texts : goal.put_value-returns-in-Word-clause-texts
put_value-returns-in-Word-clause-texts t c = on_ok_by _ c.put_word.ensures.utf8 (λ u. subst HasValidTexts (sym c.in-Word.is) (every-Word HasValidText (λ m. IsUtf8 m.key) _ u))

pub put_value-returns-in_ok-put_items-in-List-clause-printed : goal.put_value-returns-in_ok-put_items-in-List-clause-printed
put_value-returns-in_ok-put_items-in-List-clause-printed t c =
    let e = ap printed_form c.in-List.is ∙ printed_form-List _ in
    grind (arith, common_steps)

pub put_value-returns-in_ok-put_items-in-List-clause-texts : goal.put_value-returns-in_ok-put_items-in-List-clause-texts
put_value-returns-in_ok-put_items-in-List-clause-texts t c = on_ok _ (subst HasValidTexts (sym c.in-List.is) (every-List HasValidText (λ m. IsUtf8 m.key) _ (subst (AllByRecursion HasValidTexts) c.as_slice.ensures c.in_ok-put_items-in-List.ensures.texts) tt))

pub put_value-returns-in_ok-put_members-in-Object-clause-printed : goal.put_value-returns-in_ok-put_members-in-Object-clause-printed
put_value-returns-in_ok-put_members-in-Object-clause-printed t c =
    let e = ap printed_form c.in-Object.is ∙ printed_form-Object _ in
    grind (arith, common_steps)

pub put_value-returns-in_ok-put_members-in-Object-clause-texts : goal.put_value-returns-in_ok-put_members-in-Object-clause-texts
put_value-returns-in_ok-put_members-in-Object-clause-texts t c = on_ok _ (subst HasValidTexts (sym c.in-Object.is) (every-Object HasValidText (λ m. IsUtf8 m.key) _ (subst (AllByRecursion MemberHasValidTexts) c.as_slice-in-Object.ensures c.in_ok-put_members-in-Object.ensures.texts) tt))
