use Rattle.std.proofs.Common.{◌-◌, IsTrue, subst, sym, refl, arith}
use Rattle.std.specs.Prelude.{◌↔◌}
use Rattle.std.specs.List.{AllByRecursion}
use Rattle.json_tree.specs.Tree.{IsProperWithin}
use Rattle.json_tree.proofs.ProperTrees.{proper-Null, proper-Truth, proper-Number, proper-Word, decided-List, decided-Object}
use Rattle.json_tree.proofs.proper.+proper.Goals as goal

pub is_proper_within-returns-in-List : goal.is_proper_within-returns-in-List
is_proper_within-returns-in-List t c =
    let test = c.are_proper_items.result in
    subst (λ tree. IsTrue test ↔ IsProperWithin c.args.levels tree) (sym c.in-List.is)
    (decided-List c.args.levels _ test (omega arith) (subst (λ items. IsTrue test ↔ AllByRecursion (IsProperWithin (c.args.levels - 1)) items) c.as_slice.ensures c.are_proper_items.ensures))

pub is_proper_within-returns-in-Object : goal.is_proper_within-returns-in-Object
is_proper_within-returns-in-Object t c =
    let test = c.are_proper_members.result in
    subst (λ tree. IsTrue test ↔ IsProperWithin c.args.levels tree) (sym c.in-Object.is)
    (decided-Object c.args.levels _ test (omega arith) c.are_proper_members.ensures)

pub is_proper_within-returns-in-Null : goal.is_proper_within-returns-in-Null
is_proper_within-returns-in-Null t c = ((λ yes. subst (IsProperWithin c.args.levels) (sym c.in-Null.is) (proper-Null _)), (λ proper. refl))

pub is_proper_within-returns-in-Truth : goal.is_proper_within-returns-in-Truth
is_proper_within-returns-in-Truth t c = ((λ yes. subst (IsProperWithin c.args.levels) (sym c.in-Truth.is) (proper-Truth _ _)), (λ proper. refl))

pub is_proper_within-returns-in-Number : goal.is_proper_within-returns-in-Number
is_proper_within-returns-in-Number t c = ((λ yes. subst (IsProperWithin c.args.levels) (sym c.in-Number.is) (proper-Number _ _)), (λ proper. refl))

pub is_proper_within-returns-in-Word : goal.is_proper_within-returns-in-Word
is_proper_within-returns-in-Word t c = ((λ yes. subst (IsProperWithin c.args.levels) (sym c.in-Word.is) (proper-Word _ _)), (λ proper. refl))
