use Rattle.std.proofs.Common.{rules, tests, ◌∙◌, ap, sym, ◌||◌}
use Rattle.std.proofs.lemmas.Iterator.{YieldsList-from_slice}
use Rattle.std.proofs.lemmas.Iterator.Search.{position_from_yields_List}
use Rattle.std.specs.List.{list_any}
use Rattle.fold_frames.specs.Counts.{is_past, is_some_past, place_past}
use Rattle.fold_frames.proofs.counts.place_past.Goals as goal

pub returns-in-IdLists : goal.returns-in-IdLists
returns-in-IdLists c =
    position_from_yields_List (list_any (is_some_past c.args.count)) _ _ _ c.position.ensures.ran
    (YieldsList-from_slice c.in-IdLists.lists (c.iter.ensures.rest ∙ c.as_slice.ensures))
    (λ x b q k. search (rules, tests))
    ∙ ap (place_past c.args.count) (sym c.in-IdLists.is)

pub returns-in-Pairs : goal.returns-in-Pairs
returns-in-Pairs c =
    position_from_yields_List (λ pair. is_past c.args.count pair.0 || is_past c.args.count pair.1) _ _ _
    c.position-in-Pairs.ensures.ran
    (YieldsList-from_slice c.in-Pairs.pairs (c.iter-in-Pairs.ensures.rest ∙ c.as_slice-in-Pairs.ensures))
    (λ x b q k. search (rules, tests))
    ∙ ap (place_past c.args.count) (sym c.in-Pairs.is)

pub returns-in-Orders : goal.returns-in-Orders
returns-in-Orders c =
    position_from_yields_List (λ o. is_past c.args.count o.first || is_past c.args.count o.second) _ _ _
    c.position-in-Orders.ensures.ran
    (YieldsList-from_slice c.in-Orders.orders (c.iter-in-Orders.ensures.rest ∙ c.as_slice-in-Orders.ensures))
    (λ x b q k. search (rules, tests))
    ∙ ap (place_past c.args.count) (sym c.in-Orders.is)
