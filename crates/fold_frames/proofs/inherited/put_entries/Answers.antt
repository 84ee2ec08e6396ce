use Rattle.std.proofs.Common.{◌∷◌, [], ◌++◌, take, map, sym, ◌∙◌, ap}
use Rattle.std.proofs.lemmas.List.{take_more}
use Rattle.std.specs.Str.{bytes_eq}
use Rattle.indexmap.specs.IndexMap.{insert_all}
use Rattle.fold_frames.specs.Inherits.{given}
use Rattle.fold_frames.proofs.Merge.{put_more}
use Rattle.fold_frames.proofs.inherited.put_entries.Goals as goal

pub loop-entry-preserved : goal.loop-entry-preserved
loop-entry-preserved c =
    let entries = c.args.entries.now in
    let i = c.loop-entry.entry-index in
    let entry = c.entry-item.result in
    let old = map (λ e. (e.0.now, e.1.now)) c.args.table.now.entries in
    let one = put_more _ old _ (take i entries) entry c.loop-entry.invariant c.in_ok-put_entry.ensures in
    one ∙ ap (λ es. insert_all bytes_eq old (given es)) (sym (take_more entries i entry c.loop-entry-test.true ∙ ap (λ e. take i entries ++ e ∷ []) (sym c.entry-item.is)))
