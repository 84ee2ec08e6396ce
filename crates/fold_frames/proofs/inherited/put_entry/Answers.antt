use Rattle.std.proofs.Common.{rules, ◌≡◌, map, refl, sym, ◌∙◌, ap, false}
use Rattle.std.specs.Str.{bytes_eq}
use Rattle.indexmap.specs.IndexMap.{insert_all}
use Rattle.fold_frames.specs.Inherits.{is_left_out}
use Rattle.fold_frames.proofs.Merge.{shown_insert, given_one, inserted}
use Rattle.fold_frames.proofs.inherited.put_entry.Goals as goal

pub returns-in_ok-map_err : goal.returns-in_ok-map_err
returns-in_ok-map_err c =
    let kept : is_left_out c.args.entry.now.key ≡ false =
    ap is_left_out (sym c.bytes.ensures.same) ∙ sym c.is_left_out.ensures ∙ c.if-not-is_left_out.true in
    ap (map (λ e. (e.0.now, e.1.now))) (inserted _ _ (search rules) c.insert.ensures.entries)
    ∙ shown_insert _ bytes_eq (λ k. k.now) (λ v. v.now) (λ x y. refl) c.args.table.now.entries _ _
    ∙ ap (insert_all bytes_eq (map (λ e. (e.0.now, e.1.now)) c.args.table.now.entries)) (sym (given_one c.args.entry.now kept))
