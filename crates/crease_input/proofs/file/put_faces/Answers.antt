use Rattle.std.proofs.Common.{◌∙◌, ◌∷◌, [], ◌++◌, ap, sym, map, Some}
use Rattle.std.specs.Prelude.{codes}
use Rattle.std.specs.Option.{option_copied}
use Rattle.fold_keys.specs.declared.value.Value.TheVariants as values
use Rattle.crease_input.specs.Files.{entry, face_entries}
use Rattle.crease_input.proofs.file.put_faces.Goals as goal

pub returns : goal.returns
returns c =
    let old = c.args.entries.now in
    let lists = c.in_ok-lists.ensures ∙ ap (map (λ face. map Some face.corners)) c.as_slice.ensures in
    c.in_ok-put.ensures
    ∙ (λ i. old ++ entry (codes "faces_vertices") (values.IdLists (lists i)) ∷ [])
    ∙ ap (λ o. old ++ face_entries (option_copied o)) (sym c.in-Some.is)
