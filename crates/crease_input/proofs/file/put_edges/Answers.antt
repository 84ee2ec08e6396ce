use Rattle.std.proofs.Common.{◌∙◌, ◌∷◌, [], ◌++◌, ap}
use Rattle.std.specs.Prelude.{codes}
use Rattle.std.proofs.lemmas.List.{append_assoc}
use Rattle.fold_keys.specs.declared.value.Value.TheVariants as values
use Rattle.crease_input.specs.Files.{entry}
use Rattle.crease_input.proofs.file.put_edges.Goals as goal

pub returns : goal.returns
returns c =
    let old = c.args.entries.now in
    let pairs = c.from_vec-pairs.ensures ∙ c.in_ok-pairs_of.ensures in
    let letters = c.from_vec-letters.ensures ∙ c.in_ok-letters_of.ensures in
    c.in_ok-put-2.ensures
    ∙ ap (λ es. es ++ entry (codes "edges_assignment") (values.Letters c.from_vec-letters.result) ∷ [])
    c.in_ok-put.ensures
    ∙ (λ i. (old ++ entry (codes "edges_vertices") (values.Pairs (pairs i)) ∷ [])
    ++ entry (codes "edges_assignment") (values.Letters (letters i)) ∷ [])
    ∙ append_assoc old _ _
