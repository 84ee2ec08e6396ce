use Rattle.std.proofs.Common.{◌≡◌, ◌++◌, ◌∷◌, [], string_bytes, rules, subst, sym, ap, ◌∙◌}
use Rattle.std.specs.Prelude.{codes, List}
use Rattle.crease_input.specs.Files.{AreVertexEntries, edge_entries}
use Rattle.crease_input.specs.Pattern.{IsPatternText, entries_behind}
use Rattle.crease_input.proofs.PatternText.{is_pattern}
use Rattle.fold_keys.specs.declared.value.Entry.{Entry}
use Rattle.crease_input.proofs.pattern.pattern_text.Goals as goal

pub returns : goal.returns
returns g c =
    let empty : string_bytes c.new-out.result ≡ [] = search rules in
    let head : string_bytes c.push_str.new.self
    ≡ codes "{\"file_spec\":1.2,\"file_creator\":\"fold_program\",\"frame_classes\":[\"creasePattern\"]" = c.in_ok-push_str.ensures.bytes ∙ ap (λ s. s ++ codes "{\"file_spec\":1.2,\"file_creator\":\"fold_program\",\"frame_classes\":[\"creasePattern\"]") empty in
    let ended : c.from_string.result ≡ string_bytes c.put_edges.new.out ++ codes "}\n" = search rules in
    is_pattern g.N.Exact.ROOT g.N.Exact.parts c.args.ends.now (string_bytes c.push_str.new.self)
    (string_bytes c.put_vertices.new.out) (string_bytes c.put_edges.new.out) c.from_string.result head
    (search rules) (search rules) ended
