use Rattle.std.proofs.Common.{◌≡◌, ◌++◌, ◌∷◌, [], string_bytes, rules}
use Rattle.std.specs.Prelude.{codes}
use Rattle.crease_input.proofs.PatternText.{edges_put}
use Rattle.crease_input.proofs.pattern.put_edges.Goals as goal

pub returns : goal.returns
returns c =
    let pairs_open : string_bytes c.push_str.new.self ≡ string_bytes c.args.out.now ++ codes ",\"edges_vertices\":[" = c.in_ok-push_str.ensures.bytes in
    let pairs_end : string_bytes c.push.new.self ≡ string_bytes c.put_all_ids.new.out ++ (93 ∷ []) = search rules in
    let letters_open : string_bytes c.push_str-2.new.self ≡ string_bytes c.push.new.self ++ codes ",\"edges_assignment\":[" = c.in_ok-push_str-2.ensures.bytes in
    let letters_end : string_bytes c.push-2.new.self ≡ string_bytes c.put_all_letters.new.out ++ (93 ∷ []) = search rules in
    edges_put c.args.edges.now _ _ _ _ _ _ _ pairs_open c.in_ok-put_all_ids.ensures pairs_end letters_open
    c.in_ok-put_all_letters.ensures letters_end
