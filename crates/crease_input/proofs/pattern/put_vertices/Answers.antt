use Rattle.std.proofs.Common.{◌≡◌, ◌++◌, ◌∷◌, [], string_bytes, rules}
use Rattle.std.specs.Prelude.{codes}
use Rattle.crease_input.proofs.PatternText.{nine_vertices, exact_vertices}
use Rattle.crease_input.proofs.pattern.put_vertices.Goals as goal

pub returns-then-are_nine_decimals : goal.returns-then-are_nine_decimals
returns-then-are_nine_decimals g c =
    let p = c.in_ok-put_points.ensures in
    let opened : string_bytes c.push_str.new.self ≡ string_bytes c.args.out.now ++ codes ",\"vertices_coords\":[" = c.in_ok-push_str.ensures.bytes in
    let closed : string_bytes c.push.new.self ≡ string_bytes c.put_points.new.out ++ (93 ∷ []) = search rules in
    nine_vertices g.N.Exact.ROOT g.N.Exact.parts c.args.coords.now _ _ _ _
    (record { texts = p.0; nine = p.1; put = p.2 }) opened closed c.are_nine_decimals.result c.are_nine_decimals.ensures
    c.if-are_nine_decimals.true

pub returns : goal.returns
returns g c =
    let p = c.in_ok-put_points.ensures in
    let opened : string_bytes c.push_str.new.self ≡ string_bytes c.args.out.now ++ codes ",\"vertices_coords\":[" = c.in_ok-push_str.ensures.bytes in
    let closed : string_bytes c.push.new.self ≡ string_bytes c.put_points.new.out ++ (93 ∷ []) = search rules in
    let exact_opened : string_bytes c.push_str-2.new.self ≡ string_bytes c.push.new.self ++ codes ",\"fx:vertices_coords\":[" = c.in_ok-push_str-2.ensures.bytes in
    let exact_closed : string_bytes c.push-2.new.self ≡ string_bytes c.put_exact_points.new.out ++ (93 ∷ []) = search rules in
    exact_vertices g.N.Exact.ROOT g.N.Exact.parts c.args.coords.now _ _ _ _ _ _ _ c.requires
    (record { texts = p.0; nine = p.1; put = p.2 }) opened closed exact_opened c.in_ok-put_exact_points.ensures exact_closed
    c.are_nine_decimals.result c.are_nine_decimals.ensures c.if-are_nine_decimals.false
