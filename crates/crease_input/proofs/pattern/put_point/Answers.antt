use Rattle.std.proofs.Common.{◌≡◌, ◌++◌, ◌∷◌, [], string_bytes, rules}
use Rattle.crease_input.proofs.PatternText.{point_put}
use Rattle.crease_input.proofs.pattern.put_point.Goals as goal

pub returns : goal.returns
returns g c =
    let x = c.in_ok-put_nine.ensures in
    let y = c.in_ok-put_nine-2.ensures in
    let opened : string_bytes c.push.new.self ≡ string_bytes c.args.out.now ++ (91 ∷ []) = search rules in
    let parted : string_bytes c.push-2.new.self ≡ string_bytes c.put_nine.new.out ++ (44 ∷ []) = search rules in
    let closed : string_bytes c.push-3.new.self ≡ string_bytes c.put_nine-2.new.out ++ (93 ∷ []) = search rules in
    ((x.0, y.0), (x.1, y.1), point_put (x.0, y.0) _ _ _ _ _ _ opened x.2 parted y.2 closed)
