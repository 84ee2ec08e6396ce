use Rattle.std.proofs.Common.{◌≡◌, ◌++◌, ◌∷◌, [], ◌∙◌, ap, string_bytes, rules}
use Rattle.std.specs.Fmt.{signed_decimal}
use Rattle.number_rules.specs.ExactText.{exact_text_of}
use Rattle.crease_input.proofs.PatternText.{exact_pieces}
use Rattle.crease_input.proofs.pattern.put_exact.Goals as goal

pub returns : goal.returns
returns g c =
    let first : string_bytes c.push.new.self ≡ string_bytes c.put_whole.new.out ++ (44 ∷ []) = search rules in
    let second : string_bytes c.push-2.new.self ≡ string_bytes c.put_whole-2.new.out ++ (44 ∷ []) = search rules in
    let a : string_bytes c.put_whole.new.out ≡ string_bytes c.args.out.now ++ signed_decimal c.parts-a.result.0 = search rules in
    let b : string_bytes c.put_whole-2.new.out ≡ string_bytes c.push.new.self ++ signed_decimal c.parts-a.result.1 = search rules in
    let q : string_bytes c.put_whole-3.new.out ≡ string_bytes c.push-2.new.self ++ signed_decimal c.parts-a.result.2 = search rules in
    exact_pieces _ _ _ _ _ _ _ _ _ _ _ a first b second q c.in_ok-put_mark.ensures
    ∙ ap (λ p. string_bytes c.args.out.now ++ exact_text_of g.N.Exact.ROOT p) c.parts-a.ensures
