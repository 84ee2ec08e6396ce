use Rattle.std.proofs.Common.{◌++◌, ◌∙◌, ap, string_bytes}
use Rattle.crease_input.specs.Pattern.{printed_letter}
use Rattle.crease_input.proofs.PatternText.{joined_at}
use Rattle.crease_input.proofs.pattern.put_all_letters.Goals as goal

pub loop-place-preserved : goal.loop-place-preserved
loop-place-preserved c =
    joined_at c.args.edges.now c.loop-place.place _ c.loop-place-test.true (λ edge. printed_letter edge.letter) _ _ _ _
    c.loop-place.invariant c.in_ok-put_comma.ensures
    (c.in_ok-push_str.ensures.bytes ∙ ap (λ word. string_bytes c.put_comma.new.out ++ word) c.word_of.ensures)
