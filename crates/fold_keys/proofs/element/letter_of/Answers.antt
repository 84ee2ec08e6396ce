use Rattle.std.proofs.Common.{◌≡◌, ◌∷◌, [], subst, arith, false, true}
use Rattle.std.specs.Prelude.{MatchOption}
use Rattle.fold_base.specs.Letter.{spelling}
use Rattle.fold_keys.specs.Elements.{is_letter}
use Rattle.fold_keys.proofs.Sides.{letter_in}
use Rattle.fold_keys.proofs.element.letter_of.Goals as goal

pub returns-in-len1 : goal.returns-in-len1
returns-in-len1 c =
    subst (λ w. MatchOption c.from_spelling.result (is_letter w ≡ false)
    (λ letter. (spelling letter ∷ [] ≡ w) × (is_letter w ≡ true))) c.bytes.ensures.same
    (letter_in c.bytes.result.now c.from_spelling.result (omega arith)
    (omega arith) c.from_spelling.ensures)
