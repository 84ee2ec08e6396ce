-- bytes one after another: those within a word, and those of a piece
use Rattle.std.proofs.Common.{◌≡◌, ℕ, ◌+◌, ◌-◌, ◌≤◌, List, [], ◌∷◌, length, take, drop, length-drop, arith, sym, ◌∙◌, ap, Some, None}
use Rattle.std.proofs.Math.Seq.{take-add}
use Rattle.std.specs.Prelude.{option_and_then, option_map}
use Rattle.first_fault.specs.Machine.{steps}
use Rattle.first_fault.proofs.Machines.{steps_join}
use Rattle.json_machine.specs.Machine.{State, InWord, InKey, in_phase, in_word, in_key, step}
use Rattle.json_machine.specs.WordScan.{WordState, next_character}

pub word_goes : (s : State) (w after : WordState) (text : List ℕ) → steps next_character w text ≡ Some after → steps step (in_phase s (InWord w)) text ≡ Some (in_phase s (InWord after))
word_goes s w after [] e = ap (option_map (λ (v : WordState). in_phase s (InWord v))) e
word_goes s w after (b ∷ text) e =
    elim (next_character w b) as (λ o. option_and_then (λ v. steps next_character v text) o ≡ Some after → option_and_then (λ t. steps step t text) (in_word (in_phase s (InWord w)) w b o) ≡ Some (in_phase s (InWord after)))
    [ None ↦ λ h. cc | Some v ↦ λ h. word_goes s v after text h ] e

pub key_goes : (s : State) (w after : WordState) (text : List ℕ) → steps next_character w text ≡ Some after → steps step (in_phase s (InKey w)) text ≡ Some (in_phase s (InKey after))
key_goes s w after [] e = ap (option_map (λ (v : WordState). in_phase s (InKey v))) e
key_goes s w after (b ∷ text) e =
    elim (next_character w b) as (λ o. option_and_then (λ v. steps next_character v text) o ≡ Some after → option_and_then (λ t. steps step t text) (in_key (in_phase s (InKey w)) w b o) ≡ Some (in_phase s (InKey after)))
    [ None ↦ λ h. cc | Some v ↦ λ h. key_goes s v after text h ] e

-- the bytes before a place of a piece, and then the first n of the rest
pub on_within : (s m e : State) (piece rest : List ℕ) (place n : ℕ) → rest ≡ drop place piece → place ≤ length piece → n ≤ length rest
    → steps step s (take place piece) ≡ Some m → steps step m (take n rest) ≡ Some e → (place + n ≤ length piece) × (steps step s (take (place + n) piece) ≡ Some e)
on_within s m e piece rest place n r inside within before after =
    let left : length rest ≡ length piece - place = ap length r ∙ length-drop place piece in (
      omega (arith, left),
      ap (steps step s) (take-add place n piece) ∙ steps_join step s m e (take place piece) (take n (drop place piece)) before (ap (λ x. steps step m (take n x)) (sym r) ∙ after),
    )
