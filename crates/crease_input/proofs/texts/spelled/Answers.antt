use Rattle.std.proofs.Common.{Result, Ok, Err, MatchResult, IsOk, refl}
use Rattle.std.proofs.lemmas.Str.{IsUtf8-from_ascii}
use Rattle.json_tree.proofs.NumberBytes.{number_ascii}
use Rattle.crease_input.proofs.texts.spelled.Goals as goal

-- what is refused under no condition that holds is accepted
not_refused : {T E : Type 0} (r : Result T E) (P : T → Type 0) (U : Type 0) (Q : E → Type 0)
    → MatchResult r P (λ e. (¬ U) × Q e) → U → IsOk r
not_refused (Ok t) P U Q h u = refl
not_refused (Err e) P U Q h u = absurd (h.0 u)

pub unwrap-requires : goal.unwrap-requires
unwrap-requires c =
    not_refused c.from_utf8.result _ _ _ c.from_utf8.ensures.cases
    (IsUtf8-from_ascii c.args.bytes.now (number_ascii c.args.bytes.now c.requires))
