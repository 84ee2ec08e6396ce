use Rattle.std.proofs.Common.{◌≡◌, ◌∙◌, ℕ, ◌-◌, ◌*◌, ◌/◌, List, [], ◌∷◌, ◌++◌, ap, refl, codes, append_assoc}
use Rattle.std.specs.Fmt.{decimal}
use Rattle.fold_commands.specs.Drills.{strip_line}
use Rattle.fold_commands.proofs.drill.strip_line.Goals as goal

-- the line by its first two numbers, grouped from its end
abbrev grouped : ℕ → ℕ → List ℕ
grouped faces creases =
    codes "faces " ++ (decimal faces ++ (codes " creases " ++ (decimal creases ++ (codes " orders "
    ++ (decimal (faces * creases / 2) ++ (codes " verdict yes" ++ 10 ∷ []))))))

regrouped : (n : ℕ) → grouped n (n - 1) ≡ strip_line n
regrouped n = simp append_assoc refl

pub returns : goal.returns
returns c =
    let faces : c.from-faces.result ≡ c.args.count = c.from-faces.ensures in
    let creases : c.saturating_sub-creases.result ≡ c.args.count - 1 = c.saturating_sub-creases.ensures ∙ ap (λ n. n - 1) faces in
    c.from_string.ensures ∙ c.in_ok-line.ensures.ok
    ∙ ap (λ f. grouped f c.saturating_sub-creases.result) faces ∙ ap (grouped c.args.count) creases ∙ regrouped c.args.count
