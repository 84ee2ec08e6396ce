use Rattle.std.proofs.Common.{rules, ◌≡◌, IsTrue, false, refl, ◌∙◌}
use Rattle.std.proofs.lemmas.Bool.Decides.{Decides-eqb}
use Rattle.number_rules.specs.Cut.{is_exact}
use Rattle.number_rules.proofs.Counts.{is_size}
use Rattle.number_rules.proofs.cut.Cut.is_size.Goals as goal

pub returns-then-is_exact : goal.returns-then-is_exact
returns-then-is_exact c = λ n count before shows.
    let same = is_size n count before c.args.self.now c.steps.result c.args.size c.requires.size shows c.steps.ensures in
    let exact : IsTrue (is_exact c.args.self.now.tail) = search rules in
    let equal = Decides-eqb c.steps.result c.args.size in
    ((λ t. same.0 (exact, equal.0 t)), (λ h. let both = same.1 h in equal.1 both.1))

pub returns-else-is_exact : goal.returns-else-is_exact
returns-else-is_exact c = λ n count before shows.
    let same = is_size n count before c.args.self.now _ c.args.size c.requires.size shows refl in
    let no : c.is_exact.result ≡ false = search rules in
    ((λ t. absurd (cc)), (λ h. let both = same.1 h in c.is_exact.ensures ∙ both.0))
