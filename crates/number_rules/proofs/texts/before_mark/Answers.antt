use Rattle.std.proofs.Common.{◌≡◌, ◌∙◌, refl, sym, ◌∷◌, [], rules}
use Rattle.number_rules.proofs.ExactTexts.{none_left, one_rest, marked, with_mark, true_or_false}
use Rattle.std.proofs.lemmas.Slice.Eq.{slice_eq-Decides}
use Rattle.std.proofs.lemmas.Bool.Decides.{Decides-eqb}
use Rattle.number_rules.proofs.texts.before_mark.Goals as goal

pub returns-in_err-front-clause-each : goal.returns-in_err-front-clause-each
returns-in_err-front-clause-each g c = λ front none e.
    let three : g.R.Radicand.K ≡ 3 = search rules in
    absurd (none_left _ (marked g.R.Radicand.K c.args.bytes.now front three none e).1 c.in_err-front.ensures.none)

pub returns-then-eq-clause-some : goal.returns-then-eq-clause-some
returns-then-eq-clause-some g c =
    let three : g.R.Radicand.K ≡ 3 = search rules in
    with_mark g.R.Radicand.K c.args.bytes.now c.in_ok-front.front.now c.in_ok-front.mark.now three c.in_ok-front.ensures.some ((slice_eq-Decides Decides-eqb _ _ _ c.eq.ensures).0 c.if-eq.true ∙ c.as_slice.ensures)

pub returns-then-eq-clause-each : goal.returns-then-eq-clause-each
returns-then-eq-clause-each g c = λ front none e.
    let three : g.R.Radicand.K ≡ 3 = search rules in
    (refl, sym c.in_ok-front.ensures.some.0 ∙ (marked g.R.Radicand.K c.args.bytes.now front three none e).0)

pub returns-else-eq-clause-each : goal.returns-else-eq-clause-each
returns-else-eq-clause-each g c = λ front none e.
    let three : g.R.Radicand.K ≡ 3 = search rules in
    let is : c.in_ok-front.mark.now ≡ 51 ∷ [] = one_rest _ _ c.in_ok-front.ensures.some.1 (marked g.R.Radicand.K c.args.bytes.now front three none e).1 in
    absurd (true_or_false (sym ((slice_eq-Decides Decides-eqb _ _ _ c.eq.ensures).1 (is ∙ sym c.as_slice.ensures)) ∙ c.if-eq.false))
