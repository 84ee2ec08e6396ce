use Rattle.std.proofs.Common.{◌≡◌, ◌∙◌, ap, subst, sym, [], ◌∷◌, pos}
use Rattle.std.specs.declared.cmp.Ordering.TheVariants.{Equal}
use Rattle.algebra.specs.LowestTerms.{Parts}
use Rattle.algebra.specs.NumberFormulas.{whole_parts}
use Rattle.algebra.proofs.Solvers.{reads, ring}
use Rattle.exact_number.specs.WideForms.{AllFit, wide_sum, wide_quotient}
use Rattle.exact_number.proofs.Answered.{answered_as, of_answer}
use Rattle.exact_number.proofs.generic.midpoint.Goals as goal

moved : {A B : Type 0} (P : A → B → Type 0) (a c : A) (b d : B) → a ≡ c → b ≡ d → P a b → P c d
moved P a c b d e f h = subst (λ t. P t d) e (subst (λ t. P a t) f h)

pub returns-clause-answer : goal.returns-clause-answer
returns-clause-answer g c =
    let n = g.N.Exact.numbers in
    let total : c.in_ok-add.field-0 ≡ n.add c.args.x c.args.y = c.in_ok-add.ensures.answer.1 in
    let total_parts : g.N.Exact.parts c.in_ok-add.field-0 ≡ g.N.Exact.parts (n.add c.args.x c.args.y) = ap g.N.Exact.parts total in
    let two_parts : g.N.Exact.parts c.whole_number-two.result ≡ whole_parts (pos 2) = ap g.N.Exact.parts c.whole_number-two.ensures ∙ n.whole_is (pos 2) in
    let Form : Parts → Parts → Type 0 = λ p r. AllFit (wide_quotient g.N.Exact.ROOT p r) in
    answered_as c.div.result
    (Form (g.N.Exact.parts c.in_ok-add.field-0) (g.N.Exact.parts c.whole_number-two.result))
    (AllFit (wide_sum g.N.Exact.ROOT (g.N.Exact.parts c.args.x) (g.N.Exact.parts c.args.y)) × Form (g.N.Exact.parts (n.add c.args.x c.args.y)) (whole_parts (pos 2)))
    (n.div c.in_ok-add.field-0 c.whole_number-two.result)
    (n.div (n.add c.args.x c.args.y) (n.int (pos 2)))
    (λ h. (c.in_ok-add.ensures.answer.0, moved Form _ _ _ _ total_parts two_parts h))
    (λ h. moved Form _ _ _ _ (sym total_parts) (sym two_parts) h.1)
    (moved (λ s t. n.div c.in_ok-add.field-0 c.whole_number-two.result ≡ n.div s t) _ _ _ _ total c.whole_number-two.ensures (λ i. n.div c.in_ok-add.field-0 c.whole_number-two.result))
    c.div.ensures.answer

pub returns-clause-halfway : goal.returns-clause-halfway
returns-clause-halfway g c =
    let n = g.N.Exact.numbers in
    let total : c.in_ok-add.field-0 ≡ n.add c.args.x c.args.y = c.in_ok-add.ensures.answer.1 in
    let half = n.div c.in_ok-add.field-0 c.whole_number-two.result in
    let not_zero : ¬ (n.sign c.whole_number-two.result ≡ Equal) = λ z. let two : n.sign c.whole_number-two.result ≡ n.sign (n.int (pos 2)) = ap n.sign c.whole_number-two.ensures in let positive = n.sign_int (pos 2) in cc in
    let twice : n.add half half ≡ n.mul half (n.int (pos 2)) = ring n.ring (half ∷ []) (search reads depth 40 fits 50000) (search reads depth 40 fits 50000) tt in
    of_answer c.div.result _ _ (λ m. n.add m m ≡ n.add c.args.x c.args.y)
    (twice ∙ ap (n.mul half) (sym c.whole_number-two.ensures) ∙ n.div_mul c.in_ok-add.field-0 c.whole_number-two.result not_zero ∙ total)
    c.div.ensures.answer
