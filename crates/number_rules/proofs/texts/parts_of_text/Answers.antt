use Rattle.std.proofs.Common.{rules, FitsSigned}
use Rattle.std.specs.Int.{w128}
use Rattle.std.proofs.lemmas.Int.{to_z-of_z}
use Rattle.number_rules.proofs.ExactTexts.{none_left, peeled, together, no_number, none_there, three_once}
use Rattle.number_rules.proofs.WholeTexts.{field, without_comma}
use Rattle.number_rules.proofs.texts.parts_of_text.Goals as goal

pub returns-in_err-a_text-clause-each : goal.returns-in_err-a_text-clause-each
returns-in_err-a_text-clause-each g c = λ p h e. absurd (none_left _ (field c.args.bytes.now p.a _ h.a e).1 c.in_err-a_text.ensures.none)

pub returns-in_err-b_text-clause-each : goal.returns-in_err-b_text-clause-each
returns-in_err-b_text-clause-each g c = λ p h e.
    let one = peeled c.args.bytes.now c.in_ok-a_text.a_text.now c.in_ok-a_text.behind_a.now _ p.a h.a e c.in_ok-a_text.ensures.some in
    absurd (none_left _ (field c.in_ok-a_text.behind_a.now p.b _ h.b one.1).1 c.in_err-b_text.ensures.none)

pub returns-in_err-q_text-clause-each : goal.returns-in_err-q_text-clause-each
returns-in_err-q_text-clause-each g c = λ p h e.
    let one = peeled c.args.bytes.now c.in_ok-a_text.a_text.now c.in_ok-a_text.behind_a.now _ p.a h.a e c.in_ok-a_text.ensures.some in
    let two = peeled c.in_ok-a_text.behind_a.now c.in_ok-b_text.b_text.now c.in_ok-b_text.behind_b.now _ p.b h.b one.1 c.in_ok-b_text.ensures.some in
    absurd (none_there (c.in_err-q_text.ensures.each _ (without_comma p.q h.q) two.1).0)

pub returns-in_err-a-clause-each : goal.returns-in_err-a-clause-each
returns-in_err-a-clause-each g c = λ p h e.
    let one = peeled c.args.bytes.now c.in_ok-a_text.a_text.now c.in_ok-a_text.behind_a.now _ p.a h.a e c.in_ok-a_text.ensures.some in
    absurd (no_number (c.in_err-a.ensures.each p.a h.a one.0))

pub returns-in_err-b-clause-each : goal.returns-in_err-b-clause-each
returns-in_err-b-clause-each g c = λ p h e.
    let one = peeled c.args.bytes.now c.in_ok-a_text.a_text.now c.in_ok-a_text.behind_a.now _ p.a h.a e c.in_ok-a_text.ensures.some in
    let two = peeled c.in_ok-a_text.behind_a.now c.in_ok-b_text.b_text.now c.in_ok-b_text.behind_b.now _ p.b h.b one.1 c.in_ok-b_text.ensures.some in
    absurd (no_number (c.in_err-b.ensures.each p.b h.b two.0))

pub returns-in_err-q-clause-each : goal.returns-in_err-q-clause-each
returns-in_err-q-clause-each g c = λ p h e.
    let one = peeled c.args.bytes.now c.in_ok-a_text.a_text.now c.in_ok-a_text.behind_a.now _ p.a h.a e c.in_ok-a_text.ensures.some in
    let two = peeled c.in_ok-a_text.behind_a.now c.in_ok-b_text.b_text.now c.in_ok-b_text.behind_b.now _ p.b h.b one.1 c.in_ok-b_text.ensures.some in
    let last = c.in_ok-q_text.ensures.each _ (without_comma p.q h.q) two.1 in
    absurd (no_number (c.in_err-q.ensures.each p.q h.q last.1))

pub returns-clause-some : goal.returns-clause-some
returns-clause-some g c =
    let a_fits : FitsSigned w128 c.in_ok-a.a = search rules in
    let b_fits : FitsSigned w128 c.in_ok-b.b = search rules in
    let q_fits : FitsSigned w128 c.in_ok-q.q = search rules in
    rw (to_z-of_z w128 c.in_ok-a.a a_fits, to_z-of_z w128 c.in_ok-b.b b_fits, to_z-of_z w128 c.in_ok-q.q q_fits) (
      together g.R.Radicand.K c.args.bytes.now c.in_ok-a_text.a_text.now c.in_ok-a_text.behind_a.now c.in_ok-b_text.b_text.now c.in_ok-b_text.behind_b.now c.in_ok-q_text.q_text.now c.in_ok-a.a c.in_ok-b.b c.in_ok-q.q
          c.in_ok-a_text.ensures.some c.in_ok-b_text.ensures.some c.in_ok-q_text.ensures.some c.in_ok-a.ensures.some.0 c.in_ok-b.ensures.some.0 c.in_ok-q.ensures.some.0,
      record { a = c.in_ok-a.ensures.some.1; b = c.in_ok-b.ensures.some.1; q = c.in_ok-q.ensures.some.1 },
    )

pub returns-clause-each : goal.returns-clause-each
returns-clause-each g c = λ p h e.
    let a_fits : FitsSigned w128 c.in_ok-a.a = search rules in
    let b_fits : FitsSigned w128 c.in_ok-b.b = search rules in
    let q_fits : FitsSigned w128 c.in_ok-q.q = search rules in
    let one = peeled c.args.bytes.now c.in_ok-a_text.a_text.now c.in_ok-a_text.behind_a.now _ p.a h.a e c.in_ok-a_text.ensures.some in
    let two = peeled c.in_ok-a_text.behind_a.now c.in_ok-b_text.b_text.now c.in_ok-b_text.behind_b.now _ p.b h.b one.1 c.in_ok-b_text.ensures.some in
    let last = c.in_ok-q_text.ensures.each _ (without_comma p.q h.q) two.1 in
    rw (to_z-of_z w128 c.in_ok-a.a a_fits, to_z-of_z w128 c.in_ok-b.b b_fits, to_z-of_z w128 c.in_ok-q.q q_fits)
    (three_once _ _ _ p (c.in_ok-a.ensures.each p.a h.a one.0) (c.in_ok-b.ensures.each p.b h.b two.0) (c.in_ok-q.ensures.each p.q h.q last.1))
