use Rattle.std.proofs.Common.{◌≡◌, ◌∙◌, ap, sym, arith, take}
use Rattle.std.proofs.lemmas.List.{take_all}
use Rattle.number_rules.specs.WholeText.{with_bytes}
use Rattle.number_rules.specs.declared.whole_text.Digits.TheVariants.{Nothing}
use Rattle.number_rules.proofs.WholeTexts.{with_more, read_of, each_read, one_read}
use Rattle.number_rules.proofs.whole_text.read_digits.Goals as goal

pub loop-byte-preserved : goal.loop-byte-preserved
loop-byte-preserved c = (
  c.with_byte-digits.ensures.kept,
  (let more = with_more c.args.bytes.now c.loop-byte.byte-index c.loop-byte-test.true in
      c.with_byte-digits.ensures.value ∙ cc),
)

pub returns-in-Number-clause-some : goal.returns-in-Number-clause-some
returns-in-Number-clause-some c =
    let whole : take c.loop-byte.byte-index c.args.bytes.now ≡ c.args.bytes.now = take_all c.loop-byte.byte-index c.args.bytes.now (omega arith) in
    read_of c.args.bytes.now c.in-Number.number (sym c.in-Number.is ∙ c.loop-byte.invariant.1 ∙ ap (with_bytes Nothing) whole)

pub returns-in-Number-clause-each : goal.returns-in-Number-clause-each
returns-in-Number-clause-each c = λ n h e.
    let whole : take c.loop-byte.byte-index c.args.bytes.now ≡ c.args.bytes.now = take_all c.loop-byte.byte-index c.args.bytes.now (omega arith) in
    one_read c.args.bytes.now c.in-Number.number n (sym c.in-Number.is ∙ c.loop-byte.invariant.1 ∙ ap (with_bytes Nothing) whole) h e

pub returns-in_default : goal.returns-in_default
returns-in_default c = record {
  some = tt;
  each = λ n h e.
      let whole : take c.loop-byte.byte-index c.args.bytes.now ≡ c.args.bytes.now = take_all c.loop-byte.byte-index c.args.bytes.now (omega arith) in
      absurd (c.in_default.not-Number n (c.loop-byte.invariant.1 ∙ ap (with_bytes Nothing) (whole ∙ e) ∙ each_read n h));
}
