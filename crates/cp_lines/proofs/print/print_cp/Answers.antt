use Rattle.std.proofs.Common.{◌≡◌, ◌++◌, take, All, sym, ◌∙◌, ap, subst, arith, string_bytes}
use Rattle.std.proofs.lemmas.List.{take_all}
use Rattle.cp_lines.specs.CpText.{CpText}
use Rattle.cp_lines.specs.Print.{IsPrintable, printed_line, printed_form}
use Rattle.cp_lines.proofs.Prints.{printed_spells, printed_more, printable_more}
use Rattle.cp_lines.proofs.print.print_cp.Goals as goal

pub loop-line-preserved : goal.loop-line-preserved
loop-line-preserved c =
    let i = c.loop-line.line-index in
    let lines = c.as_slice-lines.result.now in
    let line = c.line-item.result in
    let text : string_bytes c.put_line.new.out ≡ printed_form (take i lines) ++ printed_line line = c.in_ok-put_line.ensures.printed ∙ ap (λ t. t ++ printed_line line) c.loop-line.invariant.0 in (
      text ∙ ap (λ l. printed_form (take i lines) ++ printed_line l) c.line-item.is ∙ sym (printed_more lines i line (omega arith)),
      printable_more lines i line (omega arith) c.loop-line.invariant.1 (subst IsPrintable c.line-item.is c.in_ok-put_line.ensures.printable),
    )

pub returns-clause-spells : goal.returns-clause-spells
returns-clause-spells c =
    let lines = c.as_slice-lines.result.now in
    let whole : take c.loop-line.line-index lines ≡ lines = take_all c.loop-line.line-index lines (omega arith) in
    let text : c.from_string.result ≡ printed_form lines = c.from_string.ensures ∙ c.loop-line.invariant.0 ∙ ap printed_form whole in
    let spelled : CpText (printed_form lines) lines = printed_spells lines (subst (All IsPrintable) whole c.loop-line.invariant.1) in
    subst (CpText c.from_string.result) c.as_slice-lines.ensures (subst (λ t. CpText t lines) (sym text) spelled)
