use Rattle.std.proofs.Common.{◌≡◌, ◌<◌, ◌+◌, ◌++◌, ◌∷◌, [], ◌∙◌, ap, arith, OnOk, string_bytes}
use Rattle.std.specs.Prelude.{is_ok, if◌then◌else◌}
use Rattle.json_tree.proofs.Outcomes.{on_ok, on_ok_by}
use Rattle.cp_lines.specs.Print.{IsPrintable, printed_line}
use Rattle.cp_lines.proofs.Prints.{line_printed, pushed}
use Rattle.cp_lines.proofs.print.put_line.Goals as goal

pub returns-clause-printed : goal.returns-clause-printed
returns-clause-printed c =
    let kind : c.from.result ≡ c.args.line.now.kind + 48 = omega (arith, c.from.ensures) in
    let ascii : c.from.result < 128 = omega (arith, kind, c.requires) in
    let first : string_bytes c.push.new.self ≡ string_bytes c.args.out.now ++ (c.args.line.now.kind + 48) ∷ [] =
    c.in_ok-push.ensures.bytes ∙ ap (λ x. string_bytes c.args.out.now ++ x) (c.in_ok-push.ensures.ascii ascii ∙ ap (λ b. b ∷ []) kind) in
    let last : OnOk c.push-2.result (string_bytes c.push-2.new.self ≡ string_bytes c.put_number-4.new.out ++ 10 ∷ []) = pushed c.push-2.result _ _ (10 ∷ [])
    (c.push-2.ensures.bytes ∙ ap (λ x. if is_ok c.push-2.result then string_bytes c.put_number-4.new.out ++ x else string_bytes c.put_number-4.new.out) (c.push-2.ensures.ascii (omega arith))) in
    on_ok_by {Q = string_bytes c.push-2.new.self ≡ string_bytes c.args.out.now ++ printed_line c.args.line.now} c.push-2.result last
    (line_printed c.args.line.now _ _ _ _ _ _ _ first c.in_ok-put_number.ensures.printed c.in_ok-put_number-2.ensures.printed c.in_ok-put_number-3.ensures.printed c.in_ok-put_number-4.ensures.printed)

pub returns-clause-printable : goal.returns-clause-printable
returns-clause-printable c = on_ok {P = IsPrintable c.args.line.now} _ (record {
  kind = c.requires;
  x1 = c.put_number.ensures.number;
  y1 = c.put_number-2.ensures.number;
  x2 = c.put_number-3.ensures.number;
  y2 = c.put_number-4.ensures.number;
})
