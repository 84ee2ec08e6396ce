use Rattle.std.proofs.Common.{◌≡◌, ◌<◌, ◌∷◌, ◌++◌, [], sym, ◌∙◌, ap, arith, Some, None, true, false}
use Rattle.std.specs.Prelude.{is_some, string_bytes}
use Rattle.json_tree.specs.Scan.{phase_after}
use Rattle.json_tree.proofs.Numbers.{byte_taken, begun_by}
use Rattle.json_tree.proofs.NumberBytes.{ascii_taken}
use Rattle.json_tree.proofs.scanner.NumberScanner.take.Goals as goal

pub invariant_of-self-in-Some : goal.invariant_of-self-in-Some
invariant_of-self-in-Some c =
    let ascii : c.from.result < 128 = omega (arith, ascii_taken c.self.inside.phase c.args.byte c.in-Some.next c.in-Some.ensures) in
    let byte : c.from.result ≡ c.args.byte = c.from.ensures in
    let pushed : string_bytes c.push.new.self ≡ string_bytes c.self.inside.text ++ c.args.byte ∷ [] =
    c.in_ok-push-in-Some.ensures.bytes ∙ ap (λ x. string_bytes c.self.inside.text ++ x) (c.in_ok-push-in-Some.ensures.ascii ascii ∙ ap (λ b. b ∷ []) byte) in
    ap phase_after pushed ∙ byte_taken (string_bytes c.self.inside.text) c.self.inside.phase c.args.byte (Some c.in-Some.next) c.self.invariant c.in-Some.ensures

pub returns-in_ok-push-in-Some-clause-test : goal.returns-in_ok-push-in-Some-clause-test
returns-in_ok-push-in-Some-clause-test c =
    sym (ap is_some (ap (λ t. phase_after (t ++ c.args.byte ∷ [])) (sym c.self.view_is) ∙ byte_taken (string_bytes c.self.inside.text) c.self.inside.phase c.args.byte (Some c.in-Some.next) c.self.invariant c.in-Some.ensures))

pub returns-in_ok-push-in-Some-clause-begins : goal.returns-in_ok-push-in-Some-clause-begins
returns-in_ok-push-in-Some-clause-begins c = begun_by true _ (returns-in_ok-push-in-Some-clause-test c)

pub returns-in-None-clause-test : goal.returns-in-None-clause-test
returns-in-None-clause-test c =
    sym (ap is_some (ap (λ t. phase_after (t ++ c.args.byte ∷ [])) (sym c.self.view_is) ∙ byte_taken (string_bytes c.self.inside.text) c.self.inside.phase c.args.byte None c.self.invariant c.in-None.ensures))

pub returns-in-None-clause-begins : goal.returns-in-None-clause-begins
returns-in-None-clause-begins c = begun_by false _ (returns-in-None-clause-test c)
