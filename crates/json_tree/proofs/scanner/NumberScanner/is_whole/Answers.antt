use Rattle.std.proofs.Common.{◌≡◌, sym, ◌∙◌, ap}
use Rattle.std.specs.Prelude.{string_bytes}
use Rattle.json_tree.specs.Scan.{is_number}
use Rattle.json_tree.proofs.Numbers.{spelled_by, whole_test}
use Rattle.json_tree.proofs.scanner.NumberScanner.is_whole.Goals as goal

pub returns-clause-number : goal.returns-clause-number
returns-clause-number c =
    let test : c.is_whole.result ≡ is_number c.args.self.now = c.is_whole.ensures ∙ sym (ap is_number (sym c.self.view_is) ∙ whole_test (string_bytes c.self.inside.text) c.self.inside.phase c.self.invariant) in
    spelled_by c.is_whole.result c.args.self.now test
