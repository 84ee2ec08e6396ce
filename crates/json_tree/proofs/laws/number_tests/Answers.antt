use Rattle.json_tree.proofs.Numbers.{number_test, begins_test}
use Rattle.json_tree.proofs.laws.number_tests.Goals as goal

pub returns : goal.returns
returns c = record { whole = number_test; begins = begins_test }
