use Rattle.cp_lines.specs.Print.{printed_form}
use Rattle.cp_lines.proofs.Prints.{printed_spells}
use Rattle.cp_lines.proofs.Readings.{accepted_answer}
use Rattle.cp_lines.proofs.print.reads_back.Goals as goal

pub returns-clause-spells : goal.returns-clause-spells
returns-clause-spells c = printed_spells

pub returns-clause-answer : goal.returns-clause-answer
returns-clause-answer c = λ lines answer p r. accepted_answer (printed_form lines) lines answer (printed_spells lines p) r
