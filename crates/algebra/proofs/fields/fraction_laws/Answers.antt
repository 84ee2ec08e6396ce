use Rattle.algebra.proofs.Fractions.{fraction_equality, fraction_respects, fraction_field, fraction_order}
use Rattle.algebra.proofs.fields.fraction_laws.Goals as goal

pub returns-clause-equality : goal.returns-clause-equality
returns-clause-equality g c = fraction_equality

pub returns-clause-respected : goal.returns-clause-respected
returns-clause-respected g c = fraction_respects

pub returns-clause-field : goal.returns-clause-field
returns-clause-field g c = fraction_field

pub returns-clause-order : goal.returns-clause-order
returns-clause-order g c = fraction_order
