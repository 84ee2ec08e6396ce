-- The names that calls of the solvers cite, and those that a refusal shows, passed on from one place. Declares nothing.
pub use Rattle.algebra.proofs.Expression.{variable, constant, plus, minus, times, opposite}
pub use Rattle.algebra.proofs.Polynomial.{Agree, Leftover, term}
pub use Rattle.algebra.proofs.Reading.{Reading, reads}
pub use Rattle.algebra.proofs.IntegerReading.{reads_integers}
pub use Rattle.algebra.proofs.Identity.{ring, ring_from, ring_by_laws, ring_from_by_laws, multiple, no_equation}
pub use Rattle.algebra.proofs.PossibleSigns.{positive, negative, at_zero, not_negative, not_positive, not_zero, any_sign, Undecided}
pub use Rattle.algebra.proofs.SignReason.{known, no_sign, given, unknown, number, negated, sum, product, square, sign_neg}
pub use Rattle.algebra.proofs.Sign.{sign_from, sign_from_multiple, same_sign, sign_of_multiple, ring_from_multiple}
pub use Rattle.algebra.proofs.Bounded.{Bounded, bounded, bounded_int, bounded_call, bounded_add, bounded_sub, bounded_mul, bounded_neg, limit_of, within_limit, Fits, Exceeds, at_most}
pub use Rattle.algebra.proofs.Traced.{Traced, traces, ring_traced}
