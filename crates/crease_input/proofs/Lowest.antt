-- parts in lowest terms
use Rattle.std.proofs.Common.{◌≡◌, refl}
use Rattle.algebra.specs.LowestTerms.{Parts, IsLowest, IsReduced}
use Rattle.algebra.proofs.LowestByGcd.{reduced_once}

-- parts in lowest terms stay as they are
pub as_they_are : (p r : Parts) → IsLowest p → IsReduced p r → r ≡ p
as_they_are p r lowest reduced =
    reduced_once p r p lowest.positive reduced
    (record { lowest = lowest; same = record { rational = refl; irrational = refl } })
