-- how far a source was read
use Rattle.std.specs.Prelude.{◌≡◌, ℕ, ◌+◌, ◌≤◌, List, [], length, Ok, Err}
use Rattle.std.specs.declared.result.Result.{Result}
use Rattle.fold_base.specs.declared.outside.TheConstants.{MOST_BYTES}
use Rattle.fold_base.specs.declared.pieces.ReadFault.{ReadFault}
use Rattle.fold_base.specs.declared.pieces.ReadFault.TheVariants.{Failed, TooLong, Memory}

-- these bytes were handed on, and the rest was taken after them; where it was too long, one byte
-- past the limit was taken in all, and no more than the limit was handed on
abbrev pub TakesUpTo : Result ℕ ReadFault → List ℕ → List ℕ → Type 0
TakesUpTo (Ok n) handed rest = (length handed ≡ n) × (n ≤ MOST_BYTES) × (rest ≡ [])
TakesUpTo (Err Failed) handed rest = (length handed ≤ MOST_BYTES) × (rest ≡ [])
TakesUpTo (Err TooLong) handed rest = (length handed ≤ MOST_BYTES)
    × (length handed + length rest ≡ MOST_BYTES + 1)
TakesUpTo (Err (Memory e)) handed rest = length handed + length rest ≤ MOST_BYTES

-- the taker took each piece that it was handed
abbrev pub TookEach : Result ℕ ReadFault → Type 0
TookEach (Err (Memory e)) = ⊥
TookEach _ = Unit {0}
