-- what a call does to the bytes that a source has left or that a sink was given, and to a count of
-- faults
use Rattle.std.specs.Prelude.{◌≡◌, ◌↔◌, ℕ, ◌+◌, ◌-◌, ◌^◌, ◌<◌, ◌≤◌, min, Bool, if◌then◌else◌, List, [], ◌++◌, length, take, None, Some, Ok, Err, OnErr}
use Rattle.std.specs.declared.option.Option.{Option}
use Rattle.std.specs.declared.result.Result.{Result}

-- a count of 64 bits after one more: it stands still at its last value
abbrev pub one_more : ℕ → ℕ
one_more count = min (count + 1) (2 ^ 64 - 1)

-- a count of faults after a call
abbrev pub count_after : Bool → ℕ → ℕ
count_after went_well count = if went_well then count else one_more count

-- the count rose, or stands at its last value
abbrev pub Rose : ℕ → ℕ → Type 0
Rose before now = one_more before ≤ now

-- the count of faults never falls, and it has risen where the call failed
pub record HasCause {T E : Type 0} (before now : ℕ) (result : Result T E) : Type 0 where
  pub later : before ≤ now
  pub failed : OnErr result (Rose before now)

-- the bytes left before are these and then those left after; where they aren't told, they never are
abbrev pub Gives : Option (List ℕ) → Option (List ℕ) → List ℕ → Type 0
Gives None None bytes = Unit {0}
Gives None (Some after) bytes = ⊥
Gives (Some before) None bytes = ⊥
Gives (Some before) (Some after) bytes = before ≡ bytes ++ after

-- the bytes written after are those written before and then these; where they aren't told, they
-- never are
abbrev pub Gains : Option (List ℕ) → Option (List ℕ) → List ℕ → Type 0
Gains None None bytes = Unit {0}
Gains None (Some after) bytes = ⊥
Gains (Some before) None bytes = ⊥
Gains (Some before) (Some after) bytes = after ≡ before ++ bytes

-- a front of the bytes was gained, and not all of them
abbrev pub GainsPart : Option (List ℕ) → Option (List ℕ) → List ℕ → Type 0
GainsPart before after bytes =
    (front : List ℕ) × (rest : List ℕ) × (0 < length rest) × (bytes ≡ front ++ rest)
    × Gains before after front

-- no byte is left, where the bytes are told
abbrev pub IsSpent : Option (List ℕ) → Type 0
IsSpent None = Unit {0}
IsSpent (Some bytes) = bytes ≡ []

-- where the bytes are told, none is taken exactly where none is left
abbrev pub MarksEnd : Option (List ℕ) → ℕ → Type 0
MarksEnd None n = Unit {0}
MarksEnd (Some bytes) n = (n ≡ 0) ↔ (bytes ≡ [])

-- what a call that answers a number of bytes has moved: so many of them, from the front, and
-- nothing where it failed
abbrev pub bytes_moved : {E : Type 0} → Result ℕ E → List ℕ → List ℕ
bytes_moved (Ok n) bytes = take n bytes
bytes_moved (Err e) bytes = []
