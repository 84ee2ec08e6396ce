-- where a text stops being JSON text, and why
use Rattle.std.specs.Prelude.{◌≡◌, ◌⊎◌, ℕ, ◌+◌, List, ◌++◌, length, take, slice_index}
use Rattle.first_fault.specs.FirstFault as first
use Rattle.json_tree.specs.Spells.{Spells}
use Rattle.json_tree.specs.Tree.{HasKey}
use Rattle.json_tree.specs.Word.{SpellsWord}
use Rattle.json_tree.specs.declared.tree.Member.{Member}
use Rattle.json_machine.specs.Machine.{Frame}
use Rattle.json_machine.specs.Due.{ValueIsDue, KeyIsDue}
use Rattle.json_read.specs.declared.fault.JsonCause.{JsonCause}
use Rattle.json_read.specs.declared.fault.JsonCause.TheVariants.{Byte, Ended, KeyTwice, Deep}
use Rattle.json_read.specs.declared.fault.JsonFault.{JsonFault}

-- the byte at p opens a list or an object inside of 64 others
abbrev pub OpensTooDeep : List ℕ → ℕ → Type 0
OpensTooDeep text p = (frames : List Frame) × ValueIsDue frames (take p text) × (length frames ≡ 64)
    × ((slice_index text p ≡ 91) ⊎ (slice_index text p ≡ 123))

-- the byte at p ends a key that an earlier member of its object has
abbrev pub RepeatsKey : List ℕ → ℕ → Type 0
RepeatsKey text p = (members : List Member) × (frames : List Frame) × (before spelled key : List ℕ)
    × KeyIsDue members frames before × (take (p + 1) text ≡ before ++ spelled)
    × SpellsWord spelled key × HasKey members key

-- the first fault of the text stands at p, with this cause
abbrev pub IsFaultAt : List ℕ → ℕ → JsonCause → Type 0
IsFaultAt text p Ended = first.IsFirstFault Spells text p first.Ended
IsFaultAt text p KeyTwice = first.IsFirstFault Spells text p first.Byte × RepeatsKey text p
IsFaultAt text p Deep = first.IsFirstFault Spells text p first.Byte × OpensTooDeep text p
IsFaultAt text p Byte = first.IsFirstFault Spells text p first.Byte × ¬ RepeatsKey text p
    × ¬ OpensTooDeep text p

-- the fault names the first fault of the text
abbrev pub NamesFirstFault : List ℕ → JsonFault → Type 0
NamesFirstFault text fault = IsFaultAt text fault.place fault.cause
