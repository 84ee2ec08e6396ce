-- a list of members with an index of their keys
use Rattle.std.specs.Prelude.{◌≡◌, ℕ, List}
use Rattle.json_machine.specs.Machine.{has_key}
use Rattle.json_read.specs.Keys.{finds}
use Rattle.json_read.specs.declared.members.KeyedMembers.TheInside.{Inside}

-- the index finds exactly the members' keys
abbrev pub IsIndexed : Inside → Type 0
IsIndexed members = (key : List ℕ) → finds members.index members.list key ≡ has_key key members.list
