-- what a scanner of words is to the machine
use Rattle.std.specs.Prelude.{string_bytes}
use Rattle.json_machine.specs.WordScan.{WordState}
use Rattle.json_read.specs.WordView.{shown}
use Rattle.json_read.specs.declared.word.WordScanner.TheInside.{Inside}

-- the text of the characters that are done, and how far the next is
abbrev pub word_state : Inside → WordState
word_state scanner = record { word = string_bytes scanner.text; part = shown scanner.part }
