use Rattle.std.proofs.Common.{◌≡◌, ◌+◌, ◌-◌, ◌≤◌, ◌<◌, ◌++◌, take}
use Rattle.number_rules.specs.Nine.{billion, digits_behind}
use Rattle.number_rules.proofs.nine_text.put_digits.Given as goal

abbrev pub invariant-loop : goal.invariant-loop
invariant-loop l = record {
  within : l.count ≤ 39 + l.counter;
  below : l.left < billion;
  written : take l.count l.room ++ digits_behind (9 - l.counter) l.left ≡ take l.start l.fn.room ++ digits_behind 9 l.rest;
}
