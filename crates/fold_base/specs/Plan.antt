-- the plan by which the calls of a source or a sink in memory fail
use Rattle.std.specs.Prelude.{ℕ, Bool, List, Contains}
use Rattle.fold_base.specs.Outside.{one_more, count_after}
use Rattle.fold_base.specs.declared.plan.Plan.{Plan}

-- no call was made yet
abbrev pub fresh : List ℕ → Plan
fresh failing = record { failing = failing; calls = 0; faults = 0 }

-- the number of the next call, counted from 1, is among those of the failing calls
abbrev pub FailsNext : Plan → Type 0
FailsNext plan = Contains plan.failing (one_more plan.calls)

-- one more call was made, and a fault is counted unless it went well
abbrev pub after_call : Bool → Plan → Plan
after_call went_well plan =
    record plan { calls = one_more plan.calls; faults = count_after went_well plan.faults }
