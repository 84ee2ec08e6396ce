use Rattle.std.proofs.Common.{Some, inl, inr, ap, arith}
use Rattle.fold_commands.proofs.top.run_calm.Goals as goal

-- a count that is 0 before and after hasn't risen
pub returns-clause-outcome : goal.returns-clause-outcome
returns-clause-outcome g c =
    elim (c.run.ensures.complete (λ rose. omega (arith, rose)) (λ rose. omega (arith, rose)) c.args.bytes (inl (ap Some c.new-source.ensures.bytes))) [
      | inl memory ↦ inl memory
      | inr ends ↦ inr (ends.0, ends.1)
    ]
