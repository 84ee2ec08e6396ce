-- the machine decides which text spells which tree
use Rattle.std.proofs.Common.{◌≡◌, ℕ, List, refl, Some, None}
use Rattle.std.specs.Prelude.{option_and_then}
use Rattle.first_fault.specs.FirstFault.{IsAccepted}
use Rattle.first_fault.specs.Machine.{Decides, steps, answer}
use Rattle.first_fault.proofs.Machines.{leads}
use Rattle.json_tree.specs.Spells.{Spells}
use Rattle.json_tree.specs.declared.tree.Json.{Json}
use Rattle.json_machine.specs.Machine.{step, finish, start}
use Rattle.json_machine.proofs.Runs.{answers}
use Rattle.json_machine.proofs.Leads.{Leads, leads_step, leads_start, alive, spelled}

pub decides : Decides Spells step finish start
decides = record {
  sound = λ t s v e f. spelled t s v (leads step Leads leads_step start leads_start t s e) f;
  alive = λ t s e. alive t s (leads step Leads leads_step start leads_start t s e);
  complete = answers;
}

-- what the machine answers is spelled, and what it doesn't answer is not accepted
pub answered : (t : List ℕ) (v : Json) → answer step finish start t ≡ Some v → Spells t v
answered t v e =
    (elim (steps step start t) as (λ o. steps step start t ≡ o → option_and_then finish o ≡ Some v → Spells t v) [
      | None ↦ λ f g. cc
      | Some s ↦ λ f g. decides.sound t s v f g
    ]) refl e

pub refused : (t : List ℕ) → answer step finish start t ≡ None → ¬ IsAccepted Spells t
refused t e a = let same = answers t a.0 a.1 in cc
