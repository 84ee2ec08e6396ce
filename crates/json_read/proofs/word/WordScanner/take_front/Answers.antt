use Rattle.std.proofs.Common.{◌≡◌, Bool, take, get_or, sym, ◌∙◌, ap, arith, Some, None}
use Rattle.std.specs.Prelude.{if◌then◌else◌}
use Rattle.std.proofs.lemmas.List.{take_more}
use Rattle.first_fault.specs.Machine.{steps}
use Rattle.first_fault.proofs.Machines.{steps-snoc}
use Rattle.json_machine.specs.WordScan.{next_character}
use Rattle.json_read.proofs.word.WordScanner.take_front.Goals as goal

pub loop-place-preserved : goal.loop-place-preserved
loop-place-preserved c =
    let before = c.loop-place.self in
    let after = c.take.new.self in
    let byte = get_or c.args.bytes.now c.loop-place.place 0 in
    let goes : next_character before byte ≡ Some after = sym c.in_ok-take.ensures.step ∙ ap (λ (w : Bool). if w then Some after else None) c.if-not-branch.false in
    ap (steps next_character c.args.self.now) (take_more c.args.bytes.now c.loop-place.place 0 (omega arith))
    ∙ steps-snoc next_character c.args.self.now before (take c.loop-place.place c.args.bytes.now) byte c.loop-place.invariant ∙ goes
