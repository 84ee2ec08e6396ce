use Rattle.std.proofs.Common.{◌≡◌, take, get_or, sym, ◌∙◌, ap, arith, Some, false}
use Rattle.std.proofs.lemmas.List.{take_all, take_more}
use Rattle.json_tree.specs.Scan.{phase_after, is_number}
use Rattle.json_tree.proofs.Numbers.{byte_taken, stopped_test, whole_test, spelled_by}
use Rattle.json_tree.proofs.number.spells_number.Goals as goal

pub returns-in-None : goal.returns-in-None
returns-in-None c = spelled_by false c.args.bytes.now (sym (stopped_test c.args.bytes.now c.loop-byte.byte-index c.loop-byte.phase (omega arith) c.loop-byte.invariant c.in-None.ensures))

pub loop-byte-preserved : goal.loop-byte-preserved
loop-byte-preserved c =
    ap phase_after (take_more c.args.bytes.now c.loop-byte.byte-index 0 (omega arith))
    ∙ byte_taken (take c.loop-byte.byte-index c.args.bytes.now) c.loop-byte.phase (get_or c.args.bytes.now c.loop-byte.byte-index 0) (Some c.in-Some.next) c.loop-byte.invariant c.in-Some.ensures

pub returns : goal.returns
returns c =
    let end : take c.loop-byte.byte-index c.args.bytes.now ≡ c.args.bytes.now = take_all c.loop-byte.byte-index c.args.bytes.now (omega arith) in
    let test : c.is_whole.result ≡ is_number c.args.bytes.now = c.is_whole.ensures ∙ sym (whole_test c.args.bytes.now c.loop-byte.phase (ap phase_after (sym end) ∙ c.loop-byte.invariant)) in
    spelled_by c.is_whole.result c.args.bytes.now test
