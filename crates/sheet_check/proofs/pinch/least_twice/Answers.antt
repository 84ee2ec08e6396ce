use Rattle.std.proofs.Common.{◌≡◌, ◌<◌, ◌≤◌, ◌+◌, ◌++◌, ℕ, Bool, List, length, take, drop, refl, ap, sym, subst, ◌∙◌, arith}
use Rattle.std.specs.Prelude.{slice_index_or}
use Rattle.std.proofs.lemmas.List.{get_or_default, take_at}
use Rattle.sheet_check.specs.Twice.{AreSeen, IsLeastTwice, Notes}
use Rattle.sheet_check.proofs.TwiceLemmas.{notes_long, seen_more}
use Rattle.sheet_check.proofs.pinch.least_twice.Goals as goal

pub note-found-requires : goal.note-found-requires
note-found-requires c =
    let corners = c.args.corners.now in
    let place = c.loop-place.place in
    let v : ℕ = slice_index_or corners place 0 in
    let within : v < c.args.count = c.requires v (place, c.loop-place-test.true, get_or_default corners place v 0 c.loop-place-test.true) in
    let long : length c.as_mut_slice.result.now ≡ length c.loop-place.marks.items = ap (λ (m : List Bool). length m) c.as_mut_slice.ensures.value in
    let all = c.loop-place.invariant.0 in
    omega (arith, within, long, all)

pub loop-place-preserved : goal.loop-place-preserved
loop-place-preserved c =
    let corners = c.args.corners.now in
    let place = c.loop-place.place in
    let v : ℕ = slice_index_or corners place 0 in
    let old = c.loop-place.marks.items in
    let new = c.note-found.new.marks in
    let found = c.loop-place.found in
    let all : length old ≡ c.args.count = c.loop-place.invariant.0 in
    let within : v < c.args.count = c.requires v (place, c.loop-place-test.true, get_or_default corners place v 0 c.loop-place-test.true) in
    let noted : Notes v old new found c.note-found.result = subst (λ (m : List Bool). Notes v m new found c.note-found.result) c.as_mut_slice.ensures.value c.note-found.ensures in
    let long : length new ≡ length old = notes_long v old new found c.note-found.result noted in
    let kept = c.loop-place.marks.ok.0 in
    let put : take c.loop-place.marks.len (new ++ drop (length new) old) ≡ new = take_at new (drop (length new) old) c.loop-place.marks.len (omega (arith, long, kept)) in
    subst (λ (m : List Bool). (length m ≡ c.args.count) × AreSeen corners (place + 1) m c.note-found.result) (sym put)
    (long ∙ all, seen_more corners place v refl old found c.loop-place.invariant.1 new c.note-found.result (omega (arith, within, all)) noted)

pub returns : goal.returns
returns c =
    let past : length c.args.corners.now ≤ c.loop-place.place = c.loop-place-test.false in
    let e : c.loop-place.place ≡ length c.args.corners.now = omega arith in
    subst (λ (n : ℕ). IsLeastTwice c.args.corners.now n c.loop-place.found) e c.loop-place.invariant.1.least
