use Rattle.std.proofs.Common.{◌≡◌, ◌∙◌, ◌<◌, ℕ, Bool, List, [], true, false, length, drop, subst, sym, arith}
use Rattle.std.proofs.lemmas.List.{take_at}
use Rattle.scaled_plane.specs.Scaling.{IsFirstOf}
use Rattle.sheet_check.specs.Listed.{is_marked}
use Rattle.sheet_check.specs.Used.{AreUsed}
use Rattle.sheet_check.proofs.UsedLemmas.{first_is_loose, none_loose, none_used}
use Rattle.sheet_check.proofs.loose.first_loose.Goals as goal

pub mark_used-requires : goal.mark_used-requires
mark_used-requires c =
    subst (λ (m : List Bool). AreUsed [] m) (sym c.as_mut_slice.ensures.value) (subst (λ (m : List Bool). AreUsed [] m) (sym (c.in_ok-marks.ensures.items_if_clones_equal (λ y e. e))) (none_used c.args.count))

pub returns-in-Some : goal.returns-in-Some
returns-in-Some c =
    let new = c.mark_used.new.marks in
    let made = c.in_ok-marks.ensures.len in
    let long : length new ≡ length c.as_mut_slice.result.now = c.mark_used.ensures.long in
    let value = c.as_mut_slice.ensures.len in
    let kept = c.in_ok-marks.marks.ok.0 in
    let same : c.as_slice.result.now ≡ new = c.as_slice.ensures.value ∙ take_at new (drop (length new) c.in_ok-marks.marks.items) c.in_ok-marks.marks.len (omega (arith, long, made, value, kept)) in
    first_is_loose c.args.edges.now new c.args.count (omega (arith, long, made, value, kept)) c.mark_used.ensures.used c.in-Some.vertex
    (subst (λ (m : List Bool). IsFirstOf (λ x. (x < length m) × (is_marked m x ≡ false)) c.in-Some.vertex) same c.in-Some.ensures)

pub returns : goal.returns
returns c =
    let new = c.mark_used.new.marks in
    let made = c.in_ok-marks.ensures.len in
    let long : length new ≡ length c.as_mut_slice.result.now = c.mark_used.ensures.long in
    let value = c.as_mut_slice.ensures.len in
    let kept = c.in_ok-marks.marks.ok.0 in
    let same : c.as_slice.result.now ≡ new = c.as_slice.ensures.value ∙ take_at new (drop (length new) c.in_ok-marks.marks.items) c.in_ok-marks.marks.len (omega (arith, long, made, value, kept)) in
    none_loose c.args.edges.now new c.args.count (omega (arith, long, made, value, kept)) c.mark_used.ensures.used
    (subst (λ (m : List Bool). (w : ℕ) → w < length m → is_marked m w ≡ true) same c.in-None.ensures)
