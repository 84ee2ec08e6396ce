use Rattle.std.proofs.Common.{◌≡◌, ◌∙◌, ◌==◌, ℕ, List, length, true, false, ap, sym}
use Rattle.std.proofs.lemmas.Bool.{OnFalse_from}
use Rattle.sheet_check.proofs.ListingLemmas.{begun_nowhere}
use Rattle.sheet_check.proofs.listing.is_rotation.Goals as goal

pub returns-clause-other : goal.returns-clause-other
returns-clause-other c =
    let walk = c.args.walk.now in
    OnFalse_from c.is_empty.result _ (λ some. begun_nowhere c.args.corners.now walk c.loop-place.place c.loop-place-test.false
    (λ none. let no : true ≡ false = sym (ap (λ (w : List ℕ). length w == 0) none) ∙ sym c.is_empty.ensures ∙ some in absurd (cc))
    c.loop-place.invariant)
