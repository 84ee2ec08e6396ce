use Rattle.std.proofs.Common.{◌≡◌, ◌∙◌, ◌<◌, ℕ, Bool, true, false, List, length, drop, subst, arith}
use Rattle.std.proofs.lemmas.List.{take_at}
use Rattle.scaled_plane.specs.Scaling.{IsFirstOf}
use Rattle.sheet_check.specs.Listed.{AreListed, is_marked}
use Rattle.sheet_check.proofs.ListingLemmas.{all_right, first_missing, none_left}
use Rattle.sheet_check.proofs.listing.list_all.Goals as goal

pub returns-in-Some-first_unmarked : goal.returns-in-Some-first_unmarked
returns-in-Some-first_unmarked c =
    let walks = c.args.walks.now in
    let faces = c.args.faces.now in
    let new = c.first_wrong.new.marks in
    let listed : AreListed walks faces (length faces) new = c.in-None.ensures in
    let long = listed.as_many in
    let made = c.in_ok-marks.ensures.len in
    let same : c.as_slice.result.now ≡ new
    = c.as_slice.ensures.value ∙ take_at new (drop (length new) c.in_ok-marks.marks.items) c.in_ok-marks.marks.len (omega (arith, long, made)) in (
      all_right walks faces c.requires.apart new listed,
      first_missing walks faces c.requires.apart new listed c.in-Some-first_unmarked.walk
          (subst (λ (marks : List Bool). IsFirstOf (λ x. (x < length marks) × (is_marked marks x ≡ false)) c.in-Some-first_unmarked.walk) same c.in-Some-first_unmarked.ensures),
    )

pub returns : goal.returns
returns c =
    let walks = c.args.walks.now in
    let faces = c.args.faces.now in
    let new = c.first_wrong.new.marks in
    let listed : AreListed walks faces (length faces) new = c.in-None.ensures in
    let long = listed.as_many in
    let made = c.in_ok-marks.ensures.len in
    let same : c.as_slice.result.now ≡ new
    = c.as_slice.ensures.value ∙ take_at new (drop (length new) c.in_ok-marks.marks.items) c.in_ok-marks.marks.len (omega (arith, long, made)) in (
      all_right walks faces c.requires.apart new listed,
      none_left walks faces c.requires.apart new listed
          (subst (λ (marks : List Bool). (w : ℕ) → w < length marks → is_marked marks w ≡ true) same c.in-None-first_unmarked.ensures),
    )
