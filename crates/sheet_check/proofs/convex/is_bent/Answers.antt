use Rattle.std.proofs.Common.{◌<◌, ℕ, length, sym, subst}
use Rattle.std.specs.Prelude.{slice_index_or}
use Rattle.std.proofs.lemmas.List.{get_or_default}
use Rattle.sheet_check.specs.Bent.{corner_before}
use Rattle.sheet_check.proofs.BentLemmas.{before-in}
use Rattle.sheet_check.proofs.convex.is_bent.Goals as goal

pub has_right-requires-clause-first : goal.has_right-requires-clause-first
has_right-requires-clause-first g c =
    let corners = c.args.corners.now in
    subst (λ (v : ℕ). v < length c.args.vertices.now) (sym c.corner_before-before.ensures)
    (c.requires.corners (corner_before corners c.args.place) (before-in corners c.args.place c.requires.in_range c.if-corners-lt2.false))

pub has_right-requires-clause-second : goal.has_right-requires-clause-second
has_right-requires-clause-second g c =
    let corners = c.args.corners.now in
    let v : ℕ = slice_index_or corners c.args.place 0 in
    c.requires.corners v (c.args.place, c.requires.in_range, get_or_default corners c.args.place v 0 c.requires.in_range)
