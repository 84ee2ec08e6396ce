use Rattle.std.proofs.Common.{◌≡◌, All, ◌<◌, length, sym, ◌∙◌, ap, subst}
use Rattle.fold_frames.specs.Inherits.{pairs, inherited}
use Rattle.fold_frames.proofs.Kept.{in_effect}
use Rattle.fold_frames.proofs.Paths.{way_within}
use Rattle.fold_frames.proofs.inherited.effective.Goals as goal

pub merged-requires : goal.merged-requires
merged-requires c =
    let frames = c.as_slice-frames.result.now in
    let within = way_within frames c.args.frame c.in_ok-way.way c.in_ok-way.ensures in
    subst (All (λ f. f < length frames)) (sym c.as_slice.ensures) within

pub new-requires : goal.new-requires
new-requires c =
    let frames = c.as_slice-frames.result.now in
    let is : pairs c.in_ok-entries.entries ≡ inherited frames c.as_slice.result.now =
    c.in_ok-entries.ensures ∙ c.in_ok-table.ensures in
    in_effect c.args.file.now.frames c.as_slice.result.now c.in_ok-entries.entries (c.writable_entries.ensures.have _ c.requires)
    (is ∙ ap (λ fs. inherited fs c.as_slice.result.now) c.as_slice-frames.ensures)
