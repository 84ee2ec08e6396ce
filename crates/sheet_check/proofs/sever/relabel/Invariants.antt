use Rattle.std.proofs.Common.{◌≡◌, ℕ, ◌<◌, ◌≤◌, length}
use Rattle.std.specs.Prelude.{slice_index}
use Rattle.sheet_check.specs.Labels.{relabelled}
use Rattle.sheet_check.proofs.sever.relabel.Given as goal

abbrev pub invariant-loop-face : goal.invariant-loop-face
invariant-loop-face l =
    (length l.labels ≡ length l.initial.labels)
    × ((x : ℕ) → x < l.face → slice_index l.labels x ≡ relabelled l.gone l.kept (slice_index l.initial.labels x))
    × ((x : ℕ) → l.face ≤ x → slice_index l.labels x ≡ slice_index l.initial.labels x)
