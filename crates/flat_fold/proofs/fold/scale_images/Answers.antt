use Rattle.std.proofs.Common.{◌≡◌, ◌∙◌, ap, List, ◌<◌, length, arith}
use Rattle.flat_fold.specs.declared.images.Origin.{Origin}
use Rattle.flat_fold.proofs.FoldLaws.{wide-in_range}
use Rattle.flat_fold.proofs.fold.scale_images.Goals as goal

pub bounds-as_slice-vertex : goal.bounds-as_slice-vertex
bounds-as_slice-vertex g c =
    let within : c.in-TooWide.vertex < length c.args.numbered.now.images
    = wide-in_range g.N.Exact.parts c.args.numbered.now.images c.in-TooWide.vertex (c.in-Err.ensures.too_wide c.in-TooWide.vertex c.in-TooWide.is) in
    let long : length c.as_slice.result.now ≡ length c.args.numbered.now.images = ap (λ (s : List Origin). length s) c.as_slice.ensures ∙ c.requires.long in
    omega (arith, within, long)
