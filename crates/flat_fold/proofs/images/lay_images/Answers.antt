use Rattle.std.proofs.Common.{◌<◌, ◌≤◌, ◌^◌, length, map, arith}
use Rattle.std.specs.BTreeMap.{get}
use Rattle.std.proofs.lemmas.List.{length-map}
use Rattle.flat_fold.specs.Computed.{exact}
use Rattle.flat_fold.specs.Places.{laid_order}
use Rattle.flat_fold.specs.Numbers.{laid_vertex}
use Rattle.flat_fold.proofs.ImageLaws.{few-laid, known-numbers, all-images}
use Rattle.flat_fold.proofs.images.lay_images.Goals as goal

pub number_laid-requires : goal.number_laid-requires
number_laid-requires g c ordered =
    few-laid (exact g.N.Exact.numbers) c.args.coords.now c.args.faces.now c.args.maps.now c.in_ok-laid.laid ordered c.in_ok-laid.ensures.laid c.requires.few_vertices c.requires.few_faces c.requires.vertices

pub returns-in-Ok-clause-images : goal.returns-in-Ok-clause-images
returns-in-Ok-clause-images g c =
    let K = exact g.N.Exact.numbers in
    let coords = c.args.coords.now in
    let faces = c.args.faces.now in
    let maps = c.args.maps.now in
    let laid = c.in_ok-laid.laid in
    let ordered = c.number_laid.ensures.ordered in
    let numbered = c.in-Ok.ensures.numbered in
    let few : length laid.entries < 2 ^ 32 = few-laid K coords faces maps laid ordered c.in_ok-laid.ensures.laid c.requires.few_vertices c.requires.few_faces c.requires.vertices in
    let most : length c.in-Ok.numbered.images ≤ length (map laid_vertex laid.entries) = numbered.few in
    let same = length-map laid.entries laid_vertex in
    record {
      fits = c.in_ok-laid.ensures.laid.fits;
      images_are = all-images K coords faces maps laid ordered c.in_ok-laid.ensures.laid (get laid_order c.in-Ok.numbered.numbers) c.in-Ok.numbered.origins c.in-Ok.numbered.images numbered;
      known = known-numbers K coords faces maps laid ordered c.in_ok-laid.ensures.laid (get laid_order c.in-Ok.numbered.numbers) c.in-Ok.numbered.origins c.in-Ok.numbered.images numbered;
      few = omega (arith, few, most, same);
    }
