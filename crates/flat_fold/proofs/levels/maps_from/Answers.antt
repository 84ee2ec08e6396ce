use Rattle.std.proofs.Common.{◌≡◌, ◌∙◌, List, ◌<◌, ◌^◌, length, Option, Ok, Err, Result, arith}
use Rattle.flat_fold.specs.declared.motion.Motion.{Motion}
use Rattle.scaled_plane.specs.declared.point.Pair.{Pair}
use Rattle.scaled_plane.specs.declared.drawing.Edge.{Edge}
use Rattle.scaled_plane.specs.declared.drawing.Face.{Face}
use Rattle.flat_fold.specs.declared.levels.Reached.{Reached}
use Rattle.flat_fold.specs.declared.levels.MapFault.{MapFault}
use Rattle.flat_fold.specs.declared.levels.MapFault.TheVariants.{NumberPast, Memory}
use Rattle.flat_fold.specs.Computed.{ComputedField, exact}
use Rattle.flat_fold.specs.Folding.{IsFoldable}
use Rattle.flat_fold.specs.Rounds.{at, AllReached}
use Rattle.flat_fold.specs.PathMaps.{KeepsMaps, FindsPathMaps}
use Rattle.flat_fold.proofs.RoundLaws.{start-round, found, not_found}
use Rattle.flat_fold.proofs.levels.maps_from.Goals as goal

finds : {A : Type 0} (K : ComputedField A) (coords : List (Pair A)) (edges : List Edge) (faces : List Face) → IsFoldable K.field coords edges faces → (reached : List (Option (Reached A))) → length reached ≡ length faces
    → AllReached K coords edges faces (at reached) → (r : Result (List (Motion A)) MapFault) → KeepsMaps reached r → FindsPathMaps K coords edges faces r
finds K coords edges faces foldable reached long all (Ok maps) h = found K coords edges faces foldable reached long all maps h
finds K coords edges faces foldable reached long all (Err (NumberPast f)) h = not_found K coords edges faces foldable reached long all f h
finds K coords edges faces foldable reached long all (Err (Memory e)) h = tt

pub all_rounds-requires : goal.all_rounds-requires
all_rounds-requires g c =
    let K = exact g.N.Exact.numbers in
    let begun = start-round K c.args.sheet.now.ends.coords c.args.sheet.now.ends.edges c.args.sheet.now.faces (length c.args.sheet.now.faces) c.args.reached.now c.requires.start in
    record {
      foldable = c.requires.foldable;
      known = c.requires.known;
      few = c.requires.few;
      all = c.requires.start.long;
      round = begun.0;
      start = begun.1;
    }

pub kept_maps-requires : goal.kept_maps-requires
kept_maps-requires g c =
    let few : length c.args.sheet.now.faces < 2 ^ 31 = c.requires.few in
    let long : length c.args.reached.now ≡ length c.args.sheet.now.faces = c.requires.start.long in
    let same : length c.all_rounds.new.reached ≡ length c.args.reached.now = c.all_rounds.auto.reached in
    omega (arith, few, long, same)

pub returns : goal.returns
returns g c =
    finds (exact g.N.Exact.numbers) c.args.sheet.now.ends.coords c.args.sheet.now.ends.edges c.args.sheet.now.faces c.requires.foldable c.all_rounds.new.reached
    (c.all_rounds.auto.reached ∙ c.requires.start.long) c.all_rounds.ensures.all c.kept_maps.result c.kept_maps.ensures
