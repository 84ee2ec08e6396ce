use Rattle.std.proofs.Common.{◌≡◌, ◌∙◌, ap, sym, subst, refl, ℕ, ◌<◌, ◌≤◌, length, get_or, arith}
use Rattle.std.specs.BTreeMap.{get}
use Rattle.scaled_plane.specs.declared.point.Pair.{Pair}
use Rattle.flat_fold.specs.Computed.{Fits, exact}
use Rattle.flat_fold.specs.Motions.{place}
use Rattle.flat_fold.specs.Operations.{placing}
use Rattle.flat_fold.specs.Folding.{point}
use Rattle.flat_fold.specs.Places.{laid_order, AreLaidTo}
use Rattle.flat_fold.proofs.EdgeReads.{read_point}
use Rattle.flat_fold.proofs.Puts.{puts, laid_exact}
use Rattle.flat_fold.proofs.PlaceLaws.{none_laid, more_laid}
use Rattle.flat_fold.proofs.places.lay_corners.Goals as goal

pub loop-corner-init : goal.loop-corner-init
loop-corner-init g c = none_laid (exact g.N.Exact.numbers) c.args.coords.now c.args.map c.args.face c.args.corners.now (get laid_order c.args.laid.now)

pub loop-corner-preserved : goal.loop-corner-preserved
loop-corner-preserved g c =
    let K = exact g.N.Exact.numbers in
    let F = g.N.Exact.numbers.field in
    let coords = c.args.coords.now in
    let m = c.args.map in
    let n = c.loop-corner.corner-index in
    let v = get_or c.args.corners.now n 0 in
    let a_is : c.index-coords-vertex.result ≡ point F coords v
    = read_point F coords coords v v c.index-coords-vertex.result c.index-coords-vertex.is refl refl (c.requires n c.loop-corner-test.true) in
    more_laid K coords m c.args.face c.args.corners.now n (get laid_order c.args.laid.now) (get laid_order c.loop-corner.laid) (get laid_order c.insert.new.self) v c.in-Ok.place refl
    (subst (λ (a : Pair g.row.N.Denot). Fits (placing K m a)) a_is c.in-Ok.ensures.0) (c.in-Ok.ensures.1 ∙ ap (place F m) a_is)
    (puts laid_order laid_exact (get laid_order c.loop-corner.laid) (get laid_order c.insert.new.self) (v, c.args.face) c.in-Ok.place c.in-Ok-insert.ensures.updates.1 c.in-Ok-insert.ensures.updates.2) c.loop-corner.invariant

pub returns-in-Err : goal.returns-in-Err
returns-in-Err g c =
    let K = exact g.N.Exact.numbers in
    let F = g.N.Exact.numbers.field in
    let coords = c.args.coords.now in
    let m = c.args.map in
    let n = c.loop-corner.corner-index in
    let v = get_or c.args.corners.now n 0 in
    let a_is : c.index-coords-vertex.result ≡ point F coords v
    = read_point F coords coords v v c.index-coords-vertex.result c.index-coords-vertex.is refl refl (c.requires n c.loop-corner-test.true) in
    record {
      corner = n;
      within = c.loop-corner-test.true;
      vertex = refl;
      past = λ fits. c.in-Err.ensures (subst (λ (a : Pair g.row.N.Denot). Fits (placing K m a)) (sym a_is) fits);
      earlier = λ j less. c.loop-corner.invariant.fits j less;
    }

pub returns : goal.returns
returns g c =
    let most : c.loop-corner.corner-index ≤ length c.args.corners.now = c.loop-corner.auto.corner-index-end in
    let least : length c.args.corners.now ≤ c.loop-corner.corner-index = c.loop-corner-test.false in
    let same : c.loop-corner.corner-index ≡ length c.args.corners.now = omega arith in
    subst (λ (n : ℕ). AreLaidTo (exact g.N.Exact.numbers) c.args.coords.now c.args.map c.args.face c.args.corners.now n (get laid_order c.args.laid.now) (get laid_order c.loop-corner.laid)) same c.loop-corner.invariant
