use Rattle.std.proofs.Common.{◌≡◌, ◌∙◌, ap, sym, subst, refl, ℕ, List, [], ◌<◌, ◌≤◌, length, None, Option, arith}
use Rattle.std.specs.BTreeMap.{get, is_at}
use Rattle.std.specs.Map.{lookup}
use Rattle.std.specs.Prelude.{slice_index_or}
use Rattle.std.proofs.lemmas.List.{get_or_default}
use Rattle.scaled_plane.specs.declared.point.Pair.{Pair}
use Rattle.scaled_plane.specs.declared.drawing.Face.{Face}
use Rattle.flat_fold.specs.declared.motion.Motion.{Motion}
use Rattle.flat_fold.specs.Computed.{exact}
use Rattle.flat_fold.specs.Motions.{identity}
use Rattle.flat_fold.specs.Faces.{corners_at}
use Rattle.flat_fold.specs.Images.{map_at}
use Rattle.flat_fold.specs.Places.{laid_order, AreFacesLaidTo, IsFirstPast}
use Rattle.flat_fold.proofs.PlaceLaws.{no_face_laid, more_face}
use Rattle.flat_fold.proofs.places.lay_faces.Goals as goal

pub loop-f-init : goal.loop-f-init
loop-f-init g c =
    no_face_laid (exact g.N.Exact.numbers) c.args.coords.now c.args.faces.now c.args.maps.now (get laid_order c.new-laid.result)
    (λ q. ap (λ (es : List ((ℕ × ℕ) × Pair g.row.N.Denot)). lookup (is_at (laid_order q)) es) c.new-laid.ensures.empty)

pub lay_corners-requires : goal.lay_corners-requires
lay_corners-requires g c =
    let corners_is : c.as_slice.result.now ≡ corners_at c.args.faces.now c.loop-f.f
    = c.as_slice.ensures ∙ ap (λ (face : Face). face.corners) (c.index-faces-f.is ∙ get_or_default c.args.faces.now c.loop-f.f c.index-faces-f.result (record { corners = [] }) c.loop-f-test.true) in
    subst (λ (s : List ℕ). (k : ℕ) → k < length s → slice_index_or s k 0 < length c.args.coords.now) (sym corners_is) (c.requires.vertices c.loop-f.f)

pub loop-f-preserved : goal.loop-f-preserved
loop-f-preserved g c =
    let corners_is : c.as_slice.result.now ≡ corners_at c.args.faces.now c.loop-f.f
    = c.as_slice.ensures ∙ ap (λ (face : Face). face.corners) (c.index-faces-f.is ∙ get_or_default c.args.faces.now c.loop-f.f c.index-faces-f.result (record { corners = [] }) c.loop-f-test.true) in
    let long : length c.args.maps.now ≡ length c.args.faces.now = c.requires.long in
    let less : c.loop-f.f < length c.args.faces.now = c.loop-f-test.true in
    let within : c.loop-f.f < length c.args.maps.now = omega (arith, long, less) in
    let map_is : c.index-maps-f.result ≡ map_at g.N.Exact.numbers.field c.args.maps.now c.loop-f.f
    = c.index-maps-f.is ∙ get_or_default c.args.maps.now c.loop-f.f c.index-maps-f.result (identity g.N.Exact.numbers.field) within in
    more_face (exact g.N.Exact.numbers) c.args.coords.now c.args.faces.now c.args.maps.now c.loop-f.f (get laid_order c.loop-f.laid) (get laid_order c.lay_corners.new.laid)
    c.index-maps-f.result c.as_slice.result.now map_is corners_is c.in-Ok.ensures c.loop-f.invariant

pub returns-clause-laid : goal.returns-clause-laid
returns-clause-laid g c =
    let most : c.loop-f.f ≤ length c.args.faces.now = c.loop-f.auto.f-end in
    let least : length c.args.faces.now ≤ c.loop-f.f = c.loop-f-test.false in
    let same : c.loop-f.f ≡ length c.args.faces.now = omega (arith, most, least) in
    subst (λ (n : ℕ). AreFacesLaidTo (exact g.N.Exact.numbers) c.args.coords.now c.args.faces.now c.args.maps.now n (get laid_order c.loop-f.laid)) same c.loop-f.invariant
