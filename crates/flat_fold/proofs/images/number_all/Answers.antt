use Rattle.std.proofs.Common.{◌≡◌, ◌∙◌, ap, sym, subst, refl, ℕ, List, [], ◌<◌, ◌≤◌, ◌+◌, ◌^◌, length, None, Option, pos, arith}
use Rattle.std.specs.BTreeMap.{get, is_at}
use Rattle.std.specs.Map.{lookup}
use Rattle.std.proofs.lemmas.List.{get_or_default}
use Rattle.scaled_plane.specs.declared.point.Pair.{Pair}
use Rattle.flat_fold.specs.declared.images.Origin.{Origin}
use Rattle.flat_fold.specs.declared.images.LaidVertex.{LaidVertex}
use Rattle.flat_fold.specs.Places.{laid_order}
use Rattle.flat_fold.specs.Numbers.{PlaceKey, place_order, laid_at, AreNumberedTo}
use Rattle.flat_fold.proofs.Puts.{puts, laid_exact}
use Rattle.flat_fold.proofs.NumberLaws.{none_numbered, numbered_more, all_numbered}
use Rattle.flat_fold.proofs.images.number_all.Goals as goal

pub loop-at-init : goal.loop-at-init
loop-at-init g c =
    let F = g.N.Exact.numbers.field in
    let parts = g.N.Exact.parts in
    let laid = c.args.laid.now in
    let known = get place_order c.new-known.result in
    let numbers = get laid_order c.new-numbers.result in
    let start : AreNumberedTo F laid parts 0 known numbers [] []
    = none_numbered F parts g.met.N.Exact.holds.once laid c.requires.in_order known numbers
    (λ q. ap (λ (es : List (PlaceKey × ℕ)). lookup (is_at (place_order q)) es) c.new-known.ensures.empty) in
    subst (λ (x : List Origin). AreNumberedTo F laid parts 0 known numbers x c.new-images.result) (sym c.new-origins.ensures)
    (subst (λ (x : List (Pair g.row.N.Denot)). AreNumberedTo F laid parts 0 known numbers [] x) (sym c.new-images.ensures) start)

pub loop-at-preserved : goal.loop-at-preserved
loop-at-preserved g c =
    let F = g.N.Exact.numbers.field in
    let item_is : c.at-item.result ≡ laid_at F c.args.laid.now c.loop-at.at-index
    = c.at-item.is ∙ get_or_default c.args.laid.now c.loop-at.at-index c.at-item.result (record { vertex = 0; face = 0; place = record { x = F.int (pos 0); y = F.int (pos 0) } }) c.loop-at-test.true in
    numbered_more F g.N.Exact.parts g.met.N.Exact.holds.once c.args.laid.now c.requires.in_order c.loop-at.at-index c.loop-at-test.true c.at-item.result item_is
    (get place_order c.loop-at.known) (get place_order c.number_of.new.known) (get laid_order c.loop-at.numbers) (get laid_order c.insert.new.self)
    c.loop-at.origins c.number_of.new.origins c.loop-at.images c.number_of.new.images c.in_ok-number.number c.in_ok-number.ensures
    (puts laid_order laid_exact (get laid_order c.loop-at.numbers) (get laid_order c.insert.new.self) (c.at-item.result.vertex, c.at-item.result.face) c.in_ok-number.number c.in_ok-insert.ensures.updates.1 c.in_ok-insert.ensures.updates.2)
    c.loop-at.invariant

pub number_of-requires : goal.number_of-requires
number_of-requires g c =
    let few : length c.loop-at.images ≤ c.loop-at.at-index = c.loop-at.invariant.few in
    let less : c.loop-at.at-index < length c.args.laid.now = c.loop-at-test.true in
    let most : length c.args.laid.now < 2 ^ 32 = c.requires.few in
    omega (arith, few, less, most)

pub returns : goal.returns
returns g c =
    let F = g.N.Exact.numbers.field in
    let parts = g.N.Exact.parts in
    let most : c.loop-at.at-index ≤ length c.args.laid.now = c.loop-at.auto.at-index-end in
    let least : length c.args.laid.now ≤ c.loop-at.at-index = c.loop-at-test.false in
    let same : c.loop-at.at-index ≡ length c.args.laid.now = omega (arith, most, least) in
    all_numbered F parts c.args.laid.now (get place_order c.loop-at.known) (get laid_order c.loop-at.numbers) c.loop-at.origins c.loop-at.images
    (subst (λ (n : ℕ). AreNumberedTo F c.args.laid.now parts n (get place_order c.loop-at.known) (get laid_order c.loop-at.numbers) c.loop-at.origins c.loop-at.images) same c.loop-at.invariant)
