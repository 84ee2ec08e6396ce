use Rattle.std.proofs.Common.{◌≡◌, ℕ, ◌+◌, ◌++◌, ◌∷◌, ◌<◌, [], List, length, take, sym, subst, rules}
use Rattle.std.specs.Prelude.{slice_set, true}
use Rattle.std.proofs.lemmas.List.{map_more}
use Rattle.half_edges.specs.declared.arena.HalfId.{HalfId}
use Rattle.half_edges.specs.Cycles.{ids}
use Rattle.face_walks.specs.Orders.{AreMarked}
use Rattle.face_walks.specs.Rings.{half_at}
use Rattle.face_walks.proofs.CycleLists.{id_in, marked_more}
use Rattle.face_walks.proofs.cycles.mark.Goals as goal

pub bounds-seen-half : goal.bounds-seen-half
bounds-seen-half c =
    let below : half_at c.args.cycle.now c.loop-half.half-index < length c.args.seen.now
    = c.requires (half_at c.args.cycle.now c.loop-half.half-index) (id_in c.args.cycle.now c.loop-half.half-index (record { 0 = 0 }) (search rules)) in
    subst (λ (n : ℕ). half_at c.args.cycle.now c.loop-half.half-index < n) (sym c.loop-half.invariant.as_many) below

pub loop-half-preserved : goal.loop-half-preserved
loop-half-preserved c =
    let inside : c.loop-half.half-index < length c.args.cycle.now = search rules in
    let h : ℕ = half_at c.args.cycle.now c.loop-half.half-index in
    let below : h < length c.args.seen.now = c.requires h (id_in c.args.cycle.now c.loop-half.half-index (record { 0 = 0 }) inside) in
    let grown : ids (take (c.loop-half.half-index + 1) c.args.cycle.now) ≡ ids (take c.loop-half.half-index c.args.cycle.now) ++ h ∷ []
    = map_more (λ (x : HalfId). x.0) c.args.cycle.now c.loop-half.half-index (record { 0 = 0 }) inside in
    subst (λ (xs : List ℕ). AreMarked c.args.seen.now xs (slice_set c.loop-half.seen h true)) (sym grown)
    (marked_more c.args.seen.now (ids (take c.loop-half.half-index c.args.cycle.now)) c.loop-half.seen h c.loop-half.invariant below)
