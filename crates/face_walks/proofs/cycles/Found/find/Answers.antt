use Rattle.std.proofs.Common.{◌≡◌, ℕ, ◌<◌, Bool, List, length, sym, subst, ap, ◌∙◌}
use Rattle.std.specs.Prelude.{Contains, IsTrue}
use Rattle.std.proofs.lemmas.List.{with_items_is}
use Rattle.half_edges.specs.declared.arena.HalfId.{HalfId}
use Rattle.half_edges.specs.Cycles.{ids}
use Rattle.half_edges.specs.Halves.{count}
use Rattle.face_walks.specs.Orders.{AreMarked, corners_of}
use Rattle.face_walks.proofs.CycleLists.{on_ok_then, walk_found}
use Rattle.face_walks.proofs.CycleWalks.{cycle_within}
use Rattle.face_walks.proofs.cycles.Found.find.Goals as goal

pub mark-requires : goal.mark-requires
mark-requires c = λ h i.
    let below : h < count c.args.arena.now
    = cycle_within c.args.arena.now c.len-count.ensures.arena c.args.half.0 (ids c.in_ok-cycle.cycle) c.requires.half c.in_ok-cycle.ensures h
    (subst (λ (cycle : List HalfId). Contains (ids cycle) h) c.as_slice.ensures i) in
    subst (λ (n : ℕ). h < n) (sym (ap length c.as_mut_slice.ensures.value ∙ c.requires.as_many)) below

pub face_of-requires : goal.face_of-requires
face_of-requires c = λ h i.
    cycle_within c.args.arena.now c.len-count.ensures.arena c.args.half.0 (ids c.in_ok-cycle.cycle) c.requires.half c.in_ok-cycle.ensures h
    (subst (λ (cycle : List HalfId). Contains (ids cycle) h) c.as_slice-2.ensures i)

pub returns : goal.returns
returns c =
    let seen : c.keep.new.self.seen.items ≡ c.mark.new.seen
    = ap (λ v. v.items) c.keep.ensures.seen
    ∙ with_items_is c.args.self.now.seen c.mark.new.seen (c.mark.ensures.as_many ∙ c.as_mut_slice.ensures.len) in
    let marks : AreMarked c.args.self.now.seen.items (ids c.in_ok-cycle.cycle) c.keep.new.self.seen.items
    = subst (λ (s : List Bool). AreMarked c.args.self.now.seen.items (ids c.in_ok-cycle.cycle) s) (sym seen)
    (subst (λ (s : List Bool). AreMarked s (ids c.in_ok-cycle.cycle) c.mark.new.seen) c.as_mut_slice.ensures.value
    (subst (λ (cycle : List HalfId). AreMarked c.as_mut_slice.result.now (ids cycle) c.mark.new.seen) c.as_slice.ensures c.mark.ensures)) in
    on_ok_then c.keep.result
    (walk_found c.args.arena.now c.args.half.0 c.args.outside.0 c.args.self.now.faces c.args.self.now.outer c.args.self.now.seen.items
    c.keep.new.self.faces c.keep.new.self.outer c.keep.new.self.seen.items (ids c.in_ok-cycle.cycle) c.in_ok-cycle.ensures marks c.in_ok-face.face
    (subst (λ (cycle : List HalfId). c.in_ok-face.face.corners ≡ corners_of c.args.arena.now (ids cycle)) c.as_slice-2.ensures c.in_ok-face.ensures)
    c.holds.result
    (subst (λ (cycle : List HalfId). IsTrue c.holds.result → Contains (ids cycle) c.args.outside.0) c.as_slice-3.ensures c.holds.ensures.0)
    (subst (λ (cycle : List HalfId). Contains (ids cycle) c.args.outside.0 → IsTrue c.holds.result) c.as_slice-3.ensures c.holds.ensures.1))
    c.keep.ensures.walk
