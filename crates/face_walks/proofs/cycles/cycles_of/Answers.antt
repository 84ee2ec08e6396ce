use Rattle.std.proofs.Common.{◌≡◌, ℕ, ◌<◌, ◌+◌, Bool, List, [], true, false, length, replicate, sym, ap, subst, ◌∙◌, rules}
use Rattle.std.proofs.lemmas.List.{get_or_default}
use Rattle.scaled_plane.specs.declared.drawing.Face.{Face}
use Rattle.half_edges.specs.Halves.{count}
use Rattle.face_walks.specs.declared.cycles.Found.{Found}
use Rattle.face_walks.specs.Orders.{AreInOrder, half_in}
use Rattle.face_walks.specs.Searches.{is_seen}
use Rattle.face_walks.proofs.Finding.{AreFound, all_found, none_found, passed, walk_added}
use Rattle.face_walks.proofs.cycles.cycles_of.Goals as goal
use Rattle.face_walks.proofs.cycles.cycles_of.Goals.{then-not-index+in_ok-find, else-not-index}

abbrev Entries : Type 0
Entries = List ((ℕ × ℕ) × ℕ)

pub loop-half-init : goal.loop-half-init
loop-half-init c =
    let arena = c.args.arena.now in
    let order = c.as_slice-half-items.result.now in
    let found = c.in_ok-found.found in
    let seen : found.seen.items ≡ replicate (count arena) false = c.in_ok-found.ensures.2 ∙ ap (λ (n : ℕ). replicate n false) (search rules) in (
      search rules,
      subst (λ (faces : List Face). AreFound arena order c.args.outside.0 0 faces found.outer found.seen.items) (sym c.in_ok-found.ensures.0)
          (subst (λ (s : List Bool). AreFound arena order c.args.outside.0 0 [] found.outer s) (sym seen)
          (none_found arena order c.args.outside.0 found.outer)),
    )

pub loop-half-preserved : goal.loop-half-preserved
loop-half-preserved c =
    let arena = c.args.arena.now in
    let order = c.as_slice-half-items.result.now in
    let old = c.loop-half.invariant in
    let half : ℕ = half_in order c.loop-half.half-index in
    let ordered : AreInOrder arena order = subst (λ (hs : Entries). AreInOrder arena hs) (sym c.as_slice-half-items.ensures.value) c.in_ok-order.ensures in
    let below : half < length c.loop-half.found.seen.items
    = subst (λ (n : ℕ). half < n) (sym old.1.as_many) (ordered.in_range c.loop-half.half-index c.loop-half-test.true) in
    let read : c.index.result.now ≡ is_seen c.loop-half.found.seen.items half
    = c.index.ensures ∙ get_or_default c.loop-half.found.seen.items half c.index.result.now false below in
    elim c.if-not-index.branch [
      | then-not-index+in_ok-find w ↦ (
        old.0,
        subst (λ (f : Found). AreFound arena order c.args.outside.0 (c.loop-half.half-index + 1) f.faces f.outer f.seen.items) (sym w.found-is)
            (walk_added arena order c.args.outside.0 c.loop-half.half-index c.loop-half.found.faces c.loop-half.found.outer c.loop-half.found.seen.items old.1 old.0 ordered
            c.loop-half-test.true (λ s. let no : true ≡ false = sym s ∙ sym read ∙ w.if-not-index.true in cc) c.requires.once
            w.find.new.self.faces w.find.new.self.outer w.find.new.self.seen.items w.in_ok-find.ensures),
      )
      | else-not-index w ↦ (
        old.0,
        subst (λ (f : Found). AreFound arena order c.args.outside.0 (c.loop-half.half-index + 1) f.faces f.outer f.seen.items) (sym w.found-is)
            (passed arena order c.args.outside.0 c.loop-half.half-index c.loop-half.found.faces c.loop-half.found.outer c.loop-half.found.seen.items old.1 (sym read ∙ w.if-not-index.false)),
      )
    ]

pub returns : goal.returns
returns c =
    let arena = c.args.arena.now in
    let order = c.as_slice-half-items.result.now in
    let ordered : AreInOrder arena order = subst (λ (hs : Entries). AreInOrder arena hs) (sym c.as_slice-half-items.ensures.value) c.in_ok-order.ensures in
    all_found arena order c.args.outside.0 c.loop-half.half-index c.loop-half.found.faces c.loop-half.found.outer c.loop-half.found.seen.items
    c.loop-half.invariant.1 ordered c.loop-half-test.false c.requires.outside
