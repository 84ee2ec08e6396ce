use Rattle.std.proofs.Common.{◌≡◌, ℕ, ◌<◌, ◌≤◌, List, [], Bool, true, false, replicate, length, ap, subst, ◌∙◌, arith, rules}
use Rattle.std.specs.Prelude.{Contains, MatchOption}
use Rattle.std.proofs.lemmas.List.{get_or_default}
use Rattle.half_edges.specs.declared.arena.HalfId.{HalfId}
use Rattle.scaled_plane.specs.Lists.{begun}
use Rattle.face_walks.specs.Linked.{piece_at}
use Rattle.face_walks.specs.Rings.{half_at}
use Rattle.face_walks.specs.Searches.{Finds, GoesOn, IsSearch, is_seen}
use Rattle.face_walks.proofs.SearchLists.{done_more, done_none, empty_search, found_more, not_many, search_ends, still}
use Rattle.face_walks.proofs.joined.first_parted.Goals as goal

pub loop-next-init : goal.loop-next-init
loop-next-init c =
    let arena = c.args.arena.now in
    let vertices = length c.args.rings.now in
    let unseen : c.in_ok-vec.field-0.items ≡ replicate vertices false
    = c.in_ok-vec.ensures.items_if_clones_equal (λ y e. e) ∙ ap (λ (n : ℕ). replicate n false) c.len.ensures in
    let finds : Finds [] (replicate vertices false) 0 c.find.new.self.found.items c.find.new.self.seen.items
    = subst (λ (found : List ℕ). Finds found (replicate vertices false) 0 c.find.new.self.found.items c.find.new.self.seen.items) c.new.ensures.items
    (subst (λ (seen : List Bool). Finds c.new.result.items seen 0 c.find.new.self.found.items c.find.new.self.seen.items) unseen c.in_ok-find.ensures) in
    let new : IsSearch arena vertices c.find.new.self.found.items c.find.new.self.seen.items × GoesOn [] c.find.new.self.found.items
    × Contains c.find.new.self.found.items 0
    = found_more arena vertices [] (replicate vertices false) (empty_search arena vertices) 0 c.requires.some begun
    c.find.new.self.found.items c.find.new.self.seen.items finds in
    (new.0, new.2, done_none arena c.find.new.self.found.items)

pub loop-next-smaller : goal.loop-next-smaller
loop-next-smaller c =
    let few : length c.loop-next.search.found.items ≤ length c.args.rings.now
    = not_many c.args.arena.now (length c.args.rings.now) c.loop-next.search.found.items c.loop-next.search.seen.items c.loop-next.invariant.0 in
    let inside : c.loop-next.next < length c.loop-next.search.found.items = search rules in
    omega (arith, few, inside)

pub loop-next-preserved : goal.loop-next-preserved
loop-next-preserved c =
    let arena = c.args.arena.now in
    let vertices = length c.args.rings.now in
    let old = c.loop-next.invariant in
    let inside : c.loop-next.next < length c.loop-next.search.found.items = search rules in
    let new : IsSearch arena vertices c.find_neighbours.new.self.found.items c.find_neighbours.new.self.seen.items
    = subst (λ (n : ℕ). IsSearch arena n c.find_neighbours.new.self.found.items c.find_neighbours.new.self.seen.items) old.0.as_many
    c.in_ok-find_neighbours.ensures.search in
    let on : GoesOn c.loop-next.search.found.items c.find_neighbours.new.self.found.items = c.in_ok-find_neighbours.ensures.goes_on in (
      new,
      still c.loop-next.search.found.items c.find_neighbours.new.self.found.items on 0 old.1,
      done_more arena c.args.rings.now c.requires.outgoing c.loop-next.search.found.items c.find_neighbours.new.self.found.items c.loop-next.next
          c.index-vertex.result.now old.2 on inside
          (c.index-vertex.ensures ∙ get_or_default c.loop-next.search.found.items c.loop-next.next c.index-vertex.result.now 0 inside)
          (subst (λ (ring : List HalfId). (m : ℕ) → m < length ring → Contains c.find_neighbours.new.self.found.items (piece_at arena (half_at ring m)).1)
          c.ring.ensures c.in_ok-find_neighbours.ensures.found),
    )

pub returns : goal.returns
returns c =
    let old = c.loop-next.invariant in
    let all : length c.loop-next.search.found.items ≤ c.loop-next.next = search rules in
    search_ends c.args.arena.now (length c.args.rings.now) c.loop-next.search.found.items c.loop-next.search.seen.items old.0 old.1 c.loop-next.next old.2 all
    c.first_unseen.result
    (subst (λ (seen : List Bool). MatchOption c.first_unseen.result ((v : ℕ) → v < length seen → is_seen seen v ≡ true)
    (λ first. (first < length seen) × (is_seen seen first ≡ false) × ((v : ℕ) → v < first → is_seen seen v ≡ true)))
    c.as_slice.ensures.value c.first_unseen.ensures)
