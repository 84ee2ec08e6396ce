use Rattle.std.proofs.Common.{◌≡◌, ℕ, ◌<◌, length, refl, sym, ap, subst, below_more, rules}
use Rattle.std.specs.Prelude.{Contains}
use Rattle.half_edges.specs.Halves.{count}
use Rattle.scaled_plane.specs.Lists.{gone_on}
use Rattle.face_walks.specs.Linked.{piece_at}
use Rattle.face_walks.specs.Rings.{half_at}
use Rattle.face_walks.specs.Searches.{GoesOn, IsReachedFrom, IsSearch}
use Rattle.face_walks.proofs.SearchLists.{found_more, goes_on_then, still}
use Rattle.face_walks.proofs.joined.Search.find_neighbours.Goals as goal

pub loop-half-preserved : goal.loop-half-preserved
loop-half-preserved c =
    let arena = c.args.arena.now in
    let vertices = length c.args.self.now.seen.items in
    let old = c.loop-half.invariant in
    let inside : c.loop-half.half-index < length c.args.ring.now = search rules in
    let h : ℕ = half_at c.args.ring.now c.loop-half.half-index in
    let below : h < count arena = c.requires.in_range c.loop-half.half-index inside in
    let to : c.piece-to.result.1 ≡ (piece_at arena h).1 = ap (λ (p : ℕ × ℕ). p.1) c.piece-to.ensures in
    let reached : IsReachedFrom arena 0 c.piece-to.result.1
    = subst (λ (v : ℕ). IsReachedFrom arena 0 v) (sym to) (gone_on (piece_at arena h).0 (c.requires.tails c.loop-half.half-index inside) (h, below, refl)) in
    let in_range : c.piece-to.result.1 < vertices = subst (λ (v : ℕ). v < vertices) (sym to) (c.requires.heads h below) in
    let new : IsSearch arena vertices c.find.new.self.found.items c.find.new.self.seen.items × GoesOn c.loop-half.self.found.items c.find.new.self.found.items
    × Contains c.find.new.self.found.items c.piece-to.result.1
    = found_more arena vertices c.loop-half.self.found.items c.loop-half.self.seen.items old.0 c.piece-to.result.1 in_range reached
    c.find.new.self.found.items c.find.new.self.seen.items c.in_ok-find.ensures in (
      new.0,
      goes_on_then c.args.self.now.found.items c.loop-half.self.found.items c.find.new.self.found.items old.1 new.1,
      below_more (λ k. Contains c.find.new.self.found.items (piece_at arena (half_at c.args.ring.now k)).1) c.loop-half.half-index
          (λ k l. still c.loop-half.self.found.items c.find.new.self.found.items new.1 (piece_at arena (half_at c.args.ring.now k)).1 (old.2 k l))
          (subst (λ (v : ℕ). Contains c.find.new.self.found.items v) to new.2),
    )
