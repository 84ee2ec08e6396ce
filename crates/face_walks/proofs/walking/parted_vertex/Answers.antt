use Rattle.std.proofs.Common.{◌≡◌, ℕ, ◌<◌, List, length, sym, subst, ap, ◌∙◌}
use Rattle.std.specs.Prelude.{MatchOption, Option}
use Rattle.half_edges.specs.declared.arena.HalfId.{HalfId}
use Rattle.half_edges.specs.Halves.{count}
use Rattle.scaled_plane.specs.Walks.{IsFirstParted}
use Rattle.face_walks.specs.Linked.{piece_at}
use Rattle.face_walks.specs.Rings.{half_at}
use Rattle.face_walks.specs.Searches.{IsFirstUnreached, IsReachedFrom}
use Rattle.face_walks.proofs.Assembling.{connected, heads_in, out, parted, used}
use Rattle.face_walks.proofs.walking.parted_vertex.Goals as goal

pub first_parted-requires-clause-heads : goal.first_parted-requires-clause-heads
first_parted-requires-clause-heads g c =
    let m = c.requires.made in
    heads_in g.W.Whole.numbers c.args.drawing.now c.requires.well_set c.args.parts.now.arena m.pairs c.args.parts.now.headings.items m.headed
    c.args.parts.now.rings m.as_many m.ringed

pub returns-in_default : goal.returns-in_default
returns-in_default g c =
    let m = c.requires.made in
    let arena = c.args.parts.now.arena in
    connected g.W.Whole.numbers c.args.drawing.now c.requires.well_set arena m.pairs (length c.args.parts.now.rings) m.as_many
    (subst (λ (o : Option ℕ). MatchOption o ((v : ℕ) → v < length c.args.parts.now.rings → IsReachedFrom arena 0 v) (IsFirstUnreached arena (length c.args.parts.now.rings)))
    c.in_default.is c.in_ok-vertex.ensures)

pub bounds-ring-0 : goal.bounds-ring-0
bounds-ring-0 g c =
    let m = c.requires.made in
    let arena = c.args.parts.now.arena in
    let first : IsFirstUnreached arena (length c.args.parts.now.rings) c.in-Some.vertex
    = subst (λ (o : Option ℕ). MatchOption o ((v : ℕ) → v < length c.args.parts.now.rings → IsReachedFrom arena 0 v) (IsFirstUnreached arena (length c.args.parts.now.rings)))
    c.in-Some.is c.in_ok-vertex.ensures in
    subst (λ (ring : List HalfId). 0 < length ring) (sym c.ring.ensures)
    (used g.W.Whole.numbers c.args.drawing.now c.requires.well_set arena m.pairs c.args.parts.now.headings.items m.headed
    c.args.parts.now.rings m.as_many m.ringed c.in-Some.vertex first.in_range)

pub piece-vertex-requires : goal.piece-vertex-requires
piece-vertex-requires g c =
    let m = c.requires.made in
    let arena = c.args.parts.now.arena in
    let first : IsFirstUnreached arena (length c.args.parts.now.rings) c.in-Some.vertex
    = subst (λ (o : Option ℕ). MatchOption o ((v : ℕ) → v < length c.args.parts.now.rings → IsReachedFrom arena 0 v) (IsFirstUnreached arena (length c.args.parts.now.rings)))
    c.in-Some.is c.in_ok-vertex.ensures in
    subst (λ (ring : List HalfId). half_at ring 0 < count arena) (sym c.ring.ensures)
    ((out g.W.Whole.numbers c.args.drawing.now c.requires.well_set arena m.pairs c.args.parts.now.headings.items m.headed
    c.args.parts.now.rings m.as_many m.ringed).in_range c.in-Some.vertex 0 first.in_range
    (used g.W.Whole.numbers c.args.drawing.now c.requires.well_set arena m.pairs c.args.parts.now.headings.items m.headed
    c.args.parts.now.rings m.as_many m.ringed c.in-Some.vertex first.in_range))

pub returns : goal.returns
returns g c =
    let m = c.requires.made in
    let arena = c.args.parts.now.arena in
    let first : IsFirstUnreached arena (length c.args.parts.now.rings) c.in-Some.vertex
    = subst (λ (o : Option ℕ). MatchOption o ((v : ℕ) → v < length c.args.parts.now.rings → IsReachedFrom arena 0 v) (IsFirstUnreached arena (length c.args.parts.now.rings)))
    c.in-Some.is c.in_ok-vertex.ensures in
    let here : c.piece-vertex.result.0 ≡ c.in-Some.vertex
    = ap (λ (p : ℕ × ℕ). p.0) c.piece-vertex.ensures ∙ ap (λ (ring : List HalfId). (piece_at arena (half_at ring 0)).0) c.ring.ensures
    ∙ (out g.W.Whole.numbers c.args.drawing.now c.requires.well_set arena m.pairs c.args.parts.now.headings.items m.headed
    c.args.parts.now.rings m.as_many m.ringed).tails c.in-Some.vertex 0 first.in_range
    (used g.W.Whole.numbers c.args.drawing.now c.requires.well_set arena m.pairs c.args.parts.now.headings.items m.headed
    c.args.parts.now.rings m.as_many m.ringed c.in-Some.vertex first.in_range) in
    subst (λ (v : ℕ). IsFirstParted c.args.drawing.now.edges (length c.args.drawing.now.vertices) v) (sym here)
    (parted g.W.Whole.numbers c.args.drawing.now c.requires.well_set arena m.pairs (length c.args.parts.now.rings) c.in-Some.vertex m.as_many first)
