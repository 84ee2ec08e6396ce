use Rattle.std.proofs.Common.{◌≡◌, ℕ, ◌<◌, List, [], length, sym, ap, subst, ◌∙◌}
use Rattle.std.specs.Prelude.{slice_set}
use Rattle.std.specs.List.{insert}
use Rattle.std.proofs.lemmas.List.{map-set, get_or-map, length-map}
use Rattle.half_edges.specs.declared.arena.HalfId.{HalfId}
use Rattle.face_walks.specs.Rings.{ring_at}
use Rattle.face_walks.proofs.rings.Rings.insert.Goals as goal

pub returns : goal.returns
returns c =
    let rings = c.self.inside.rings.items in
    let long : length c.args.self.now ≡ length rings = sym (ap length c.self.view_is) ∙ length-map rings (λ ring. ring.items) in
    let here : c.index_mut.result.now.items ≡ ring_at c.args.self.now c.args.v
    = ap (λ ring. ring.items) c.index_mut.ensures.value
    ∙ sym (get_or-map (λ ring. ring.items) rings c.args.v c.index_mut.result.now [] (subst (λ (n : ℕ). c.args.v < n) long c.requires.vertex))
    ∙ ap (λ (rs : List (List HalfId)). ring_at rs c.args.v) c.self.view_is in
    let new : c.insert.new.self.items ≡ insert (ring_at c.args.self.now c.args.v) c.args.place c.args.half
    = c.in_ok-insert.ensures.ok ∙ ap (λ (ring : List HalfId). insert ring c.args.place c.args.half) here in
    map-set (λ ring. ring.items) rings c.args.v c.insert.new.self
    ∙ ap (λ (rs : List (List HalfId)). slice_set rs c.args.v c.insert.new.self.items) c.self.view_is
    ∙ ap (λ (ring : List HalfId). slice_set c.args.self.now c.args.v ring) new
