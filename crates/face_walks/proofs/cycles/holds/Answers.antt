use Rattle.std.proofs.Common.{ℕ, ◌<◌, length, sym, subst, ◌∙◌, rules}
use Rattle.std.proofs.lemmas.List.{get_or-map, length-map}
use Rattle.half_edges.specs.declared.arena.HalfId.{HalfId}
use Rattle.face_walks.proofs.cycles.holds.Goals as goal

pub returns : goal.returns
returns c = (
  λ e. absurd (cc),
  λ i.
      let inside : i.0 < length c.args.cycle.now = subst (λ (n : ℕ). i.0 < n) (length-map c.args.cycle.now (λ (h : HalfId). h.0)) i.1 in
      absurd (c.loop-other.invariant i.0 (search rules)
      (sym (get_or-map (λ (h : HalfId). h.0) c.args.cycle.now i.0 (record { 0 = 0 }) c.args.half.0 inside) ∙ i.2)),
)
