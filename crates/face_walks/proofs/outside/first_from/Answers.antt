use Rattle.std.proofs.Common.{◌≡◌, ◌+◌, ◌<◌, length, true, false, sym, subst, ◌∙◌, rules}
use Rattle.half_edges.specs.declared.arena.HalfId.{HalfId}
use Rattle.face_walks.specs.Headings.{direction_of}
use Rattle.face_walks.specs.Outside.{IsFirstFrom}
use Rattle.face_walks.proofs.Outsides.{first_kept, first_taken}
use Rattle.face_walks.proofs.outside.first_from.Goals as goal
use Rattle.face_walks.proofs.outside.first_from.Goals.{then-turns_from, else-turns_from}

pub loop-half-preserved : goal.loop-half-preserved
loop-half-preserved g c =
    let inside : c.loop-half.half-index < length c.args.ring.now = search rules in
    elim c.if-turns_from.branch [
      | then-turns_from w ↦
          subst (λ (h : HalfId). IsFirstFrom g.W.Whole.numbers.ring c.args.headings.now (direction_of c.args.from) c.args.ring.now (c.loop-half.half-index + 1) h.0) (sym w.first-is)
          (first_taken g.W.Whole.numbers.ring c.args.headings.now (direction_of c.args.from) c.args.ring.now c.requires.differ c.requires.apart
          c.loop-half.half-index c.loop-half.first.0 c.loop-half.invariant inside (c.turns_from.ensures.0 w.if-turns_from.true))
      | else-turns_from w ↦
          subst (λ (h : HalfId). IsFirstFrom g.W.Whole.numbers.ring c.args.headings.now (direction_of c.args.from) c.args.ring.now (c.loop-half.half-index + 1) h.0) (sym w.first-is)
          (first_kept g.W.Whole.numbers.ring c.args.headings.now (direction_of c.args.from) c.args.ring.now c.requires.differ c.requires.apart
          c.loop-half.half-index c.loop-half.first.0 c.loop-half.invariant inside
          (λ t. let no : true ≡ false = sym (c.turns_from.ensures.1 t) ∙ w.if-turns_from.false in cc))
    ]
