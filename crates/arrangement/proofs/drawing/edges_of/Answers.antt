use Rattle.std.proofs.Common.{◌∙◌, ◌++◌, ◌∷◌, [], ℕ, ap, map, subst, sym}
use Rattle.std.specs.List.{AllZip}
use Rattle.std.specs.Map.Iter.{deref_pair}
use Rattle.std.proofs.lemmas.List.{map_push}
use Rattle.arrangement.specs.declared.covers.Cover.{Cover}
use Rattle.arrangement.specs.Covers.{IsEdgeOf}
use Rattle.arrangement.proofs.Listed.{all_zip_push}
use Rattle.arrangement.proofs.drawing.edges_of.Goals as goal

pub loop-piece-preserved : goal.loop-piece-preserved
loop-piece-preserved c =
    let so_far = map deref_pair c.loop-piece.yielded in
    let entry : (ℕ × ℕ) × Cover = (c.in-Some.piece.now, c.in-Some.cover.now) in
    let one_more = map_push deref_pair c.loop-piece.yielded (c.in-Some.piece, c.in-Some.cover) in
    record {
      edges = subst (λ xs. AllZip IsEdgeOf xs c.push.new.self) (sym one_more)
          (subst (AllZip IsEdgeOf (so_far ++ entry ∷ [])) (sym c.in_ok-push.ensures.ok)
          (all_zip_push IsEdgeOf so_far c.loop-piece.edges entry c.edge_of.result c.loop-piece.invariant.edges c.edge_of.ensures));
      lines = c.in_ok-push-2.ensures.ok ∙ ap (λ ls. ls ++ c.in-Some.cover.now.line ∷ []) c.loop-piece.invariant.lines
          ∙ sym (map_push (λ e. e.1.line) so_far entry) ∙ ap (map (λ e. e.1.line)) (sym one_more);
    }
