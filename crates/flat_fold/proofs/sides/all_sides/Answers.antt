use Rattle.std.proofs.Common.{◌≡◌, ◌∙◌, ap, sym, subst, ℕ, List, [], ◌∷◌, ◌++◌, ◌<◌, ◌+◌, length, None, length-append}
use Rattle.flat_fold.specs.declared.sides.Sides.{Sides}
use Rattle.flat_fold.specs.EdgeSides.{HasSides, sides_at}
use Rattle.flat_fold.specs.Faces.{edge_at}
use Rattle.flat_fold.proofs.SideLaws.{grown, side-found}
use Rattle.flat_fold.proofs.sides.all_sides.Goals as goal

pub loop-edge-preserved : goal.loop-edge-preserved
loop-edge-preserved c =
    let faces = c.args.faces.now in
    let edges = c.args.edges.now in
    let old = c.loop-edge.sides in
    let n = c.loop-edge.edge-index in
    let now = c.sides_of.result in
    let pushed : c.push.new.self ≡ old ++ now ∷ [] = c.in_ok-push.ensures.ok in
    let here : HasSides faces (edge_at edges n) now
    = record { left = side-found faces c.args.pieces.now c.requires _ _ now.left (sym c.sides_of.ensures.left); right = side-found faces c.args.pieces.now c.requires _ _ now.right (sym c.sides_of.ensures.right) } in
    let longer : length (old ++ now ∷ []) ≡ length old + 1 = length-append old (now ∷ []) in
    record {
      long = ap (λ (xs : List Sides). length xs) pushed ∙ longer ∙ ap (λ (k : ℕ). k + 1) c.loop-edge.invariant.long;
      each = subst (λ (xs : List Sides). (e : ℕ) → e < n + 1 → HasSides faces (edge_at edges e) (sides_at xs e)) (sym pushed)
          (grown (λ e s. HasSides faces (edge_at edges e) s) old now (record { left = None; right = None }) n c.loop-edge.invariant.long here c.loop-edge.invariant.each);
    }
