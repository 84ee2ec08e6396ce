use Rattle.std.proofs.Common.{◌≡◌, ◌∙◌, ap, sym, subst, ℕ, List, [], ◌∷◌, ◌++◌, ◌<◌, ◌+◌, length, None, Option, length-append}
use Rattle.std.specs.Prelude.{slice_index_or}
use Rattle.scaled_plane.specs.declared.drawing.Edge.{Edge}
use Rattle.scaled_plane.specs.declared.drawing.Ends.{Ends}
use Rattle.flat_fold.specs.declared.levels.Between.{Between}
use Rattle.flat_fold.specs.EdgeSides.{Separates, sides_at}
use Rattle.flat_fold.specs.Faces.{edge_at}
use Rattle.flat_fold.specs.Rounds.{IsCrossing}
use Rattle.flat_fold.proofs.SheetLaws.{one-face}
use Rattle.flat_fold.proofs.SideLaws.{grown, is-crossing}
use Rattle.flat_fold.proofs.sides.crossings.Goals as goal

pub loop-e-preserved : goal.loop-e-preserved
loop-e-preserved g c =
    let now = c.args.sheet.now in
    let edges = now.ends.edges in
    let e = c.loop-e.e in
    let old = c.loop-e.crossings in
    let pushed : c.push.new.self ≡ old ++ c.crossing.result ∷ [] = c.in_ok-push.ensures.ok in
    let edges_are : c.as_slice-edges.result.now ≡ edges = c.as_slice-edges.ensures ∙ ap (λ (x : Ends g.row.N.Denot). x.edges) c.ends.ensures.ends in
    let within : e < length edges = subst (λ (es : List Edge). e < length es) edges_are c.loop-e-test.true in
    let found : Separates (edge_at edges e).letter (sides_at c.args.sides.now e) c.crossing.result
    = subst (λ (es : List Edge). Separates (edge_at es e).letter (sides_at c.args.sides.now e) c.crossing.result) edges_are c.crossing.ensures in
    let here : IsCrossing edges now.faces e c.crossing.result
    = is-crossing now.faces edges (one-face now.ends now.faces c.ends.ensures.sheet) e within (sides_at c.args.sides.now e) (c.requires.each e within) c.crossing.result found in
    let longer : length (old ++ c.crossing.result ∷ []) ≡ length old + 1 = length-append old (c.crossing.result ∷ []) in
    record {
      long = ap (λ (xs : List (Option Between)). length xs) pushed ∙ longer ∙ ap (λ (k : ℕ). k + 1) c.loop-e.invariant.long;
      each = subst (λ (xs : List (Option Between)). (d : ℕ) → d < e + 1 → IsCrossing edges now.faces d (slice_index_or xs d None)) (sym pushed)
          (grown (λ d o. IsCrossing edges now.faces d o) old c.crossing.result None e c.loop-e.invariant.long here c.loop-e.invariant.each);
    }
