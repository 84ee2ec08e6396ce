use Rattle.std.proofs.Common.{◌≡◌, ◌∙◌, ap, sym, subst, List, [], map, ◌<◌, ◌^◌, length, Result, Ok, Err, IfOk}
use Rattle.std.specs.BTreeMap.{get}
use Rattle.std.proofs.lemmas.List.{length-map}
use Rattle.flat_fold.specs.declared.images.LaidVertex.{LaidVertex}
use Rattle.flat_fold.specs.declared.images.Numbered.{Numbered}
use Rattle.flat_fold.specs.Places.{laid_order}
use Rattle.flat_fold.specs.Numbers.{laid_vertex, AreInOrder, AreNumbered}
use Rattle.flat_fold.specs.Computed.{exact}
use Rattle.flat_fold.proofs.ImageLaws.{laid-in_order}
use Rattle.flat_fold.proofs.images.number_laid.Goals as goal

pub number_all-requires : goal.number_all-requires
number_all-requires g c =
    let all : List (LaidVertex g.row.N.Denot) = map laid_vertex c.args.laid.now.entries in
    let same : c.as_slice.result.now ≡ map laid_vertex c.args.laid.now.entries = c.as_slice.ensures.value ∙ c.in_ok-all.ensures.all in
    let few : length c.args.laid.now.entries < 2 ^ 32 = c.requires c.in_ok-all.ensures.ordered in
    record {
      few = subst (λ n. n < 4294967296) (sym (ap (λ (s : List (LaidVertex g.row.N.Denot)). length s) same ∙ length-map c.args.laid.now.entries laid_vertex)) few;
      in_order = subst (λ (s : List (LaidVertex g.row.N.Denot)). AreInOrder g.N.Exact.numbers.field s) (sym same) (laid-in_order (exact g.N.Exact.numbers) [] [] [] c.args.laid.now c.in_ok-all.ensures.ordered);
    }

pub returns-clause-numbered : goal.returns-clause-numbered
returns-clause-numbered g c =
    let same : c.as_slice.result.now ≡ map laid_vertex c.args.laid.now.entries = c.as_slice.ensures.value ∙ c.in_ok-all.ensures.all in
    subst (λ (s : List (LaidVertex g.row.N.Denot)). IfOk c.number_all.result (λ (r : Numbered g.row.N.Denot). AreNumbered g.N.Exact.numbers.field s (get laid_order r.numbers) r.origins r.images)) same c.number_all.ensures
