use Rattle.std.proofs.Common.{arith, filter, map, subst, sym}
use Rattle.std.specs.List.Sorted.{IsPermutation}
use Rattle.std.proofs.lemmas.Result.{IfErr-weaker, IfOk-weaker, on_ok_weaker}
use Rattle.arrangement.specs.Spans.{is_proper}
use Rattle.arrangement.proofs.Filtered.{end_kept, vertices_of_proper}
use Rattle.arrangement.proofs.Permuting.{pairs_permuted, proper_permuted}
use Rattle.arrangement.proofs.Sweeping.{shares_itself}
use Rattle.arrangement.proofs.vertices.find_vertices.Goals as goal

pub returns-clause-vertices : goal.returns-clause-vertices
returns-clause-vertices g c =
    let K = g.W.Whole.numbers.ring in
    let xs = map (λ s. s.segment) c.deref.result.now in
    let order : IsPermutation (filter (is_proper K) c.args.segments.now) xs
    = subst (λ ss. IsPermutation (filter (is_proper K) c.args.segments.now) (map (λ s. s.segment) ss)) (sym c.deref.ensures.value) c.in_ok-spans.ensures.same in
    let proper = proper_permuted K c.args.segments.now xs order in
    IfOk-weaker c.vertices_of_spans.result _ _ (λ v found. (vertices_of_proper K c.args.segments.now xs proper (map (λ v. v.point) v.items)).1 found) c.vertices_of_spans.ensures.vertices

pub returns-clause-scaled_ends : goal.returns-clause-scaled_ends
returns-clause-scaled_ends g c =
    let K = g.W.Whole.numbers.ring in
    let xs = map (λ s. s.segment) c.deref.result.now in
    let order : IsPermutation (filter (is_proper K) c.args.segments.now) xs
    = subst (λ ss. IsPermutation (filter (is_proper K) c.args.segments.now) (map (λ s. s.segment) ss)) (sym c.deref.ensures.value) c.in_ok-spans.ensures.same in
    let proper = proper_permuted K c.args.segments.now xs order in
    IfOk-weaker c.vertices_of_spans.result _ _ (λ v found p there end. found p there (end_kept K c.args.segments.now xs proper p end)) c.vertices_of_spans.ensures.scaled_ends

pub returns-clause-counted : goal.returns-clause-counted
returns-clause-counted g c =
    let K = g.W.Whole.numbers.ring in
    let xs = map (λ s. s.segment) c.deref.result.now in
    let order : IsPermutation (filter (is_proper K) c.args.segments.now) xs
    = subst (λ ss. IsPermutation (filter (is_proper K) c.args.segments.now) (map (λ s. s.segment) ss)) (sym c.deref.ensures.value) c.in_ok-spans.ensures.same in
    let pairs = pairs_permuted K (shares_itself K) (filter (is_proper K) c.args.segments.now) xs order in
    on_ok_weaker c.vertices_of_spans.result (λ steps. (omega (arith, steps, pairs))) c.vertices_of_spans.ensures.counted

pub returns-clause-counted_at_most : goal.returns-clause-counted_at_most
returns-clause-counted_at_most g c =
    let K = g.W.Whole.numbers.ring in
    let xs = map (λ s. s.segment) c.deref.result.now in
    let order : IsPermutation (filter (is_proper K) c.args.segments.now) xs
    = subst (λ ss. IsPermutation (filter (is_proper K) c.args.segments.now) (map (λ s. s.segment) ss)) (sym c.deref.ensures.value) c.in_ok-spans.ensures.same in
    let pairs = pairs_permuted K (shares_itself K) (filter (is_proper K) c.args.segments.now) xs order in
    let most = c.vertices_of_spans.ensures.counted_at_most in
    (most.0, (let last = most.1 in omega (arith, last, pairs)))

pub returns-clause-too_many : goal.returns-clause-too_many
returns-clause-too_many g c =
    let K = g.W.Whole.numbers.ring in
    let xs = map (λ s. s.segment) c.deref.result.now in
    let order : IsPermutation (filter (is_proper K) c.args.segments.now) xs
    = subst (λ ss. IsPermutation (filter (is_proper K) c.args.segments.now) (map (λ s. s.segment) ss)) (sym c.deref.ensures.value) c.in_ok-spans.ensures.same in
    let proper = proper_permuted K c.args.segments.now xs order in
    IfErr-weaker c.vertices_of_spans.result _ _ (λ fault found e vertices all. found e vertices ((vertices_of_proper K c.args.segments.now xs proper vertices).0 all)) c.vertices_of_spans.ensures.too_many
