use Rattle.std.proofs.Common.{◌≡◌, subst, map}
use Rattle.arrangement.specs.Found.{Has}
use Rattle.arrangement.proofs.Adding.{insert_grows, insert_here, where_false}
use Rattle.arrangement.proofs.Growing.{has_kept}
use Rattle.sheet_check.proofs.SameLemmas.{none_has, not_false, not_true, only_new, some_has}
use Rattle.sheet_check.proofs.same.add.Goals as goal

pub returns-clause-has : goal.returns-clause-has
returns-clause-has g c = λ q.
    let K = g.W.Whole.numbers.ring in
    let old = c.args.found.now.keys in
    let new = c.insert.new.self.keys in
    has_kept K (λ p. p ≡ c.vertex_at.result.point) (map (λ v. v.point) old) (map (λ v. v.point) new) q
    (insert_grows K (λ u. u.point) old new c.vertex_at.result c.in_ok-new.new c.in_ok-new.ensures.added
    (where_false c.in_ok-new.new (new ≡ old) c.in_ok-new.ensures.unchanged) c.in_ok-new.ensures.keys)

pub returns-clause-here : goal.returns-clause-here
returns-clause-here g c =
    let old = c.args.found.now.keys in
    let new = c.insert.new.self.keys in
    subst (Has g.W.Whole.numbers.ring (map (λ v. v.point) new)) c.vertex_at.ensures
    (insert_here g.W.Whole.numbers.ring (λ u. u.point) old new c.vertex_at.result c.in_ok-new.ensures.keys)

pub returns-clause-only : goal.returns-clause-only
returns-clause-only g c = λ q h.
    let K = g.W.Whole.numbers.ring in
    let old = c.args.found.now.keys in
    let new = c.insert.new.self.keys in
    only_new K (map (λ v. v.point) old) (map (λ v. v.point) new) c.vertex_at.result.point c.args.point c.vertex_at.ensures
    (insert_grows K (λ u. u.point) old new c.vertex_at.result c.in_ok-new.new c.in_ok-new.ensures.added
    (where_false c.in_ok-new.new (new ≡ old) c.in_ok-new.ensures.unchanged) c.in_ok-new.ensures.keys) q h

pub returns-clause-was : goal.returns-clause-was
returns-clause-was g c = λ no.
    let K = g.W.Whole.numbers.ring in
    subst (Has K (map (λ v. v.point) c.args.found.now.keys)) c.vertex_at.ensures
    (some_has K (λ u. u.point) c.args.found.now.keys c.vertex_at.result (not_false c.in_ok-new.new _ c.in_ok-new.ensures.added no))

pub returns-clause-is_new : goal.returns-clause-is_new
returns-clause-is_new g c = λ yes.
    let K = g.W.Whole.numbers.ring in
    subst (λ p. ¬ Has K (map (λ v. v.point) c.args.found.now.keys) p) c.vertex_at.ensures
    (none_has K (λ u. u.point) c.args.found.now.keys c.vertex_at.result (not_true c.in_ok-new.new _ c.in_ok-new.ensures.added yes))
