use Rattle.std.proofs.Common.{◌≡◌, subst, map}
use Rattle.arrangement.specs.Found.{Grows, Has}
use Rattle.arrangement.proofs.Adding.{insert_grows, insert_here, where_false}
use Rattle.arrangement.proofs.Growing.{map_sorted}
use Rattle.arrangement.proofs.found.add.Goals as goal

pub returns-clause-grows : goal.returns-clause-grows
returns-clause-grows g c =
    let old = c.args.found.now.keys in
    let new = c.insert.new.self.keys in
    subst (λ q. Grows g.W.Whole.numbers.ring (λ p. p ≡ q) (map (λ v. v.point) old) (map (λ v. v.point) new)) c.vertex_at.ensures
    (insert_grows g.W.Whole.numbers.ring (λ u. u.point) old new c.vertex_at.result c.in_ok-insert.field-0 c.in_ok-insert.ensures.added
    (where_false c.in_ok-insert.field-0 (new ≡ old) c.in_ok-insert.ensures.unchanged) c.in_ok-insert.ensures.keys)

pub returns-clause-has : goal.returns-clause-has
returns-clause-has g c =
    let old = c.args.found.now.keys in
    let new = c.insert.new.self.keys in
    subst (Has g.W.Whole.numbers.ring (map (λ v. v.point) new)) c.vertex_at.ensures
    (insert_here g.W.Whole.numbers.ring (λ u. u.point) old new c.vertex_at.result c.in_ok-insert.ensures.keys)

pub returns-clause-sorted : goal.returns-clause-sorted
returns-clause-sorted g c = map_sorted g.W.Whole.numbers.ring (λ v. v.point) c.insert.new.self.keys c.insert.ensures.ordered

pub returns-in_err-insert-clause-sorted : goal.returns-in_err-insert-clause-sorted
returns-in_err-insert-clause-sorted g c = map_sorted g.W.Whole.numbers.ring (λ v. v.point) c.insert.new.self.keys c.insert.ensures.ordered
