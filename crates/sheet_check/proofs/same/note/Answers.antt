use Rattle.std.proofs.Common.{map}
use Rattle.sheet_check.proofs.SameLemmas.{first_here, first_kept, not_repeated, one_more, points_of, read_at, repeated_here}
use Rattle.sheet_check.proofs.same.note.Goals as goal

pub returns-then-branch-clause-later : goal.returns-then-branch-clause-later
returns-then-branch-clause-later g c =
    let K = g.W.Whole.numbers.ring in
    let vs = c.args.vertices.now in
    let p = c.index-vertices-place.result in
    one_more K vs c.args.place c.requires.in_range (map (λ v. v.point) c.args.later.now.keys) (map (λ v. v.point) c.add.new.found.keys) p
    (read_at K vs c.args.place p c.requires.in_range c.index-vertices-place.is) c.requires.later c.in_ok-add.ensures.has c.in_ok-add.ensures.here c.in_ok-add.ensures.only

pub returns-else-branch-clause-later : goal.returns-else-branch-clause-later
returns-else-branch-clause-later g c =
    let K = g.W.Whole.numbers.ring in
    let vs = c.args.vertices.now in
    let p = c.index-vertices-place.result in
    one_more K vs c.args.place c.requires.in_range (map (λ v. v.point) c.args.later.now.keys) (map (λ v. v.point) c.add.new.found.keys) p
    (read_at K vs c.args.place p c.requires.in_range c.index-vertices-place.is) c.requires.later c.in_ok-add.ensures.has c.in_ok-add.ensures.here c.in_ok-add.ensures.only

pub returns-then-branch-clause-first : goal.returns-then-branch-clause-first
returns-then-branch-clause-first g c =
    let K = g.W.Whole.numbers.ring in
    let vs = c.args.vertices.now in
    let p = c.index-vertices-place.result in
    first_kept K vs c.args.place c.args.found
    (not_repeated K vs c.args.place c.requires.in_range (map (λ v. v.point) c.args.later.now.keys) (map (λ v. v.point) c.add.new.found.keys) p
    (read_at K vs c.args.place p c.requires.in_range c.index-vertices-place.is) (points_of g.W.Whole.numbers vs c.requires.scaled) c.requires.later
    (c.in_ok-add.ensures.is_new c.if-branch.true))
    c.requires.first

pub returns-else-branch-clause-first : goal.returns-else-branch-clause-first
returns-else-branch-clause-first g c =
    let K = g.W.Whole.numbers.ring in
    let vs = c.args.vertices.now in
    let p = c.index-vertices-place.result in
    first_here K vs c.args.place
    (repeated_here K vs c.args.place c.requires.in_range (map (λ v. v.point) c.args.later.now.keys) (map (λ v. v.point) c.add.new.found.keys) p
    (read_at K vs c.args.place p c.requires.in_range c.index-vertices-place.is) c.requires.later
    (c.in_ok-add.ensures.was c.if-branch.false))
