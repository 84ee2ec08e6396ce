use Rattle.std.proofs.Common.{◌≡◌, map}
use Rattle.std.proofs.lemmas.Result.{on_ok_weaker}
use Rattle.arrangement.proofs.Growing.{has_kept}
use Rattle.arrangement.proofs.Looping.{grows_ends, grows_first}
use Rattle.arrangement.proofs.found.add_both.Goals as goal

pub returns-in_err-add_few-clause-grows : goal.returns-in_err-add_few-clause-grows
returns-in_err-add_few-clause-grows g c =
    grows_first g.W.Whole.numbers.ring c.args.s (map (λ v. v.point) c.args.found.now.keys) (map (λ v. v.point) c.add_few.new.found.keys) c.add_few.ensures.grows

pub returns-clause-grows : goal.returns-clause-grows
returns-clause-grows g c =
    grows_ends g.W.Whole.numbers.ring c.args.s (map (λ v. v.point) c.args.found.now.keys) (map (λ v. v.point) c.add_few.new.found.keys) (map (λ v. v.point) c.add_few-2.new.found.keys)
    c.add_few.ensures.grows c.add_few-2.ensures.grows

pub returns-clause-has : goal.returns-clause-has
returns-clause-has g c =
    on_ok_weaker c.add_few-2.result
    (λ last. (
      has_kept g.W.Whole.numbers.ring (λ p. p ≡ c.args.s.to) (map (λ v. v.point) c.add_few.new.found.keys) (map (λ v. v.point) c.add_few-2.new.found.keys) c.args.s.from c.add_few-2.ensures.grows c.in_ok-add_few.ensures.has,
      last,
    ))
    c.add_few-2.ensures.has
