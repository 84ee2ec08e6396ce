use Rattle.fold_commands.proofs.near.read_near.Goals as goal

pub returns : goal.returns
returns g c = λ row is. c.answers_are_near.ensures g.N.Exact.ROOT g.N.Exact.parts row g.met.N.Exact.radicand g.met.N.Exact.holds is
