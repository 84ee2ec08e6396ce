use Rattle.std.proofs.Common.{refl}
use Rattle.fold_commands.proofs.writable.narrow_vertices_are_writable.Goals as goal

pub returns : goal.returns
returns c = record {
  rational = λ ends flat faces v. c.vertices_can_be_written.ensures.rational refl flat ends faces v;
  over_two = λ ends narrow flat faces v. c.vertices_can_be_written-2.ensures.narrow flat ends faces v narrow;
  over_three = λ ends narrow flat faces v. c.vertices_can_be_written-3.ensures.narrow flat ends faces v narrow;
}
