use Rattle.fold_commands.proofs.Narrow.{refuses_no_narrow}
use Rattle.fold_commands.proofs.writable.narrow_drawings_can_be_written.Goals as goal

pub returns : goal.returns
returns c = refuses_no_narrow c.narrow_vertices_are_writable.ensures
