use Rattle.crease_input.proofs.Drawn.{made_writable}
use Rattle.crease_input.proofs.file.drawing_file.Goals as goal

pub file_of-requires : goal.file_of-requires
file_of-requires g c =
    made_writable g.N.Exact.ROOT g.N.Exact.parts c.args.class.now c.args.ends.now _ _ _ _ _ _ _ _ _ c.requires
    c.as_slice.ensures c.as_slice-2.ensures c.in_ok-entries.ensures c.in_ok-put_vertices.ensures
    c.in_ok-put_edges.ensures c.in_ok-put_faces.ensures c.in_ok-put_orders.ensures
