use Rattle.drawing_repair.proofs.cutting.cut_ends.Given as goal

abbrev pub ghosts-counted_pieces : goal.ghosts-counted_pieces
ghosts-counted_pieces g a = record { name = a.blank.name; parts = a.blank.parts }
