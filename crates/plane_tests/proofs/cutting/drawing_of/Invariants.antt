use Rattle.plane_tests.proofs.cutting.drawing_of.Given as goal

abbrev pub ghosts-cut : goal.ghosts-cut
ghosts-cut g a = record { name = a.blank.name; parts = a.blank.parts }
