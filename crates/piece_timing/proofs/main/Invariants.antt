use Rattle.piece_timing.proofs.main.Given as goal

abbrev pub ghosts-cut : goal.ghosts-cut
ghosts-cut a = record { name = a.blank.name; parts = a.blank.parts }
