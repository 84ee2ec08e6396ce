use Rattle.plane_tests.proofs.meeting.between.Given as goal

abbrev pub ghosts-common : goal.ghosts-common
ghosts-common g a = record { name = a.blank.name; parts = a.blank.parts }
