use Rattle.plane_tests.proofs.meeting.exact_crossing.Given as goal

abbrev pub ghosts-common : goal.ghosts-common
ghosts-common g a = record { name = a.blank.name; parts = a.blank.parts }
