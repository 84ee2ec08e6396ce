use Rattle.sheet_check.proofs.least.least_meeting.Given as goal

abbrev pub ghosts-counted_least : goal.ghosts-counted_least
ghosts-counted_least g a = record { name = a.blank.name; parts = 1 }
