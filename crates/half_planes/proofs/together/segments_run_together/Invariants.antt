use Rattle.half_planes.proofs.together.segments_run_together.Given as goal

abbrev pub ghosts-share_stretch : goal.ghosts-share_stretch
ghosts-share_stretch g a = record { name = a.blank.name; parts = a.blank.parts }
