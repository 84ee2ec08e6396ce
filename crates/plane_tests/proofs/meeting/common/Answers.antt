use Rattle.plane_tests.proofs.meeting.common.Goals as goal

pub meet-requires-clause-first_proper : goal.meet-requires-clause-first_proper
meet-requires-clause-first_proper g c = λ same. let point = c.is_point.ensures.1 same in absurd (cc)

pub meet-requires-clause-second_proper : goal.meet-requires-clause-second_proper
meet-requires-clause-second_proper g c = λ same. let point = c.is_point-2.ensures.1 same in absurd (cc)
