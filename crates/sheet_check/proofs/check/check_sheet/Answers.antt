use Rattle.std.proofs.Common.{length, subst, sym}
use Rattle.sheet_check.specs.Spans.{AreInRange}
use Rattle.sheet_check.proofs.CheckLemmas.{all_scaled, ends_in_range, few_points}
use Rattle.sheet_check.proofs.check.check_sheet.Goals as goal

pub check_scaled-requires-clause-scaled : goal.check_scaled-requires-clause-scaled
check_scaled-requires-clause-scaled g c = all_scaled g.N.Exact.parts g.N.Ring.Whole.numbers c.args.ends c.args.faces c.in_ok-scaled.scaled c.in_ok-scaled.ensures.scaled

pub check_scaled-requires-clause-ends : goal.check_scaled-requires-clause-ends
check_scaled-requires-clause-ends g c = subst (AreInRange (length c.in_ok-scaled.scaled.points)) (sym c.as_slice.ensures) (ends_in_range g.N.Exact.parts g.N.Ring.Whole.numbers c.args.ends c.args.faces c.in_ok-scaled.scaled c.in_ok-scaled.ensures.scaled c.requires)

pub check_scaled-requires-clause-few_vertices : goal.check_scaled-requires-clause-few_vertices
check_scaled-requires-clause-few_vertices g c = few_points g.N.Exact.parts g.N.Ring.Whole.numbers c.args.ends c.args.faces c.in_ok-scaled.scaled c.in_ok-scaled.ensures.scaled c.requires
