use Rattle.std.proofs.Common.{◌≡◌, ◌∙◌, ◌++◌, ℕ, List, take, ap, sym, subst}
use Rattle.std.specs.Prelude.{◌↔◌, IsTrue}
use Rattle.sheet_check.proofs.ListingLemmas.{begun_none, begun_when}
use Rattle.sheet_check.proofs.listing.is_begun_at.Goals as goal

pub returns-in-Some : goal.returns-in-Some
returns-in-Some c =
    let corners = c.args.corners.now in
    let front : List ℕ = take c.args.place c.args.walk.now in
    subst (λ (b : List ℕ). IsTrue c.eq.result ↔ (corners ≡ b ++ front)) c.split_at.ensures.back
    (subst (λ (f : List ℕ). IsTrue c.eq.result ↔ (corners ≡ c.split_at.result.1.now ++ f)) c.split_at.ensures.front
    (begun_when corners c.split_at.result.0.now c.split_at.result.1.now c.in-Some.rest.now c.eq.result c.in-Some.ensures.cases.0 c.in-Some.ensures.cases.1 c.eq.ensures))

pub returns-in-None : goal.returns-in-None
returns-in-None c =
    let corners = c.args.corners.now in
    let front : List ℕ = take c.args.place c.args.walk.now in (
      λ t. cc,
      λ e. absurd (begun_none corners front c.split_at.result.1.now c.in-None.ensures.cases (e ∙ ap (λ (b : List ℕ). b ++ front) (sym c.split_at.ensures.back))),
    )
