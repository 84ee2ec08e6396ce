use Rattle.std.proofs.Common.{◌≡◌, [], ◌∷◌, ◌++◌, List, Option, Some, None, sym, ◌∙◌, ap}
use Rattle.std.specs.Prelude.{MatchOption}
use Rattle.std.proofs.lemmas.List.{same_from_push}
use Rattle.json_tree.specs.declared.tree.Member.{Member}
use Rattle.json_machine.specs.Machine.{has_key}
use Rattle.json_read.specs.Keys.{finds}
use Rattle.json_read.proofs.members.KeyedMembers.push.Goals as goal

popped : (list pushed now : List Member) (member : Member) (taken : Option Member) → pushed ≡ list ++ member ∷ [] → MatchOption taken ((pushed ≡ []) × (now ≡ [])) (λ last. pushed ≡ now ++ last ∷ []) → now ≡ list
popped [] pushed now member None p e = cc
popped (m ∷ list) pushed now member None p e = cc
popped list pushed now member (Some last) p e = (same_from_push now list last member (sym e ∙ p)).0

pub invariant_of-self-in-Err : goal.invariant_of-self-in-Err
invariant_of-self-in-Err c = λ key.
    let members = c.self.inside in
    let same = popped members.list c.push.new.self c.pop.new.self c.args.member c.pop.result c.in_ok-push.ensures.ok c.pop.ensures in
    c.in-Err.ensures.kept c.pop.new.self key ∙ ap (λ ms. finds members.index ms key) same ∙ c.self.invariant key ∙ ap (has_key key) (sym same)
