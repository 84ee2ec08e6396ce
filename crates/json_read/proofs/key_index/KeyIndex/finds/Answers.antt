use Rattle.std.proofs.Common.{◌≡◌, ◌||◌, ap, sym, ◌∙◌, None, Some}
use Rattle.std.specs.BTreeSet.{contains_text}
use Rattle.json_read.specs.Fnv.{fnv_1a}
use Rattle.json_read.proofs.KeyPlaces.{looked_up}
use Rattle.json_read.proofs.key_index.KeyIndex.finds.Goals as goal

pub returns-then-stands_at : goal.returns-then-stands_at
returns-then-stands_at c =
    let key = c.args.key.now in
    let hash : c.fnv_1a.result ≡ fnv_1a key = c.fnv_1a.ensures ∙ ap fnv_1a c.as_bytes.ensures.value in
    let found = sym c.stands_at.ensures ∙ c.if-stands_at.true in
    c.if-stands_at.true ∙ ap (λ f. f || contains_text c.args.self.now.others key) (sym found)
    ∙ looked_up c.args.self.now c.args.members.now key c.fnv_1a.result (Some c.in-Some.place.now) hash c.in-Some.ensures.value

pub returns-else-stands_at : goal.returns-else-stands_at
returns-else-stands_at c =
    let key = c.args.key.now in
    let hash : c.fnv_1a.result ≡ fnv_1a key = c.fnv_1a.ensures ∙ ap fnv_1a c.as_bytes.ensures.value in
    let found = sym c.stands_at.ensures ∙ c.if-stands_at.false in
    c.contains.ensures ∙ ap (λ f. f || contains_text c.args.self.now.others key) (sym found)
    ∙ looked_up c.args.self.now c.args.members.now key c.fnv_1a.result (Some c.in-Some.place.now) hash c.in-Some.ensures.value

pub returns-in-None : goal.returns-in-None
returns-in-None c =
    let key = c.args.key.now in
    let hash : c.fnv_1a.result ≡ fnv_1a key = c.fnv_1a.ensures ∙ ap fnv_1a c.as_bytes.ensures.value in
    c.contains-in-None.ensures ∙ looked_up c.args.self.now c.args.members.now key c.fnv_1a.result None hash c.in-None.ensures.value
