use Rattle.std.proofs.Common.{◌≡◌, ◌==◌, ◌∷◌, [], ◌++◌, ◌||◌, ◌&&◌, List, ℕ, Bool, true, subst, sym, ap, ◌∙◌, refl, length, Some}
use Rattle.std.specs.BTreeMap.{get}
use Rattle.std.specs.BTreeSet.{UpdatesBy}
use Rattle.std.specs.Cmp.Lexicographic.{slice_cmp}
use Rattle.std.specs.Ordering.{nat_cmp}
use Rattle.std.specs.Prelude.{if◌then◌else◌}
use Rattle.std.specs.Str.{bytes_eq}
use Rattle.std.specs.String.{string_bytes, string_cmp}
use Rattle.std.proofs.lemmas.List.{same_from_push}
use Rattle.json_tree.specs.declared.tree.Member.{Member}
use Rattle.json_read.specs.Fnv.{fnv_1a}
use Rattle.json_read.specs.Keys.{finds}
use Rattle.json_read.specs.declared.key_index.KeyIndex.{KeyIndex}
use Rattle.json_read.proofs.KeyPlaces.{placed, put_aside}
use Rattle.json_read.proofs.key_index.KeyIndex.add_last.Goals as goal

-- the same for any way to take the last member off
parts : (index after : KeyIndex) (members b : List Member) (l : Member) → members ≡ b ++ l ∷ [] → ((key : List ℕ) → finds after (b ++ l ∷ []) key ≡ (finds index b key || bytes_eq l.key key))
    → (before : List Member) (last : Member) (key : List ℕ) → members ≡ before ++ last ∷ [] → finds after members key ≡ (finds index before key || bytes_eq last.key key)
parts index after members b l s more before last key e =
    let same = same_from_push b before l last (sym s ∙ e) in
    ap (λ ms. finds after ms key) s ∙ more key ∙ ap (λ ms. finds index ms key || bytes_eq l.key key) same.0 ∙ ap (λ (m : Member). finds index before key || bytes_eq m.key key) same.1

pub returns-in_ok-insert-clause-added : goal.returns-in_ok-insert-clause-added
returns-in_ok-insert-clause-added c =
    let index = c.args.self.now in
    let after : KeyIndex = record { places = c.put_new.new.places; others = c.insert.new.self } in
    let last = c.in-Some.last.now in
    let kept : (other : ℕ) → get nat_cmp after.places other ≡ get nat_cmp index.places other =
    λ other. c.in_ok-put_new.ensures.put other ∙ ap (λ (b : Bool). if b && (other == c.fnv_1a.result) then Some (length c.in-Some.before.now) else get nat_cmp index.places other) c.if-not-branch.true in
    let copied = c.in_ok-copy.ensures.ok ∙ c.as_str.ensures in
    let updates = subst (λ bytes. UpdatesBy string_cmp (λ k. slice_cmp nat_cmp bytes (string_bytes k)) index.others after.others true) copied c.in_ok-insert.ensures.updates in
    parts index after c.args.members.now c.in-Some.before.now last c.in-Some.ensures.cases.0 (put_aside index after c.in-Some.before.now last kept updates)

pub returns-else-not-branch-clause-added : goal.returns-else-not-branch-clause-added
returns-else-not-branch-clause-added c =
    let index = c.args.self.now in
    let after : KeyIndex = record { places = c.put_new.new.places; others = index.others } in
    let last = c.in-Some.last.now in
    let put = λ (other : ℕ). c.in_ok-put_new.ensures.put other ∙ ap (λ (b : Bool). if b && (other == c.fnv_1a.result) then Some (length c.in-Some.before.now) else get nat_cmp index.places other) c.if-not-branch.false in
    let hash : c.fnv_1a.result ≡ fnv_1a last.key = c.fnv_1a.ensures ∙ ap fnv_1a c.bytes.ensures.same in
    let free = sym c.in_ok-put_new.ensures.test ∙ c.if-not-branch.false in
    parts index after c.args.members.now c.in-Some.before.now last c.in-Some.ensures.cases.0 (placed index after c.in-Some.before.now last c.fnv_1a.result hash free put refl)
