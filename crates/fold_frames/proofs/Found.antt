-- what is so of all entries is so of one that is found
use Rattle.std.proofs.Common.{◌≡◌, ℕ, List, [], ◌∷◌, cond, sym, ◌∙◌, ap, subst, refl, Bool, true, false, Option, Some, None, Bor}
use Rattle.std.specs.Prelude.{find, option_map, IfSome}
use Rattle.std.specs.Option.{option_copied}
use Rattle.std.specs.List.{AllByRecursion}
use Rattle.std.specs.Str.{bytes_eq}
use Rattle.std.proofs.lemmas.Option.{same_Some}
use Rattle.std.proofs.lemmas.Slice.Eq.{bytes_eq-Decides}
use Rattle.fold_keys.specs.declared.value.Entry.{Entry}
use Rattle.fold_keys.specs.declared.value.Value.{Value}
use Rattle.fold_frames.specs.Parents.{value_at}

pub value_head : (e : Entry) (es : List Entry) (key : List ℕ) → bytes_eq e.key key ≡ true
    → value_at (e ∷ es) key ≡ Some e.value
value_head e es key h =
    ap (λ b. option_map (λ e. e.value) (cond b (Some e) (find (λ e. bytes_eq e.key key) es))) h

pub value_tail : (e : Entry) (es : List Entry) (key : List ℕ) → bytes_eq e.key key ≡ false
    → value_at (e ∷ es) key ≡ value_at es key
value_tail e es key h =
    ap (λ b. option_map (λ e. e.value) (cond b (Some e) (find (λ e. bytes_eq e.key key) es))) h

pub found_entry : (P : Entry → Type 0) (es : List Entry) (key : List ℕ) (value : Value)
    → AllByRecursion P es → value_at es key ≡ Some value
    → P (record { key = key; value = value })
found_entry P [] key value all is = cc
found_entry P (e ∷ es) key value all is = at (bytes_eq e.key key) refl (found_entry P es key value all.1)
  where
    at : (b : Bool) → bytes_eq e.key key ≡ b
        → (value_at es key ≡ Some value → P (record { key = key; value = value }))
        → P (record { key = key; value = value })
    at true h rest =
        let same : e.value ≡ value = same_Some e.value value (sym (value_head e es key h) ∙ is) in
        let word : e.key ≡ key = (bytes_eq-Decides e.key key).0 h in
        subst P (λ i. record { key = word i; value = same i }) all.0
    at false h rest = rest (sym (value_tail e es key h) ∙ is)

pub found_under : (P : Entry → Type 0) (es : List Entry) (key : List ℕ)
    (result : Option (Bor Value)) → AllByRecursion P es → option_copied result ≡ value_at es key
    → IfSome result (λ value. P (record { key = key; value = value.now }))
found_under P es key None all is = tt
found_under P es key (Some value) all is = found_entry P es key value.now all (sym is)
