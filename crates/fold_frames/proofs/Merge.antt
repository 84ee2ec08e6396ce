-- Entries put to others, seen through what their keys and values are shown as.
use Rattle.std.proofs.Common.{◌≡◌, ℕ, List, [], ◌∷◌, ◌++◌, map, filter, refl, sym, ◌∙◌, ap, ap₂, Bool, true, false, cond, Result, Ok, Err, OnOk}
use Rattle.std.specs.Prelude.{if◌then◌else◌, not, is_ok}
use Rattle.std.specs.Str.{bytes_eq}
use Rattle.std.proofs.lemmas.List.{map-append}
use Rattle.std.proofs.lemmas.List.Elements.{filter-append}
use Rattle.indexmap.specs.IndexMap.{insert_entry, insert_all}
use Rattle.fold_keys.specs.declared.value.Value.{Value}
use Rattle.fold_keys.specs.declared.value.Entry.{Entry}
use Rattle.fold_frames.specs.Inherits.{pairs, given, is_left_out}

module _ {K V A B : Type 0} (eq : K → K → Bool) (shown_eq : A → A → Bool) (key : K → A) (value : V → B) (same : (x y : K) → eq x y ≡ shown_eq (key x) (key y)) where
  abbrev shown : List (K × V) → List (A × B)
  shown es = map (λ e. (key e.0, value e.1)) es

  pub shown_insert : (es : List (K × V)) (k : K) (v : V) → shown (insert_entry eq es k v) ≡ insert_entry shown_eq (shown es) (key k) (value v)
  shown_insert [] k v = refl
  shown_insert (e ∷ es) k v = at (eq k e.0) refl (shown_insert es k v)
    where
      at : (b : Bool) → eq k e.0 ≡ b → shown (insert_entry eq es k v) ≡ insert_entry shown_eq (shown es) (key k) (value v) → shown (insert_entry eq (e ∷ es) k v) ≡ insert_entry shown_eq (shown (e ∷ es)) (key k) (value v)
      at true h rest =
          ap (λ (b : Bool). shown (if b then (e.0, v) ∷ es else e ∷ insert_entry eq es k v)) h
          ∙ ap (λ (b : Bool). if b then (key e.0, value v) ∷ shown es else (key e.0, value e.1) ∷ insert_entry shown_eq (shown es) (key k) (value v)) (sym h ∙ same k e.0)
      at false h rest =
          ap (λ (b : Bool). shown (if b then (e.0, v) ∷ es else e ∷ insert_entry eq es k v)) h
          ∙ ap (λ es'. (key e.0, value e.1) ∷ es') rest
          ∙ ap (λ (b : Bool). if b then (key e.0, value v) ∷ shown es else (key e.0, value e.1) ∷ insert_entry shown_eq (shown es) (key k) (value v)) (sym h ∙ same k e.0)

pub insert_all_append : {K V : Type 0} (eq : K → K → Bool) (es xs ys : List (K × V)) → insert_all eq es (xs ++ ys) ≡ insert_all eq (insert_all eq es xs) ys
insert_all_append eq es [] ys = refl
insert_all_append eq es (x ∷ xs) ys = insert_all_append eq (insert_entry eq es x.0 x.1) xs ys

pub given_append : (xs ys : List Entry) → given (xs ++ ys) ≡ given xs ++ given ys
given_append xs ys = ap (map (λ e. (e.key, e.value))) (filter-append (λ e. not (is_left_out e.key)) xs ys) ∙ map-append (λ e. (e.key, e.value)) (filter (λ e. not (is_left_out e.key)) xs) (filter (λ e. not (is_left_out e.key)) ys)

-- the entries so far, and one more
pub put_more : (es old new : List (List ℕ × Value)) (xs : List Entry) (x : Entry) → es ≡ insert_all bytes_eq old (given xs) → new ≡ insert_all bytes_eq es (given (x ∷ [])) → new ≡ insert_all bytes_eq old (given (xs ++ x ∷ []))
put_more es old new xs x e n = n ∙ ap (λ z. insert_all bytes_eq z (given (x ∷ []))) e ∙ sym (insert_all_append bytes_eq old (given xs) (given (x ∷ []))) ∙ ap (insert_all bytes_eq old) (sym (given_append xs (x ∷ [])))

pub given_one : (e : Entry) → is_left_out e.key ≡ false → given (e ∷ []) ≡ (e.key, e.value) ∷ []
given_one e h = ap (λ b. map (λ e. (e.key, e.value)) (cond (not b) (e ∷ []) [])) h

pub inserted : {T E : Type 0} (r : Result T E) (P : Type 0) → is_ok r ≡ true → OnOk r P → P
inserted (Ok x) P e h = h
inserted (Err x) P e h = cc

-- the entries copied so far, and one more
pub copied_more : {I E : Type 0} (shows : I → E) (f : E → List ℕ × Value) (es pushed : List Entry)
    (items : List I) (i : I) (e : Entry) → pairs es ≡ map f (map shows items)
    → pushed ≡ es ++ e ∷ [] → (let p : List ℕ × Value = (e.key, e.value) in p ≡ f (shows i))
    → pairs pushed ≡ map f (map shows (items ++ i ∷ []))
copied_more shows f es pushed items i e before push here =
    ap pairs push ∙ map-append (λ e. (e.key, e.value)) es (e ∷ [])
    ∙ ap₂ (λ xs x. xs ++ x ∷ []) before here
    ∙ sym (map-append f (map shows items) (shows i ∷ []))
    ∙ ap (map f) (sym (map-append shows items (i ∷ [])))
