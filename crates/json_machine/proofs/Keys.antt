-- which keys an object has, and that each key in hand can go on to a new one
use Rattle.std.proofs.Common.{◌≡◌, ℕ, zero, suc, ◌+◌, ◌<◌, List, [], ◌∷◌, ◌++◌, length, replicate, refl, sym, ap, subst, append_assoc, arith, ◌⊎◌, inl, inr, Bool, true, false, ◌||◌, bytes_eq, length-append, encode_utf8_all}
use Rattle.std.specs.List.{Contains}
use Rattle.std.proofs.lemmas.List.{append-nil, length-replicate}
use Rattle.std.proofs.lemmas.Slice.Eq.{bytes_eq-Decides}
use Rattle.std.proofs.lemmas.Str.{length-le-encodes, encode_ascii}
use lib.Utf8.{low_scalar}
use Rattle.json_tree.specs.Tree.{keys, HasKey}
use Rattle.json_tree.specs.Word.{SpellsCharacters, more, itself}
use Rattle.json_tree.specs.declared.tree.Member.{Member}
use Rattle.json_machine.specs.Machine.{has_key}

contains_cons : (x y : List ℕ) (xs : List (List ℕ)) → Contains (x ∷ xs) y → (x ≡ y) ⊎ Contains xs y
contains_cons x y xs (zero, within, e) = inl e
contains_cons x y xs (suc k, within, e) = inr (k, omega arith, e)

contains_later : (x y : List ℕ) (xs : List (List ℕ)) → Contains xs y → Contains (x ∷ xs) y
contains_later x y xs c = (suc c.0, omega (arith, c.1), c.2)

either : (a b : Bool) → (a || b) ≡ true → (a ≡ true) ⊎ (b ≡ true)
either true b e = inl refl
either false b e = inr e

pub has_key_found : (key : List ℕ) (members : List Member) → has_key key members ≡ true → HasKey members key
has_key_found key [] e = cc
has_key_found key (m ∷ members) e = elim (either (bytes_eq m.key key) (has_key key members) e) [
  | inl here ↦ (0, omega arith, (bytes_eq-Decides m.key key).0 here)
  | inr later ↦ contains_later m.key key (keys members) (has_key_found key members later)
]

pub no_key_found : (key : List ℕ) (members : List Member) → has_key key members ≡ false → ¬ HasKey members key
no_key_found key [] e has = omega (arith, has.1)
no_key_found key (m ∷ members) e has = elim (contains_cons m.key key (keys members) has) [
  | inl here ↦ let yes = (bytes_eq-Decides m.key key).1 here in let t : has_key key (m ∷ members) ≡ true = ap (λ (r : Bool). r || has_key key members) yes in cc
  | inr later ↦ no_key_found key members (rest (bytes_eq m.key key) (has_key key members) e) later
]
  where
    rest : (a b : Bool) → (a || b) ≡ false → b ≡ false
    rest true b e = cc
    rest false b e = e

pub new_key : (key : List ℕ) (members : List Member) → ¬ HasKey members key → has_key key members ≡ false
new_key key members lacks = by_test (has_key key members) refl
  where
    by_test : (r : Bool) → has_key key members ≡ r → has_key key members ≡ false
    by_test true e = absurd (lacks (has_key_found key members e))
    by_test false e = e

-- ---- a key that is longer than each other is new

pub all_lengths : List Member → ℕ
all_lengths [] = 0
all_lengths (m ∷ members) = length m.key + all_lengths members

pub longer_is_new : (key : List ℕ) (members : List Member) → all_lengths members < length key → ¬ HasKey members key
unfolding all_lengths
longer_is_new key [] less has = omega (arith, has.1)
longer_is_new key (m ∷ members) less has = elim (contains_cons m.key key (keys members) has) [
  | inl here ↦ omega (arith, ap length here)
  | inr later ↦ longer_is_new key members (omega arith) later
]

letter_more : (t cs : List ℕ) → SpellsCharacters t cs → SpellsCharacters (t ++ 97 ∷ []) (cs ++ 97 ∷ [])
letter_more t cs s = more t (97 ∷ []) cs 97 s
    (itself (record { scalar = low_scalar 97 (omega arith); no_control = omega arith; no_quote = λ e. omega arith; no_backslash = λ e. omega arith }) (sym (encode_ascii 97 (omega arith)))) refl refl

letters_more : (n : ℕ) (t cs : List ℕ) → SpellsCharacters t cs → SpellsCharacters (t ++ replicate n 97) (cs ++ replicate n 97)
letters_more zero t cs s = rw (append-nil t, append-nil cs) s
letters_more (suc n) t cs s =
    subst (λ x. SpellsCharacters x (cs ++ 97 ∷ replicate n 97)) (append_assoc t (97 ∷ []) (replicate n 97))
    (subst (SpellsCharacters ((t ++ 97 ∷ []) ++ replicate n 97)) (append_assoc cs (97 ∷ []) (replicate n 97)) (letters_more n (t ++ 97 ∷ []) (cs ++ 97 ∷ []) (letter_more t cs s)))

-- characters go on to a word that the object has no key like
pub goes_on_new : (members : List Member) (t cs : List ℕ) → SpellsCharacters t cs → (rest all : List ℕ) × SpellsCharacters (t ++ rest) all × ¬ HasKey members (encode_utf8_all all)
goes_on_new members t cs s =
    let n = suc (all_lengths members) in
    let all = cs ++ replicate n 97 in
    let long : all_lengths members < length (encode_utf8_all all) = omega (arith, length-le-encodes all, length-append cs (replicate n 97), length-replicate {A = ℕ} n 97) in
    (replicate n 97, all, letters_more n t cs s, longer_is_new (encode_utf8_all all) members long)
