-- The half-edges of an arena, by their places: what each carries, and which comes after it.
use Rattle.std.specs.Prelude.{◌≡◌, ℕ, ◌+◌, ◌-◌, ◌%◌, ◌<◌, ◌≤◌, ◌^◌, ◌==◌, cond, List, length, slice_index, refl}
use Rattle.std.specs.Coded.{Coded, code_by, coded×, coded_list, coded_ℕ}

pub record Halves (P : Type 0) : Type 0 where
  pub payloads : List P
  pub nexts : List ℕ

abbrev pub halves_code : {P : Type 0} → Coded P → Coded (Halves P)
halves_code {P} code =
    code_by (List P × List ℕ) (coded× (coded_list code) (coded_list coded_ℕ)) (λ a. (a.payloads, a.nexts))
    (λ p. record { payloads = p.0; nexts = p.1 }) (λ _. refl)

-- of a pair the one is at an even place, and the other follows it
abbrev pub twin_of : ℕ → ℕ
twin_of h = cond (h % 2 == 0) (h + 1) (h - 1)

module _ {P : Type 0} (arena : Halves P) where
  abbrev pub count : ℕ
  count = length arena.nexts

  -- the half-edge that comes after h
  abbrev pub next_of : ℕ → ℕ
  next_of h = slice_index arena.nexts h

  -- Half-edges stand in pairs, and each comes after exactly one: there are finitely many, so that what comes after them is a
  -- permutation where no two have the same one after them.
  pub record IsArena : Type 0 where
    pub carried : length arena.payloads ≡ count
    pub in_pairs : count % 2 ≡ 0
    pub few : count ≤ 2 ^ 31
    pub within : (h : ℕ) → h < count → next_of h < count
    pub one_to_one : (g h : ℕ) → g < count → h < count → next_of g ≡ next_of h → g ≡ h
