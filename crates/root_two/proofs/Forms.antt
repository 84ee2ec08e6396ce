-- What a chain of checked operations gives, from what each of them gives.
use mathlib.Core.List.{List, [], ◌∷◌, ◌++◌}
use mathlib.Core.Path.{◌≡◌, refl, sym, subst, ◌∙◌}
use Prim.Native.Nat.{ℕ, zero, suc}
use lib.IntN.{ℤ}
use Rattle.std.specs.Prelude.{Result, Ok, Err, Option, Some, None, IsSome, FitsSigned}
use Rattle.std.specs.Int.{w128}
use Rattle.std.specs.Result.{OkIff}
use Rattle.exact_number.specs.WideForms.{AllFit, by_root}
use Rattle.root_two.specs.declared.radicand.Radicand.{Ghosts}
use Rattle.root_two.specs.Roots.{not_one}

pub fit_together : (ns ms : List ℤ) → AllFit ns → AllFit ms → AllFit (ns ++ ms)
fit_together [] ms h k = k
fit_together (n ∷ ns) ms h k = (h.0, fit_together ns ms h.1 k)

pub later_fit : (ns ms : List ℤ) → AllFit (ns ++ ms) → AllFit ms
later_fit [] ms h = h
later_fit (n ∷ ns) ms h = later_fit ns ms h.1

-- the last number w that is formed, after the others fitted; the code computed it as v
pub last_formed : {E : Type 0} (r : Result ℤ E) (ns : List ℤ) (v w : ℤ) → v ≡ w → AllFit ns → OkIff r (FitsSigned w128 v) v → OkIff r (AllFit (ns ++ w ∷ [])) w
last_formed (Ok x) ns v w e h ok = (fit_together ns (w ∷ []) h (subst (FitsSigned w128) e ok.0, tt), ok.1 ∙ e)
last_formed (Err x) ns v w e h ok = λ all. ok (subst (FitsSigned w128) (sym e) (later_fit ns (w ∷ []) all).0)

-- none, where the fact does not hold
pub none_unless : {T : Type 0} (r : Option T) (P : Type 0) → r ≡ None → ¬ P → (IsSome r → P) × (P → IsSome r)
none_unless (Some x) P e h = absurd (cc)
none_unless None P e h = (λ s. absurd (cc), λ p. absurd (h p))

-- facts of three or four numbers, followed by those of more
pub three_then : {A B C R : Type 0} → A × (B × (C × Unit {0})) → R → A × (B × (C × R))
three_then h k = (h.0, (h.1.0, (h.1.1.0, k)))

pub four_then : {A B C D R : Type 0} → A × (B × (C × (D × Unit {0}))) → R → A × (B × (C × (D × R)))
four_then h k = (h.0, three_then h.1 k)

-- wide forms over √k are those of roots
by_root_is : (k : ℕ) (rational root : List ℤ) → ¬ (k ≡ 1) → by_root k rational root ≡ root
by_root_is zero rational root h = refl
by_root_is (suc zero) rational root h = absurd (h refl)
by_root_is (suc (suc k)) rational root h = refl

module _ {R : Type 0} (radicand : Ghosts R) (rational root : List ℤ) where
  pub from_wide : AllFit (by_root radicand.K rational root) → AllFit root
  from_wide h = subst AllFit (by_root_is radicand.K rational root (not_one radicand)) h

  pub to_wide : AllFit root → AllFit (by_root radicand.K rational root)
  to_wide h = subst AllFit (sym (by_root_is radicand.K rational root (not_one radicand))) h
