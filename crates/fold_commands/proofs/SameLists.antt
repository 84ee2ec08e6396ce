-- lists of ids are compared one by one
use Rattle.std.proofs.Common.{◌≡◌, ◌≢◌, ◌∙◌, ap, refl, sym, subst, ℕ, suc, ◌+◌, ◌<◌, ◌≤◌, List, [], ◌∷◌, ◌++◌, length, take, get_or, Bool, true, false, Bor, Option, Some, None, codes, arith}
use Rattle.std.specs.Prelude.{option_map, ◌==◌}
use Rattle.std.specs.Bool.{Decides}
use Rattle.std.specs.Cmp.{unsigned_Decides}
use Rattle.std.specs.Option.{option_eq}
use Rattle.std.proofs.lemmas.List.{take_all, take_more}
use Rattle.std.proofs.lemmas.Option.{same_Some}
use Rattle.fold_keys.specs.declared.value.Value.{Value}
use Rattle.fold_keys.specs.declared.value.Value.TheVariants as values

pub ids_decided : (a b : Option ℕ) → Decides (option_eq (λ x y. x == y) a b) (a ≡ b)
ids_decided None None = (λ h. refl, λ h. refl)
ids_decided None (Some y) = (λ h. cc, λ h. cc)
ids_decided (Some x) None = (λ h. cc, λ h. cc)
ids_decided (Some x) (Some y) = (λ h. ap Some ((unsigned_Decides x y).0 h), λ h. (unsigned_Decides x y).1 (same_Some x y h))

-- one list more is the same
pub same_more : {X : Type 0} (xs ys : List X) (i : ℕ) (d : X) → i < length xs → length xs ≡ length ys → take i xs ≡ take i ys
    → get_or xs i d ≡ get_or ys i d → take (i + 1) xs ≡ take (i + 1) ys
same_more xs ys i d within long before here =
    take_more xs i d within ∙ (λ j. before j ++ here j ∷ []) ∙ sym (take_more ys i d (omega (arith, within, long)))

pub same_all : {X : Type 0} (xs ys : List X) (i : ℕ) → length xs ≤ i → length xs ≡ length ys → take i xs ≡ take i ys → xs ≡ ys
same_all xs ys i over long before =
    sym (take_all i xs over) ∙ before ∙ take_all i ys (omega (arith, over, long))

-- faces by their lists
lists_of : Value → List (List (Option ℕ))
lists_of (values.IdLists lists) = lists
lists_of value = []

same_lists : (xs ys : List (List (Option ℕ))) → Some (values.IdLists xs) ≡ Some (values.IdLists ys) → xs ≡ ys
unfolding lists_of
same_lists xs ys e = ap lists_of (same_Some (values.IdLists xs) (values.IdLists ys) e)

pub same_faces : (b : Bool) (xs ys : List (List (Option ℕ))) (v w : Option Value) → Some (values.IdLists xs) ≡ v → Some (values.IdLists ys) ≡ w
    → Decides b (xs ≡ ys) → Decides b (v ≡ w)
same_faces b xs ys v w p q d = (
  (λ h. sym p ∙ ap (λ l. Some (values.IdLists l)) (d.0 h) ∙ q),
  (λ e. d.1 (same_lists xs ys (p ∙ e ∙ sym q))),
)
