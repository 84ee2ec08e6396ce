-- what holds of each item of a list holds of a list with one item more
use Rattle.std.proofs.Common.{All, List, [], ◌∷◌, ◌++◌, ◌≡◌, sym, subst}
use Rattle.std.proofs.lemmas.List.Elements.{All-nil, All-cons, All-append}

pub with_last : {A : Type 0} (P : A → Type 0) (earlier later : List A) (item : A) → All P earlier → P item → later ≡ earlier ++ item ∷ [] → All P later
with_last P earlier later item all last e = subst (All P) (sym e) (All-append P earlier (item ∷ []) all (All-cons P item [] last (All-nil P)))
