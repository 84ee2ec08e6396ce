-- the option that says how coordinates are read as exact numbers
use Rattle.std.specs.Prelude.{◌≡◌, ℕ, List, ◌++◌, codes}
use Rattle.std.specs.Fmt.{decimal}
use Rattle.fold_commands.specs.declared.number_option.NumberChoice.{NumberChoice}
use Rattle.fold_commands.specs.declared.number_option.NumberChoice.TheVariants.{Exact, Grid, RootTwo, RootThree}

-- the text that names a choice: a rule, and behind a colon the number that it divides by, in digits
abbrev pub text_of : NumberChoice → List ℕ
text_of Exact = codes "exact"
text_of (Grid n) = codes "grid:" ++ decimal n.value
text_of (RootTwo n) = codes "root2:" ++ decimal n.value
text_of (RootThree n) = codes "root3:" ++ decimal n.value

abbrev pub NamesChoice : List ℕ → NumberChoice → Type 0
NamesChoice text choice = text ≡ text_of choice
