-- Sets of letters.
use Rattle.std.specs.Prelude.{Bool}
use Rattle.fold_base.specs.declared.letter.Letter.{Letter}
use Rattle.fold_base.specs.declared.letter.Letter.TheVariants.{Border, Mountain, Valley, Flat, Unassigned, Cut, Join}
use Rattle.arrangement.specs.declared.letters.Letters.{Letters}

-- whether the set has the letter
abbrev pub has : Letters → Letter → Bool
has set Border = set.border
has set Mountain = set.mountain
has set Valley = set.valley
has set Flat = set.flat
has set Unassigned = set.unassigned
has set Cut = set.cut
has set Join = set.join
