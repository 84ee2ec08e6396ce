-- a frame with all that it inherits, and what is so of every one
use Rattle.std.specs.Prelude.{◌≡◌, ℕ, List, true, false, refl}
use Rattle.std.specs.Coded.{Coded, code_by, coded×, coded_list, coded_ℕ}
use Rattle.std.specs.List.{AllByRecursion}
use Rattle.fold_keys.specs.Writable.{AreWritable}
use Rattle.fold_keys.specs.contracts.value.Entry as entry
use Rattle.fold_keys.specs.declared.value.Entry.{Entry}
use Rattle.fold_frames.specs.Inherits.{is_left_out}

-- the number of a frame in its file, and its entries
pub record FrameInEffect : Type 0 where
  pub frame : ℕ
  pub entries : List Entry

abbrev pub frame_code : Coded FrameInEffect
frame_code =
    code_by (ℕ × List Entry) (coded× coded_ℕ (coded_list entry.the_row.coded))
    (λ f. (f.frame, f.entries))
    (λ p. record { frame = p.0; entries = p.1 }) (λ _. refl)

-- the entries of a frame with all that it inherits
pub record AreInEffect (entries : List Entry) : Type 0 where
  pub writable : AreWritable true entries
  pub kept : AllByRecursion (λ e. is_left_out e.key ≡ false) entries
