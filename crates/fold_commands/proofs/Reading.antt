-- what reading answers, from what the readers answer
use Rattle.std.proofs.Common.{◌≡◌, ℕ, ◌≤◌, ◌<◌, arith, None, Some, List, length, Err, inl, inr, refl, subst, IfSome}
use Rattle.std.specs.declared.option.Option.{Option}
use Rattle.fold_base.specs.declared.outside.TheConstants.{MOST_BYTES}
use Rattle.fold_base.specs.declared.pieces.ReadFault.{ReadFault}
use Rattle.fold_base.specs.declared.pieces.ReadFault.TheVariants as read
use Rattle.cp_lines.specs.Reads as cp_reads
use Rattle.cp_lines.specs.declared.fault.CpReadFault.{CpReadFault}
use Rattle.cp_lines.specs.declared.fault.CpReadFault.TheVariants as cp
use Rattle.json_read.specs.Reads.{FinishAnswers}
use Rattle.json_read.specs.declared.fault.JsonReadFault.{JsonReadFault}
use Rattle.json_read.specs.declared.fault.JsonReadFault.TheVariants as json
use Rattle.fold_commands.specs.Status.{of_read, of_json, of_cp}
use Rattle.fold_commands.specs.Outside.{Takes, TakesAll}
use Rattle.fold_commands.specs.Outcome.{AreLeft, IsReading}
use Rattle.fold_commands.specs.declared.words.Format.{Format}
use Rattle.fold_commands.specs.declared.words.Format.TheVariants.{Fold, Cp}

-- what is so of the bytes left where they are told, and of some bytes where they aren't
of_some : (left : Option (List ℕ)) (P : List ℕ → Type 0) → ((bytes : List ℕ) → left ≡ Some bytes → P bytes) → (bytes : List ℕ) → (left ≡ None → P bytes) → (bytes : List ℕ) × AreLeft left bytes × P bytes
of_some None P told bytes untold = (bytes, tt, untold refl)
of_some (Some left) P told bytes untold = (left, refl, told left refl)

-- the bytes can't be had whole
unread : (format : Format) (fault : ReadFault) (bytes : List ℕ) → (fault ≡ read.TooLong → MOST_BYTES < length bytes) → IsReading format bytes (Err (of_read fault))
unread format read.Failed bytes long = inl (inl refl)
unread format read.TooLong bytes long = inr (inl (long refl, refl))
unread format (read.Memory error) bytes long = inl (inr refl)

past : (fault : ReadFault) (n : ℕ) → fault ≡ read.TooLong → Takes (of_read fault) n → MOST_BYTES < n
past fault n e size = let exactly = subst (λ f. Takes (of_read f) n) e size in omega (arith, exactly)

pub unread_some : (format : Format) (left : Option (List ℕ)) (fault : ReadFault) → (fault ≡ read.TooLong → IfSome left (λ bytes. MOST_BYTES < length bytes))
    → (taken : List ℕ) → Takes (of_read fault) (length taken) → (bytes : List ℕ) × AreLeft left bytes × IsReading format bytes (Err (of_read fault))
unread_some format left fault long taken size =
    of_some left (λ bytes. IsReading format bytes (Err (of_read fault)))
    (λ bytes told. unread format fault bytes (λ e. subst (λ (l : Option (List ℕ)). IfSome l (λ b. MOST_BYTES < length b)) told (long e)))
    taken
    (λ untold. unread format fault taken (λ e. past fault (length taken) e size))

-- the bytes are no text of their format
pub refused_json : (bytes : List ℕ) (fault : JsonReadFault) → length bytes ≤ MOST_BYTES → FinishAnswers bytes (Err fault) → IsReading Fold bytes (Err (of_json fault))
refused_json bytes (json.Text fault) few h = inr (inr (few, (fault, h, refl)))
refused_json bytes (json.Memory error) few h = inl (inr refl)

pub refused_cp : (bytes : List ℕ) (fault : CpReadFault) → length bytes ≤ MOST_BYTES → cp_reads.Reads bytes (Err fault) → IsReading Cp bytes (Err (of_cp fault))
refused_cp bytes (cp.Text fault) few h = inr (inr (few, (fault, h, refl)))
refused_cp bytes (cp.Memory error) few h = inl (inr refl)

-- how much was taken then
pub takes_json : (fault : JsonReadFault) (n : ℕ) → n ≤ MOST_BYTES → Takes (of_json fault) n
takes_json (json.Text fault) n few = few
takes_json (json.Memory error) n few = few

pub takes_cp : (fault : CpReadFault) (n : ℕ) → n ≤ MOST_BYTES → Takes (of_cp fault) n
takes_cp (cp.Text fault) n few = few
takes_cp (cp.Memory error) n few = few

pub takes_not_all : (fault : ReadFault) → ¬ TakesAll (of_read fault)
takes_not_all read.Failed h = h
takes_not_all read.TooLong h = h
takes_not_all (read.Memory error) h = h
