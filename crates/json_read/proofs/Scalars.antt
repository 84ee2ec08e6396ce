-- the bytes of one character's UTF-8 lead to scalar values
use Rattle.std.proofs.Common.{ℕ, zero, suc, ◌+◌, ◌-◌, ◌*◌, ◌<◌, ◌≤◌, inl, inr, arith}
use Rattle.json_read.specs.WordView.{IsSound, LeadsToScalars}
use Rattle.json_read.specs.declared.character.Part.TheVariants.{Encoded}

-- fewer values lead to scalars too
leads_within : (later first past least most : ℕ) → first ≤ least → most ≤ past → LeadsToScalars later first past → LeadsToScalars later least most
leads_within zero first past least most low high (inl below) = inl (omega arith)
leads_within zero first past least most low high (inr above) = inr (omega arith, omega arith)
leads_within (suc later) first past least most low high h = leads_within later (first * 64) (past * 64) (least * 64) (most * 64) (omega arith) (omega arith) h

leads_below : (later first past : ℕ) → LeadsToScalars later first past → past ≤ 1114112
leads_below zero first past (inl below) = omega arith
leads_below zero first past (inr above) = omega arith
leads_below (suc later) first past h = let larger : past * 64 ≤ 1114112 = leads_below later (first * 64) (past * 64) h in omega arith

pub code_small : (later low high code byte : ℕ) → IsSound (Encoded later low high code) → low ≤ byte → byte ≤ high → code * 64 + (byte - 128) < 1114112
code_small later low high code byte (least, most, leads) low_is high_is =
    let below : code * 64 + (high - 127) ≤ 1114112 = leads_below later (code * 64 + (low - 128)) (code * 64 + (high - 127)) leads in omega arith

pub code_leads : (later low high code byte : ℕ) → IsSound (Encoded later low high code) → low ≤ byte → byte ≤ high
    → LeadsToScalars later (code * 64 + (byte - 128)) (code * 64 + (byte - 128) + 1)
code_leads later low high code byte (least, most, leads) low_is high_is = leads_within later _ _ _ _ (omega arith) (omega arith) leads
