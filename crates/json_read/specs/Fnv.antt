-- the hash FNV-1a
use Rattle.std.specs.Prelude.{ℕ, ◌*◌, ◌%◌, ◌^◌, List, fold}
use Rattle.std.specs.Int.Bits.{bit_xor}

-- of 64 bits: each byte comes in by exclusive or, then a product with a prime
unfoldable pub fnv_1a : List ℕ → ℕ
fnv_1a bytes = fold (λ hash byte. (bit_xor hash byte * 1099511628211) % 2 ^ 64) 14695981039346656037 bytes
