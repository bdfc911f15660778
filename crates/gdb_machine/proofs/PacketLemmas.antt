-- The value of a register as it was read of pairs of digits.
use Rattle.std.proofs.Common.{◌≡◌, ℕ, List, ap}
use Rattle.std.specs.Prelude.{Result, Ok, Err, MatchResult}
use Rattle.std.specs.Int.{from_le_bytes, w32}
use Rattle.hex.specs.declared.error.FromHexError.{FromHexError}
use Rattle.gdb_machine.specs.ChangePackets.{write_wanted}
use Rattle.gdb_machine.specs.Changes.{register_write}

pub write_read : {U : Type 0} (n : ℕ) (out : List ℕ) (r : Result U FromHexError) (done : U) (read : Result (List ℕ) FromHexError)
    → MatchResult read (λ bytes. (r ≡ Ok done) × (out ≡ bytes)) (λ e. r ≡ Err e) → r ≡ Ok done
    → register_write n (from_le_bytes w32 out) ≡ write_wanted n read
write_read n out r done (Ok bytes) reported is = ap (λ (b : List ℕ). register_write n (from_le_bytes w32 b)) reported.1
write_read n out r done (Err e) reported is = absurd (cc)
