-- Words that lie in one page of 4096 bytes: which do, and the words that some bytes are.
use Rattle.std.specs.Prelude.{ℕ, zero, suc, Bool, ◌&&◌, ◌+◌, ◌*◌, ◌%◌, ◌^◌, nat_lt, nat_le, if◌then◌else◌, List, [], ◌∷◌, slice_index}
use Rattle.arm_core.specs.Fault.{Fault}
use Rattle.arm_core.specs.Fault.TheVariants.{AddressException, DataUnmapped}
use Rattle.address_map.specs.Bytes.{word_at}

-- whether `n` words from `a` on lie in one page, and are at least one
abbrev pub are_in_page : ℕ → ℕ → Bool
are_in_page a n = nat_lt 0 n && nat_le (a % 4096 + 4 * n) 4096

-- the fault of words in one page that is not mapped
abbrev pub missing : ℕ → Fault
missing a = if nat_lt a (2 ^ 26) then DataUnmapped else AddressException

-- `n` words of some bytes, the first of them at a place
unfoldable pub words_in : List ℕ → ℕ → ℕ → List ℕ
words_in bytes at zero = []
words_in bytes at (suc n) = word_at (slice_index bytes) at ∷ words_in bytes (at + 4) n
