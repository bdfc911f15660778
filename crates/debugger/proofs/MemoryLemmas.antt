-- How the bytes and the lines of memory go on.
use Rattle.std.proofs.Common.{◌≡◌, ℕ, suc, ◌+◌, ◌-◌, ◌/◌, ◌<◌, [], ◌++◌, ap, ◌∙◌, arith, refl}
use Rattle.std.specs.Prelude.{min}
use Rattle.swi_dispatch_guest.proofs.OutputLemmas.{AddsAllBut-start, AddsAllBut-more, AddsAllBut-same, Appends-from_all_but}
use Rattle.swi_dispatch_guest.specs.Bytes.{Bytes}
use Rattle.debugger.specs.Memory.{byte_text, bytes_text, line_text, lines_text, memory_text}
use Rattle.swi_dispatch_guest.specs.Sums.{address_further}

pub no_bytes : (b : Bytes) (at left : ℕ) → left ≡ 0 → bytes_text b at left ≡ []
unfolding bytes_text
no_bytes b at left e = rw e refl

one_byte : (b : Bytes) (at more : ℕ) → bytes_text b at (suc more) ≡ byte_text b at ++ bytes_text b (address_further at 1) more
unfolding bytes_text
one_byte b at more = refl

pub next_byte : (b : Bytes) (at next left : ℕ) → 0 < left → next ≡ address_further at 1
    → bytes_text b at left ≡ byte_text b at ++ bytes_text b next (left - 1)
next_byte b at next left some e =
    let split : left ≡ suc (left - 1) = omega arith in
    rw e (ap (bytes_text b at) split ∙ one_byte b at (left - 1))

pub all_lines : (b : Bytes) (at count : ℕ) → memory_text b at count ≡ lines_text ((count + 15) / 16) b at count
unfolding memory_text
all_lines b at count = refl

pub no_lines : (b : Bytes) (at left : ℕ) → left ≡ 0 → memory_text b at left ≡ []
unfolding memory_text lines_text
no_lines b at left e = rw e refl

one_line : (b : Bytes) (at left more : ℕ)
    → lines_text (suc more) b at left ≡ line_text b at (min left 16) ++ lines_text more b (address_further at 16) (left - 16)
unfolding lines_text
one_line b at left more = refl

pub next_line : (b : Bytes) (at next left : ℕ) → 0 < left → next ≡ address_further at 16
    → memory_text b at left ≡ line_text b at (min left 16) ++ memory_text b next (left - 16)
unfolding memory_text
next_line b at next left some e =
    let split : (left + 15) / 16 ≡ suc ((left - 16 + 15) / 16) = omega arith in
    rw e (ap (λ (n : ℕ). lines_text n b at left) split ∙ one_line b at left ((left - 16 + 15) / 16))

pub ruleset byte_steps = (AddsAllBut-start, AddsAllBut-more, AddsAllBut-same, Appends-from_all_but, no_bytes, next_byte)

pub ruleset line_steps = (AddsAllBut-start, AddsAllBut-more, AddsAllBut-same, Appends-from_all_but, no_lines, next_line)
