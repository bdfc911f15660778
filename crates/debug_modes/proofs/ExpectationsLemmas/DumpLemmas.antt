-- How the characters and the lines of memory go on, and a message.
use Rattle.std.proofs.Common.{◌≡◌, ℕ, false, suc, ◌+◌, ◌-◌, ◌/◌, ◌<◌, List, [], ◌∷◌, ◌++◌, ap, sym, ◌∙◌, arith, refl}
use Rattle.std.specs.Prelude.{◌==◌, min}
use Rattle.profile.proofs.OutputLemmas.{AddsAllBut-start, AddsAllBut-more, AddsAllBut-same, Appends-from_all_but}
use Rattle.address_map.specs.Bytes.{Bytes, byte_loaded}
use Rattle.profile.specs.Sums.{address_further}
use Rattle.debug_modes.specs.expectations.Dump.{character_of, character_text, characters_text, dump_line, dump_lines, dump_text}
use Rattle.debug_modes.specs.expectations.Why.{loaded_or_zero, message_from, message_text}

pub no_characters : (b : Bytes) (at left : ℕ) → left ≡ 0 → characters_text b at left ≡ []
unfolding characters_text
no_characters b at left e = rw e refl

one_character : (b : Bytes) (at more : ℕ)
    → characters_text b at (suc more) ≡ character_text b at ++ characters_text b (address_further at 1) more
unfolding characters_text
one_character b at more = refl

pub next_character : (b : Bytes) (at next left : ℕ) → 0 < left → next ≡ address_further at 1
    → characters_text b at left ≡ character_text b at ++ characters_text b next (left - 1)
next_character b at next left some e =
    let split : left ≡ suc (left - 1) = omega arith in
    rw e (ap (characters_text b at) split ∙ one_character b at (left - 1))

pub no_dump : (b : Bytes) (at left : ℕ) → left ≡ 0 → dump_text b at left ≡ []
unfolding dump_text dump_lines
no_dump b at left e = rw e refl

one_dump : (b : Bytes) (at left more : ℕ)
    → dump_lines (suc more) b at left ≡ dump_line b at (min left 16) ++ dump_lines more b (address_further at 16) (left - 16)
unfolding dump_lines
one_dump b at left more = refl

pub next_dump : (b : Bytes) (at next left : ℕ) → 0 < left → next ≡ address_further at 16
    → dump_text b at left ≡ dump_line b at (min left 16) ++ dump_text b next (left - 16)
unfolding dump_text
next_dump b at next left some e =
    let split : (left + 15) / 16 ≡ suc ((left - 16 + 15) / 16) = omega arith in
    rw e (ap (λ (n : ℕ). dump_lines n b at left) split ∙ one_dump b at left ((left - 16 + 15) / 16))

pub no_message : (b : Bytes) (at left : ℕ) → left ≡ 0 → message_text left b at ≡ []
unfolding message_text
no_message b at left e = rw e refl

one_message : (b : Bytes) (at more : ℕ) → message_text (suc more) b at
    ≡ message_from (loaded_or_zero (byte_loaded b at)) (message_text more b (address_further at 1))
unfolding message_text
one_message b at more = refl

goes_on : (byte : ℕ) (more : List ℕ) → 0 < byte → message_from byte more ≡ (character_of byte ∷ []) ++ more
goes_on byte more some =
    let differs : (byte == 0) ≡ false = grind (arith, some) in
    rw differs refl

by_byte : (b : Bytes) (at left byte : ℕ) → 0 < left → byte ≡ loaded_or_zero (byte_loaded b at)
    → message_text left b at ≡ message_from byte (message_text (left - 1) b (address_further at 1))
by_byte b at left byte some is =
    let split : left ≡ suc (left - 1) = omega arith in
    ap (λ (n : ℕ). message_text n b at) split ∙ one_message b at (left - 1)
    ∙ ap (λ (v : ℕ). message_from v (message_text (left - 1) b (address_further at 1))) (sym is)

pub next_message : (b : Bytes) (at next left byte : ℕ) → 0 < left → next ≡ address_further at 1
    → byte ≡ loaded_or_zero (byte_loaded b at) → 0 < byte
    → message_text left b at ≡ (character_of byte ∷ []) ++ message_text (left - 1) b next
next_message b at next left byte some e is on =
    rw e (by_byte b at left byte some is ∙ goes_on byte (message_text (left - 1) b (address_further at 1)) on)

pub end_message : (b : Bytes) (at left byte : ℕ) → 0 < left → byte ≡ loaded_or_zero (byte_loaded b at) → byte ≡ 0
    → message_text left b at ≡ []
end_message b at left byte some is ends =
    by_byte b at left byte some is
    ∙ ap (λ (v : ℕ). message_from v (message_text (left - 1) b (address_further at 1))) ends

pub ruleset dump_steps = (AddsAllBut-start, AddsAllBut-more, AddsAllBut-same, Appends-from_all_but, no_dump, next_dump)

pub ruleset character_steps =
    (AddsAllBut-start, AddsAllBut-more, AddsAllBut-same, Appends-from_all_but, no_characters, next_character)

pub ruleset message_steps = (
  AddsAllBut-start,
  AddsAllBut-more,
  AddsAllBut-same,
  Appends-from_all_but,
  no_message,
  next_message,
  end_message,
)
