-- Flags and modes by their letters, as PSR shows them: N Z C V I F, a capital letter for a flag that
-- is set and a small one for a flag that is clear; the modes USR, FIQ, IRQ and SVC.
use Rattle.std.specs.Prelude.{ℕ, Bool, ◌==◌, ◌||◌, ◌+◌, List, [], ◌∷◌, Option, Some, None, option_map, option_and_then, codes, if◌then◌else◌, length}
use Rattle.std.specs.Char.{is_ascii_uppercase}
use Rattle.arm_core.specs.declared.psr.Mode.{Mode}
use Rattle.arm_core.specs.declared.psr.Mode.TheVariants.{User, FastInterrupt, Interrupt, Supervisor}
use Rattle.command_shell_lines.specs.Requests.{is_same_word}
use Rattle.debug_lines.specs.declared.status.StatusPattern.{StatusPattern}

-- of a status nothing
abbrev pub any_status : StatusPattern
any_status = record {
  negative = None;
  zero = None;
  carry = None;
  overflow = None;
  interrupts_off = None;
  fast_interrupts_off = None;
  mode = None;
}

-- a flag that a letter shows, where no letter before it has
abbrev pub flag_shown_once : Option Bool → Bool → Option (Option Bool)
flag_shown_once None is_set = Some (Some is_set)
flag_shown_once (Some reported) is_set = None

-- the letter in either case
abbrev pub is_letter : ℕ → ℕ → Bool
is_letter capital b = b == capital || b == capital + 32

-- one letter more: N 78, Z 90, C 67, V 86, I 73, F 70
abbrev pub with_letter : StatusPattern → ℕ → Option StatusPattern
with_letter p b =
    if is_letter 78 b then option_map (λ flag. record p { negative = flag })
    (flag_shown_once p.negative (is_ascii_uppercase b)) else (
    if is_letter 90 b then option_map (λ flag. record p { zero = flag })
    (flag_shown_once p.zero (is_ascii_uppercase b)) else (
    if is_letter 67 b then option_map (λ flag. record p { carry = flag })
    (flag_shown_once p.carry (is_ascii_uppercase b)) else (
    if is_letter 86 b then option_map (λ flag. record p { overflow = flag })
    (flag_shown_once p.overflow (is_ascii_uppercase b)) else (
    if is_letter 73 b then option_map (λ flag. record p { interrupts_off = flag })
    (flag_shown_once p.interrupts_off (is_ascii_uppercase b)) else (
    if is_letter 70 b then option_map (λ flag. record p { fast_interrupts_off = flag })
    (flag_shown_once p.fast_interrupts_off (is_ascii_uppercase b)) else
    None)))))

abbrev pub with_letters : StatusPattern → List ℕ → Option StatusPattern
with_letters p [] = Some p
with_letters p (b ∷ rest) = option_and_then (λ q. with_letters q rest) (with_letter p b)

-- a word of one letter or more, of each flag one at most
unfoldable pub status_of_letters : List ℕ → Option StatusPattern
status_of_letters letters = if length letters == 0 then None else with_letters any_status letters

abbrev pub mode_named : List ℕ → Option Mode
mode_named word =
    if is_same_word word (codes "USR") then Some User else (
    if is_same_word word (codes "FIQ") then Some FastInterrupt else (
    if is_same_word word (codes "IRQ") then Some Interrupt else (
    if is_same_word word (codes "SVC") then Some Supervisor else
    None)))

-- letters and a mode
abbrev pub status_in_mode : Option StatusPattern → Option Mode → Option StatusPattern
status_in_mode (Some p) (Some mode) = Some (record p { mode = Some mode })
status_in_mode (Some p) None = None
status_in_mode None mode = None

abbrev pub status_of_two : List ℕ → List ℕ → Option StatusPattern
status_of_two letters mode = status_in_mode (status_of_letters letters) (mode_named mode)

-- a mode, or letters
abbrev pub status_of_mode_or : Option Mode → Option StatusPattern → Option StatusPattern
status_of_mode_or (Some mode) letters = Some (record any_status { mode = Some mode })
status_of_mode_or None letters = letters

abbrev pub status_of_word : List ℕ → Option StatusPattern
status_of_word word = status_of_mode_or (mode_named word) (status_of_letters word)
