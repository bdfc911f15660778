-- A register file in which R0 to R14 of the present mode stand in the first 15 places, as the core keeps one: the registers that the
-- mode has for itself have changed places with those of user mode.
use Rattle.std.specs.Prelude.{◌≡◌, ℕ, List, length, refl, IsTrue}
use Rattle.arm_core.specs.register_file.Banks.{changed_place, bank_exchanged, is_bank}
use Rattle.arm_core.specs.register_file.Exchanging.{twice_exchanged}
use Rattle.arm_core.specs.declared.psr.Mode.{Mode}
use Rattle.arm_core.specs.declared.psr.Mode.TheVariants.{User, FastInterrupt, Interrupt, Supervisor}

-- the first register, up to R14, that a mode has for itself, and how far ahead they lie
abbrev pub first_own : Mode → ℕ
first_own User = 15
first_own FastInterrupt = 8
first_own Interrupt = 13
first_own Supervisor = 13

abbrev pub own_ahead : Mode → ℕ
own_ahead User = 0
own_ahead FastInterrupt = 7
own_ahead Interrupt = 9
own_ahead Supervisor = 11

-- the place that a place changes with while a mode is the present one
abbrev pub exchanged_place : Mode → ℕ → ℕ
exchanged_place m k = changed_place (first_own m) 15 (own_ahead m) k

abbrev pub exchanged_file : Mode → List ℕ → List ℕ
exchanged_file m file = bank_exchanged (first_own m) (own_ahead m) file

-- So a core gives its fields back: exchanged once more, the file is as it was.
pub own_bank : (m : Mode) → IsTrue (is_bank (first_own m) (own_ahead m))
unfolding is_bank
own_bank User = refl
own_bank FastInterrupt = refl
own_bank Interrupt = refl
own_bank Supervisor = refl

pub file_comes_back : (m : Mode) (file : List ℕ) → length file ≡ 26 →
    exchanged_file m (exchanged_file m file) ≡ file
file_comes_back m file len = twice_exchanged (first_own m) (own_ahead m) file (own_bank m) len
