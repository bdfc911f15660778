-- The lines that a script's requests are answered with.
use Rattle.std.specs.Prelude.{ℕ, Bool, true, List, ◌++◌, codes}
use Rattle.std.specs.Fmt.{decimal}
use Rattle.profile.specs.Digits.{hex_number}
use Rattle.profile.specs.declared.stop.Stop.{Stop}
use Rattle.profile.specs.declared.stop.Stop.TheVariants as stop
use Rattle.profile.specs.Fault.{Fault}
use Rattle.profile.specs.Fault.TheVariants.{ErrorStop}
use Rattle.profile.specs.FaultNames.{fault_name}

-- a space and an address, in capitals without leading zeros
abbrev pub at_address_text : ℕ → List ℕ
at_address_text address = codes " &" ++ hex_number address

-- `? line n`, for a line outside the language
abbrev pub unknown_text : ℕ → List ℕ
unknown_text number = codes "? line " ++ (decimal number ++ codes "\n")

-- `hex name: n bytes`, and the like after `asm `
abbrev pub image_text : List ℕ → List ℕ → ℕ → List ℕ
image_text word name len = word ++ (name ++ (codes ": " ++ (decimal len ++ codes " bytes\n")))

-- `hex name: line k: Syntax`
abbrev pub line_refused_text : List ℕ → List ℕ → ℕ → List ℕ → List ℕ
line_refused_text word name line reason =
    word ++ (name ++ (codes ": line " ++ (decimal line ++ (codes ": " ++ (reason ++ codes "\n")))))

-- `hex name: NameTaken`
abbrev pub image_refused_text : List ℕ → List ℕ → List ℕ → List ℕ
image_refused_text word name reason = word ++ (name ++ (codes ": " ++ (reason ++ codes "\n")))

-- `boot name`
abbrev pub boot_text : List ℕ → List ℕ
boot_text name = codes "boot " ++ (name ++ codes "\n")

-- `refused NoImage`
unfoldable pub refused_text : List ℕ → List ℕ
refused_text reason = codes "refused " ++ (reason ++ codes "\n")

-- `break &8004`, `unbreak &8004`
abbrev pub break_text : ℕ → List ℕ
break_text address = codes "break" ++ (at_address_text address ++ codes "\n")

abbrev pub unbreak_text : ℕ → List ℕ
unbreak_text address = codes "unbreak" ++ (at_address_text address ++ codes "\n")

-- `ok`
abbrev pub ok_text : List ℕ
ok_text = codes "ok\n"

-- `error n`
abbrev pub call_error_text : ℕ → List ℕ
call_error_text number = codes "error " ++ (decimal number ++ codes "\n")

-- `at &8004`
abbrev pub at_text : ℕ → List ℕ
at_text pc = codes "at" ++ (at_address_text pc ++ codes "\n")

-- some words, a number and the program counter
abbrev pub numbered_text : List ℕ → ℕ → ℕ → List ℕ
numbered_text words number pc = words ++ (decimal number ++ (at_address_text pc ++ codes "\n"))

-- `stop OwnedWord &8004`, `stop ErrorStop 6 &8004`
abbrev pub fault_stop_text : Fault → ℕ → List ℕ
fault_stop_text (ErrorStop number) pc = numbered_text (codes "stop ErrorStop ") number pc
fault_stop_text fault pc = codes "stop " ++ (fault_name fault ++ (at_address_text pc ++ codes "\n"))

-- A stop line: `stop Exit`, `stop Budget`, `stop Break &8004`, or that of a fault.
abbrev pub stop_text : Stop → ℕ → List ℕ
stop_text stop.Exit pc = codes "stop Exit\n"
stop_text stop.Budget pc = codes "stop Budget\n"
stop_text (stop.Break address) pc = codes "stop Break" ++ (at_address_text address ++ codes "\n")
stop_text (stop.Fault fault) pc = fault_stop_text fault pc

-- What follows on the steps of a STEP line: where the machine stands if all of them could be taken
-- and were, else the stop line.
abbrev pub stepped_text : Bool → Stop → ℕ → List ℕ
stepped_text true stop.Budget pc = at_text pc
stepped_text could_all stop pc = stop_text stop pc
