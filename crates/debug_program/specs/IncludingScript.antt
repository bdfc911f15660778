-- What a script with lines INCLUDE is still to give.
use Rattle.std.specs.Prelude.{ℕ, List, Option, length, min, take, drop}
use Rattle.std.specs.Io.KnownBytes.{IsAtEnd, Keeps}
use Rattle.debug_program.specs.GivenText.{given_of}
use Rattle.debug_program.specs.GoingOn.{known_unless}
use Rattle.debug_program.specs.Including.{file_given, script_left}
use Rattle.debug_program.specs.declared.including_script.IncludingScript.{IncludingScript}

-- as far as the files' bytes and what is left to read are known, and no person types it
abbrev pub given_left : {D S : Type 0} → (D → List ℕ → Option (List ℕ)) → (S → Option (List ℕ))
    → IncludingScript D S → Option (List ℕ)
given_left text_of left r = known_unless r.is_terminal (script_left (file_given (text_of r.files.now) 8) r.script.now
    (min r.pulled (length r.given.text.items)) (given_of r.given) (drop r.taken (take r.length r.piece)) (left r.inner))

-- what was known of that stays so
abbrev pub IsStillLeft : {D S : Type 0} → (D → List ℕ → Option (List ℕ)) → (S → Option (List ℕ))
    → IncludingScript D S → IncludingScript D S → Type 0
IsStillLeft text_of left old new = Keeps (given_left text_of left old) (given_left text_of left new)

-- nothing of it is left
abbrev pub IsAllGiven : {D S : Type 0} → (D → List ℕ → Option (List ℕ)) → (S → Option (List ℕ))
    → IncludingScript D S → Type 0
IsAllGiven text_of left r = IsAtEnd (given_left text_of left r)
