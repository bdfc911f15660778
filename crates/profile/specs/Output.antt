-- How much of a text stands written, and what a call that writes one leaves.
use Rattle.std.specs.Prelude.{◌≡◌, ◌<◌, ◌++◌, ℕ, Bool, true, List, length, Option, Some, Result, IfSome, OnOk, OnErr}
use Rattle.std.specs.Io.KnownBytes.{Appends}

-- A writer that held `held` holds that, and all of a text but its rest.
pub record HoldsAllBut (held : List ℕ) (now : Option (List ℕ)) (rest all : List ℕ) : Type 0 where
  pub part : List ℕ
  pub holds : now ≡ Some (held ++ part)
  pub whole : part ++ rest ≡ all

-- All of a text but its rest was appended, and what stood before it stands still.
pub record AddsAllBut (old new : Option (List ℕ)) (rest all : List ℕ) : Type 0 where
  pub adds : IfSome old (λ held. HoldsAllBut held new rest all)

-- A front of a text was appended, and what stood before it stands still.
pub record AddsFront (old new : Option (List ℕ)) (all : List ℕ) : Type 0 where
  pub rest : List ℕ
  pub front : AddsAllBut old new rest all

-- A front of a text was appended, at least a byte of it is missing, and what stood before it stands
-- still.
pub record AddsPart (old new : Option (List ℕ)) (all : List ℕ) : Type 0 where
  pub missing : List ℕ
  pub some_missing : 0 < length missing
  pub front : AddsAllBut old new missing all

-- What a call that writes a text does to its sink: all of the text is appended and the flag is as
-- it was, or the call fails and the flag is up.
pub record Writes {S A E : Type 0} (contents : S → Option (List ℕ)) (has_failed : S → Bool) (old new : S)
    (result : Result A E) (all : List ℕ) : Type 0 where
  pub text : OnOk result (Appends (contents old) (contents new) all)
  pub flag : OnErr result (has_failed new ≡ true)
  pub same_flag : OnOk result (has_failed new ≡ has_failed old)
