-- The requests that open no block, which are answered at once.
use Rattle.std.proofs.Common.{◌≡◌, ℕ, ◌+◌, Bool, false, List, Option, Result, refl, sym, subst, add-zero}
use Rattle.std.specs.Prelude.{OnErr, OnOk, true}
use Rattle.profile.specs.images.Entries.{Entry}
use Rattle.command_shell_lines.specs.Blocks.{lines_after, lines_taken}
use Rattle.command_shell_lines.specs.Requests.{opens_block, request_of_command}
use Rattle.command_shell_lines.specs.declared.requests.ScriptCommand.{ScriptCommand}
use Rattle.command_shell.specs.Script.{request_answer}
use Rattle.command_shell.specs.Session.{script_state}
use Rattle.command_shell.specs.State.{ScriptState, IsAnswered}
use Rattle.command_shell.specs.declared.session.Session.{Session}

-- What a line leaves that opens no block: `done` is whether its answer was written.
pub record IsAtOnce {U F S : Type 0} (contents : S → Option (List ℕ)) (has_failed : S → Bool) (old : S) (s : ScriptState)
    (images : List Entry) (number : ℕ) (block : List (List ℕ)) (done : Result U F) (new : S) (self : Session)
    (asked : ScriptCommand) : Type 0 where
  pub plain : opens_block (request_of_command asked) ≡ false
  pub reported : OnOk done (IsAnswered (contents old) (contents new) (script_state self images)
      (request_answer s number (request_of_command asked) block))
  pub flag : OnErr done (has_failed new ≡ true)
  pub same_flag : OnOk done (has_failed new ≡ has_failed old)

-- it is what the branch left that answered it
pub line_is : {U F S : Type 0} (contents : S → Option (List ℕ)) (has_failed : S → Bool) (old : S) (s : ScriptState)
    (images : List Entry) (number : ℕ) (block : List (List ℕ)) (done done' : Result U F) (new new' : S) (self self' : Session)
    (asked asked' : ScriptCommand)
    → done ≡ done' → new ≡ new' → self ≡ self' → asked ≡ asked'
    → IsAtOnce contents has_failed old s images number block done' new' self' asked'
    → IsAtOnce contents has_failed old s images number block done new self asked
line_is {U} {F} {S} contents has_failed old s images number block done done' new new' self self' asked asked' d n at a line =
    subst (λ (r : Result U F). IsAtOnce contents has_failed old s images number block r new self asked) (sym d)
    (subst (λ (sink : S). IsAtOnce contents has_failed old s images number block done' sink self asked) (sym n)
    (subst (λ (session : Session). IsAtOnce contents has_failed old s images number block done' new' session asked) (sym at)
    (subst (λ (command : ScriptCommand). IsAtOnce contents has_failed old s images number block done' new' self' command) (sym a)
    line)))

-- none of the lines that follow is taken
pub left_at_once : (b : Bool) (left : List (List ℕ)) → b ≡ false → left ≡ lines_after b left
left_at_once b left plain = rw plain refl

pub number_at_once : (b : Bool) (number : ℕ) (left : List (List ℕ)) → b ≡ false → number ≡ number + lines_taken b left
number_at_once b number left plain = rw plain (sym (add-zero number))
