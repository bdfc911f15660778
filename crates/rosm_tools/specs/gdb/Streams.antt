-- GDB over two streams: what was read of the one, and what it was answered on the other. All that is read
-- is served, in order, however it was cut, and for each `run` the files are read anew.
use Rattle.std.specs.Prelude.{◌≡◌, ℕ, false, List, [], ◌∷◌, map, Option}
use Rattle.std.specs.Io.KnownBytes.{Consumes, IsAtEnd}
use Rattle.profile.specs.Output.{AddsFront}
use Rattle.gdb_server.specs.Serving.{ServerState, Served, bytes_served, then_served}
use Rattle.gdb_server.specs.Server.{IsServed}
use Rattle.rosm_tools.specs.gdb.Renewed.{AreFound, FilesRead, renewed_before}
use Rattle.rosm_settings.specs.declared.gdb.words.WantedGdb.{WantedGdb}

-- a byte, and what the files gave before it, where they were read
pub record Sent : Type 0 where
  pub byte : ℕ
  pub found : Option FilesRead

-- what bytes are answered
unfoldable pub sent_served : List (List ℕ) → List Sent → ServerState → Served
sent_served files [] s = record { state = s; text = [] }
sent_served files (x ∷ more) s =
    then_served (bytes_served (x.byte ∷ []) (renewed_before files x.found s)) (sent_served files more)

abbrev pub AreAllFound : {F : Type 0} → (F → Option (List ℕ)) → WantedGdb → List Sent → Type 0
AreAllFound of_file wanted [] = Unit {0}
AreAllFound of_file wanted (x ∷ more) = AreFound of_file wanted x.found × AreAllFound of_file wanted more

-- These bytes were sent, and the files gave this before each.
pub record AreSent {F : Type 0} (of_file : F → Option (List ℕ)) (wanted : WantedGdb) (bytes : List ℕ)
    (sent : List Sent) : Type 0 where
  pub bytes_are : map (λ x. x.byte) sent ≡ bytes
  pub found : AreAllFound of_file wanted sent

-- Bytes are answered, and the server stands behind them.
pub record AnswersBytes {F : Type 0} (of_file : F → Option (List ℕ)) (wanted : WantedGdb) (bytes : List ℕ)
    (before after : Option (List ℕ)) (old now : ServerState) : Type 0 where
  pub sent : List Sent
  pub are : AreSent of_file wanted bytes sent
  pub served : IsServed before after now (sent_served wanted.settings.files sent old)

-- A front of their answers stands written.
pub record AnswersBytesFront {F : Type 0} (of_file : F → Option (List ℕ)) (wanted : WantedGdb) (bytes : List ℕ)
    (before after : Option (List ℕ)) (old : ServerState) : Type 0 where
  pub sent : List Sent
  pub are : AreSent of_file wanted bytes sent
  pub front : AddsFront before after (sent_served wanted.settings.files sent old).text

-- So much of the input was read, and all of it is answered.
pub record AnswersInput {F : Type 0} (of_file : F → Option (List ℕ)) (wanted : WantedGdb)
    (input left before after : Option (List ℕ)) (old now : ServerState) : Type 0 where
  pub read : List ℕ
  pub of_input : Consumes input left read
  pub answers : AnswersBytes of_file wanted read before after old now

-- And that is all of it, unless the debugger is gone.
pub record EndsWithInput {F : Type 0} (of_file : F → Option (List ℕ)) (wanted : WantedGdb)
    (input left before after : Option (List ℕ)) (old now : ServerState) : Type 0 where
  pub answers : AnswersInput of_file wanted input left before after old now
  pub ends : now.session.has_ended ≡ false → IsAtEnd left

-- So much of the input was read, and a front of its answers stands written.
pub record AnswersFront {F : Type 0} (of_file : F → Option (List ℕ)) (wanted : WantedGdb)
    (input left before after : Option (List ℕ)) (old : ServerState) : Type 0 where
  pub read : List ℕ
  pub of_input : Consumes input left read
  pub answers : AnswersBytesFront of_file wanted read before after old
