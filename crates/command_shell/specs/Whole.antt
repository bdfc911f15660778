-- What a call leaves that reads a script whole and answers its lines.
use Rattle.std.specs.Prelude.{◌≡◌, ◌<◌, ℕ, Bool, true, false, List, length, Option, Result, Err, IfSome, IsErr, OnErr, OnOk}
use Rattle.std.specs.Io.KnownBytes.{Appends}
use Rattle.profile.specs.images.Entries.{Entry}
use Rattle.profile.specs.Output.{AddsFront}
use Rattle.profile.specs.Pulls.{PullsAtMost}
use Rattle.command_shell.specs.Fronts.{HasSome}
use Rattle.command_shell.specs.State.{Answered}
use Rattle.command_shell.specs.declared.error.RunError.{RunError}
use Rattle.command_shell.specs.declared.error.RunError.TheVariants.{Memory, ReadFault, WriteFault, ScriptTooLong}

-- `told` is what a script is answered. Where its bytes are not known, nothing is said of the answers.
pub record AnswersWhole {R S A : Type 0} (remaining : R → Option (List ℕ)) (pull_failed : R → Bool)
    (pulls : R → Option ℕ) (contents : S → Option (List ℕ)) (push_failed : S → Bool)
    (reader reader_after : R) (writer writer_after : S) (images images_after : List Entry)
    (result : Result A RunError) (reported : List ℕ → Answered) : Type 0 where
  -- all answers stand written, and the script's images are there
  pub text : OnOk result (IfSome (remaining reader)
      (λ script. Appends (contents writer) (contents writer_after) (reported script).text))
  pub all_images : OnOk result (IfSome (remaining reader)
      (λ script. images_after ≡ (reported script).state.images))
  pub same_flag : OnOk result (push_failed writer_after ≡ push_failed writer)
  -- else some of the images that the script adds are there, in order
  pub added : OnErr result (IfSome (remaining reader)
      (λ script. HasSome images (reported script).state.images images_after))
  pub memory : result ≡ Err Memory → IfSome (remaining reader)
      (λ script. AddsFront (contents writer) (contents writer_after) (reported script).text)
  -- a reader's fault is shown, and only that, and before anything is written
  pub read_answer : pull_failed reader_after ≡ true → result ≡ Err ReadFault
  pub read_fault : result ≡ Err ReadFault
      → (pull_failed reader_after ≡ true) × (writer_after ≡ writer) × (images_after ≡ images)
  -- a writer's fault is shown, and only that
  pub write_answer : push_failed writer ≡ false → push_failed writer_after ≡ true → result ≡ Err WriteFault
  pub write_fault : result ≡ Err WriteFault → push_failed writer_after ≡ true
  -- a script has 1,048,576 bytes at most, and no more than one byte after these is asked for
  pub too_long : result ≡ Err ScriptTooLong → (writer_after ≡ writer) × (images_after ≡ images)
      × IfSome (remaining reader) (λ script. 1048576 < length script)
  pub never_long : IfSome (remaining reader) (λ script. 1048576 < length script → IsErr result)
  pub few_pulls : PullsAtMost (pulls reader) (pulls reader_after) 1048577
