-- What a line leaves of the labels and of the failed blocks by what it is, and what is written of it, refused or not.
use Rattle.std.proofs.Common.{◌≡◌, ℕ, true, List, Option, Bor, ap, refl, sym, ◌∙◌}
use Rattle.std.specs.Io.KnownBytes.{Appends}
use Rattle.profile.specs.images.Entries.{Entry, bytes_of_image}
use Rattle.command_shell_lines.specs.FailedBlocks.{FailedBlockPlace}
use Rattle.command_shell_lines.specs.Requests.{Request, Asm, request_of_command}
use Rattle.command_shell_lines.specs.declared.requests.ScriptCommand.{ScriptCommand}
use Rattle.command_shell_lines.specs.declared.requests.ScriptCommand.TheVariants as line
use Rattle.debug_modules.specs.CheckTally.{CheckTally}
use Rattle.debug_modules.specs.Labels.{ImageLabels}
use Rattle.debug_modules.specs.Reports.{report_of_refusal, with_refusal}
use Rattle.debug_tables.specs.Passes.{labels_of_lines}
use Rattle.debug_session.specs.DebugScript.{answer_or_refused, failed_with_block}
use Rattle.debug_session.specs.DebugState.{DebugState, IsDebugged}
use Rattle.debug_session.specs.Naming.{labels_with_block, labels_with_image}
use Rattle.debug_session.specs.declared.session.DebugSettings.{DebugSettings}

-- an ASM block, by what is found of its image
pub labels_of_asm : (labels : List ImageLabels) (images : List Entry) (r : Request) (name : List ℕ) (origin : ℕ)
    (block : List (List ℕ)) (found : Option (List ℕ)) → r ≡ Asm name origin → found ≡ bytes_of_image images name
    → labels_with_image labels name origin found (labels_of_lines block origin) ≡ labels_with_block labels images r block
labels_of_asm labels images r name origin block found is there =
    ap (λ (o : Option (List ℕ)). labels_with_image labels name origin o (labels_of_lines block origin)) there
    ∙ ap (λ (q : Request). labels_with_block labels images q block) (sym is)

-- any line but ASM
pub labels_elsewhere : (labels : List ImageLabels) (images : List Entry) (command : ScriptCommand) (block : List (List ℕ))
    → ((name : Bor (List ℕ)) (origin : ℕ) → command ≡ line.Asm name origin → ⊥)
    → labels ≡ labels_with_block labels images (request_of_command command) block
labels_elsewhere labels images (line.Asm name origin) block other = absurd (other name origin refl)
labels_elsewhere labels images (line.Hex name) block other = refl
labels_elsewhere labels images line.Nothing block other = refl
labels_elsewhere labels images (line.Boot name) block other = refl
labels_elsewhere labels images line.Run block other = refl
labels_elsewhere labels images line.Regs block other = refl
labels_elsewhere labels images (line.Set register value) block other = refl
labels_elsewhere labels images (line.Poke address value) block other = refl
labels_elsewhere labels images (line.Call called) block other = refl
labels_elsewhere labels images (line.Load text) block other = refl
labels_elsewhere labels images (line.Step count) block other = refl
labels_elsewhere labels images (line.Break address) block other = refl
labels_elsewhere labels images (line.Unbreak address) block other = refl
labels_elsewhere labels images (line.Mem address count) block other = refl
labels_elsewhere labels images (line.Code address count) block other = refl
labels_elsewhere labels images (line.Heap address) block other = refl
labels_elsewhere labels images line.Areas block other = refl
labels_elsewhere labels images line.Modules block other = refl
labels_elsewhere labels images line.Flex block other = refl
labels_elsewhere labels images line.Unknown block other = refl

-- any line that opens no block
pub failed_elsewhere : (failed : List FailedBlockPlace) (number : ℕ) (command : ScriptCommand) (block : List (List ℕ))
    → ((name : Bor (List ℕ)) (origin : ℕ) → command ≡ line.Asm name origin → ⊥)
    → ((name : Bor (List ℕ)) → command ≡ line.Hex name → ⊥)
    → failed ≡ failed_with_block failed number (request_of_command command) block
failed_elsewhere failed number (line.Asm name origin) block other also = absurd (other name origin refl)
failed_elsewhere failed number (line.Hex name) block other also = absurd (also name refl)
failed_elsewhere failed number line.Nothing block other also = refl
failed_elsewhere failed number (line.Boot name) block other also = refl
failed_elsewhere failed number line.Run block other also = refl
failed_elsewhere failed number line.Regs block other also = refl
failed_elsewhere failed number (line.Set register value) block other also = refl
failed_elsewhere failed number (line.Poke address value) block other also = refl
failed_elsewhere failed number (line.Call called) block other also = refl
failed_elsewhere failed number (line.Load text) block other also = refl
failed_elsewhere failed number (line.Step count) block other also = refl
failed_elsewhere failed number (line.Break address) block other also = refl
failed_elsewhere failed number (line.Unbreak address) block other also = refl
failed_elsewhere failed number (line.Mem address count) block other also = refl
failed_elsewhere failed number (line.Code address count) block other also = refl
failed_elsewhere failed number (line.Heap address) block other also = refl
failed_elsewhere failed number line.Areas block other also = refl
failed_elsewhere failed number line.Modules block other also = refl
failed_elsewhere failed number line.Flex block other also = refl
failed_elsewhere failed number line.Unknown block other also = refl

-- a refusal, and counted
pub shown_refused : (before after : Option (List ℕ)) (c : DebugSettings) (d : DebugState) (number : ℕ) (text : List ℕ)
    (tally : CheckTally) → tally ≡ with_refusal d.tally → Appends before after (report_of_refusal c.form d.tally number text)
    → IsDebugged before after (record d { tally = tally }) (answer_or_refused c d number true d text)
shown_refused before after c d number text tally counted shown = record {
  text = shown;
  state = ap (λ (t : CheckTally). let now : DebugState = record d { tally = t } in now) counted;
}
