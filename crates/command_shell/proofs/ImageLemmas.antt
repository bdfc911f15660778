-- No line takes an image away, so after some lines of a script the images are a front of those
-- after all of them.
use Rattle.std.proofs.Common.{◌≡◌, ℕ, zero, suc, ◌+◌, Bool, true, false, List, [], ◌∷◌, ◌++◌, Option, Some, None, Result, Ok, length, Err, sym, ◌∙◌, refl, subst, inl, inr}
use Rattle.std.specs.Prelude.{IfSome, IsOkUnless, MatchOption, OnErr, OnOk, codes, ◌⊎◌}
use Rattle.std.specs.Str.Lines.{lines}
use Rattle.profile.specs.Sizes.{Sizes}
use Rattle.profile.specs.Fault.{Fault}
use Rattle.profile.specs.declared.stop.Stop.{Stop}
use Rattle.profile.specs.declared.stop.Stop.TheVariants as stop
use Rattle.profile.specs.images.Entries.{Entry, bytes_of_image, refusal_for}
use Rattle.profile.specs.declared.images.error.ImageError.{ImageError}
use Rattle.profile.specs.declared.images.error.ImageError.TheVariants as image
use Rattle.assembler.specs.Passes.{means_lines}
use Rattle.assembler.specs.declared.error.AsmError.{AsmError}
use Rattle.command_shell_lines.specs.Reason.TheVariants.{Memory}
use Rattle.debugger.specs.Flex.{flex_text}
use Rattle.debugger.specs.Heap.{heap_blocks_text}
use Rattle.debugger.specs.Boot.{machine_after_boot}
use Rattle.debugger.specs.Writes.{machine_after_poke}
use Rattle.debugger.specs.MachineState.{MachineState, StepOutcome}
use Rattle.debugger.specs.Step.{machine_step, module_loaded, store_called}
use Rattle.debugger.specs.BootError.{BootError}
use Rattle.debugger.specs.Breaks.{with_break, without_break}
use Rattle.debugger.specs.BreakError.{BreakError}
use Rattle.command_shell_lines.specs.Blocks.{block_bytes, block_lines, lines_after, lines_taken}
use Rattle.command_shell_lines.specs.Requests.{Request, Nothing, Hex, Asm, Boot, Run, Regs, Set, Poke, Call, Load, Step, Break, Unbreak, Mem, Code, Heap, Areas, Modules, Flex, Unknown, opens_block, request_of, is_end_of_block}
use Rattle.command_shell.specs.Answers.{break_text, unbreak_text}
use Rattle.command_shell.specs.Calls.{call_end, call_made, call_unless, end_answer, answer_after_steps, finished_by, step_made, step_then, stop_before_step, stop_answer}
use Rattle.command_shell.specs.Fronts.{IsFront, HasSome, AreOldOrAnswer}
use Rattle.command_shell.specs.Images.{asm_block, asm_answer, boot_done, boot_found, boot_answer, hex_block, hex_answer, image_added, image_opened}
use Rattle.command_shell.specs.Memory.{poke_done}
use Rattle.command_shell.specs.Script.{OpenBlock, at_the_end, answer_to_block, in_block, lines_answer, on_line, on_opened, request_answer, script_answer}
use Rattle.command_shell.specs.State.{ScriptState, Answered, IsAnswered, script_start_state}
use Rattle.command_shell.specs.Stepping.{breaks_changed}
use Rattle.command_shell.specs.Views.{flex_answer, heap_answer, shown_or}
use Rattle.command_shell.specs.declared.calls.CallEnd.{CallEnd}
use Rattle.command_shell.specs.declared.calls.CallEnd.TheVariants as end
use Rattle.command_shell.specs.declared.error.RunError.{RunError}
use Rattle.command_shell.specs.declared.error.RunError.TheVariants as run
use Rattle.profile.specs.Output.{AddsFront}
use Rattle.command_shell.proofs.FrontLemmas.{AddsFront-start, IsFront-same, IsFront-is, IsFront-then}
use Rattle.command_shell.proofs.ScriptLemmas.{state_step}

-- an answer after which all the images of before are there
abbrev pub Keeps : ScriptState → Answered → Type 0
Keeps s reported = IsFront s.images reported.state.images

keeps_all : (s : ScriptState) (reported : Answered) → reported.state.images ≡ s.images → Keeps s reported
keeps_all s reported e = IsFront-is s.images reported.state.images e

-- HEX and ASM

image_added_keeps : (s : ScriptState) (word name bytes : List ℕ) (o : Option ImageError)
    → Keeps s (image_added s word name bytes o)
image_added_keeps s word name bytes (Some error) = IsFront-same s.images
image_added_keeps s word name bytes None = record { rest = record { name = name; bytes = bytes } ∷ []; whole = refl }

image_opened_keeps : (s : ScriptState) (word name : List ℕ) (meant : Answered) (o : Option ImageError) → Keeps s meant
    → Keeps s (image_opened s word name meant o)
image_opened_keeps s word name meant (Some error) keeps = IsFront-same s.images
image_opened_keeps s word name meant None keeps = keeps

hex_block_keeps : (s : ScriptState) (name : List ℕ) (block : Result (List ℕ) ℕ) → Keeps s (hex_block s name block)
hex_block_keeps s name (Err line) = IsFront-same s.images
hex_block_keeps s name (Ok bytes) =
    image_added_keeps s (codes "hex ") name bytes (refusal_for s.images name (length bytes))

asm_block_keeps : (s : ScriptState) (name : List ℕ) (block : Result (List ℕ) AsmError)
    → Keeps s (asm_block s name block)
asm_block_keeps s name (Err e) = IsFront-same s.images
asm_block_keeps s name (Ok bytes) =
    image_added_keeps s (codes "asm ") name bytes (refusal_for s.images name (length bytes))

hex_keeps : (s : ScriptState) (name : List ℕ) (block : List (List ℕ)) → Keeps s (hex_answer s name block)
hex_keeps s name block =
    image_opened_keeps s (codes "hex ") name (hex_block s name (block_bytes 0 block)) (refusal_for s.images name 0)
    (hex_block_keeps s name (block_bytes 0 block))

asm_keeps : (s : ScriptState) (name : List ℕ) (origin : ℕ) (block : List (List ℕ))
    → Keeps s (asm_answer s name origin block)
asm_keeps s name origin block =
    image_opened_keeps s (codes "asm ") name (asm_block s name (means_lines block origin)) (refusal_for s.images name 0)
    (asm_block_keeps s name (means_lines block origin))

-- BOOT and POKE

boot_done_keeps : (s : ScriptState) (name : List ℕ) (o : Result MachineState BootError)
    → (boot_done s name o).state.images ≡ s.images
boot_done_keeps s name (Ok machine) = refl
boot_done_keeps s name (Err error) = refl

boot_found_keeps : (s : ScriptState) (name : List ℕ) (o : Option (List ℕ))
    → (boot_found s name o).state.images ≡ s.images
boot_found_keeps s name None = refl
boot_found_keeps s name (Some program) = boot_done_keeps s name (machine_after_boot s.sizes s.is_fresh s.machine program)

poke_done_keeps : (s : ScriptState) (o : Result MachineState Fault) → (poke_done s o).state.images ≡ s.images
poke_done_keeps s (Ok machine) = refl
poke_done_keeps s (Err fault) = refl

-- BREAK and UNBREAK

breaks_changed_keeps : (s : ScriptState) (text : List ℕ) (o : Result (List ℕ) BreakError)
    → (breaks_changed s text o).state.images ≡ s.images
breaks_changed_keeps s text (Ok breaks) = refl
breaks_changed_keeps s text (Err error) = refl

-- HEAP and FLEX

shown_keeps : (s : ScriptState) (refusal : List ℕ) (o : Option (List ℕ))
    → (shown_or s refusal o).state.images ≡ s.images
shown_keeps s refusal None = refl
shown_keeps s refusal (Some text) = refl

heap_keeps : (s : ScriptState) (address : ℕ) → (heap_answer s address).state.images ≡ s.images
unfolding heap_answer
heap_keeps s address = shown_keeps s (codes "NoHeap") (heap_blocks_text s.machine.store address)

flex_keeps : (s : ScriptState) → (flex_answer s).state.images ≡ s.images
unfolding flex_answer
flex_keeps s = shown_keeps s (codes "NoFlex") (flex_text s.machine.store.bytes s.machine.tables.flex)

-- CALL and LOAD

end_answer_keeps : (s : ScriptState) (e : CallEnd) → (end_answer s e).state.images ≡ s.images
end_answer_keeps s end.Returned = refl
end_answer_keeps s (end.Stopped stop) = refl

finished_by_keeps : (s : ScriptState) (o : Option CallEnd) (more : Answered) → more.state.images ≡ s.images
    → (finished_by s o more).state.images ≡ s.images
finished_by_keeps s (Some e) more keeps = end_answer_keeps s e
finished_by_keeps s None more keeps = keeps

finished_keeps : (frames n : ℕ) (s : ScriptState) → (answer_after_steps frames n s).state.images ≡ s.images
unfolding answer_after_steps
finished_keeps frames zero s = finished_by_keeps s (call_end s frames) (stop_answer s stop.Budget) refl
finished_keeps frames (suc n) s =
    let step = machine_step s.images s.machine in
    finished_by_keeps s (call_end s frames) (step_then s step (answer_after_steps frames n))
    (finished_keeps frames n (step_made s step))

call_unless_keeps : (s : ScriptState) (first : StepOutcome) (o : Option Stop)
    → (call_unless s first o).state.images ≡ s.images
call_unless_keeps s first (Some stop) = refl
call_unless_keeps s first None =
    finished_keeps (length s.machine.tables.frames) (step_made s first).left (step_made s first)

call_keeps : (s : ScriptState) (first : StepOutcome) → (call_made s first).state.images ≡ s.images
unfolding call_made
call_keeps s first = call_unless_keeps s first (stop_before_step s)

-- no line takes an image away
pub line_keeps : (s : ScriptState) (number : ℕ) (r : Request) (block : List (List ℕ))
    → Keeps s (request_answer s number r block)
line_keeps s number (Hex name) block = hex_keeps s name block
line_keeps s number (Asm name origin) block = asm_keeps s name origin block
line_keeps s number Nothing block = IsFront-same s.images
line_keeps s number (Boot name) block =
    keeps_all s (boot_answer s name) (boot_found_keeps s name (bytes_of_image s.images name))
line_keeps s number Run block = IsFront-same s.images
line_keeps s number Regs block = IsFront-same s.images
line_keeps s number (Set register value) block = IsFront-same s.images
line_keeps s number (Poke address value) block =
    keeps_all s (poke_done s (machine_after_poke s.machine address value)) (poke_done_keeps s (machine_after_poke s.machine address value))
line_keeps s number (Call called) block =
    let first = store_called s.images s.machine called in keeps_all s (call_made s first) (call_keeps s first)
line_keeps s number (Load text) block =
    let first = module_loaded s.images s.machine text in keeps_all s (call_made s first) (call_keeps s first)
line_keeps s number (Step count) block = IsFront-same s.images
line_keeps s number (Break address) block =
    let reported = breaks_changed s (break_text address) (with_break s.breaks address) in
    keeps_all s reported (breaks_changed_keeps s (break_text address) (with_break s.breaks address))
line_keeps s number (Unbreak address) block =
    let reported = breaks_changed s (unbreak_text address) (without_break s.breaks address) in
    keeps_all s reported (breaks_changed_keeps s (unbreak_text address) (without_break s.breaks address))
line_keeps s number (Mem address count) block = IsFront-same s.images
line_keeps s number (Code address count) block = IsFront-same s.images
line_keeps s number (Heap address) block = keeps_all s (heap_answer s address) (heap_keeps s address)
line_keeps s number Areas block = IsFront-same s.images
line_keeps s number Modules block = IsFront-same s.images
line_keeps s number Flex block = keeps_all s (flex_answer s) (flex_keeps s)
line_keeps s number Unknown block = IsFront-same s.images

-- Lines that follow, none of which takes an image away.
abbrev AllKeep : (ScriptState → Option OpenBlock → Answered) → Type 0
AllKeep next = (s : ScriptState) (o : Option OpenBlock) → Keeps s (next s o)

opened_keeps : (s : ScriptState) (number : ℕ) (r : Request) (b : Bool)
    (next : ScriptState → Option OpenBlock → Answered) → AllKeep next → Keeps s (on_opened s number r b next)
opened_keeps s number r true next keep = keep s (Some (record { request = r; number = number; block = [] }))
opened_keeps s number r false next keep =
    IsFront-then (line_keeps s number r []) (keep (request_answer s number r []).state None)

in_block_keeps : (s : ScriptState) (o : OpenBlock) (line : List ℕ) (b : Bool)
    (next : ScriptState → Option OpenBlock → Answered) → AllKeep next → Keeps s (in_block s o line b next)
in_block_keeps s o line true next keep =
    IsFront-then (line_keeps s o.number o.request o.block) (keep (answer_to_block s o).state None)
in_block_keeps s o line false next keep = keep s (Some (record o { block = o.block ++ line ∷ [] }))

on_line_keeps : (s : ScriptState) (number : ℕ) (o : Option OpenBlock) (line : List ℕ)
    (next : ScriptState → Option OpenBlock → Answered) → AllKeep next → Keeps s (on_line s number o line next)
on_line_keeps s number None line next keep =
    opened_keeps s number (request_of line) (opens_block (request_of line)) next keep
on_line_keeps s number (Some o) line next keep = in_block_keeps s o line (is_end_of_block line) next keep

end_keeps : (s : ScriptState) (o : Option OpenBlock) → Keeps s (at_the_end s o)
end_keeps s None = IsFront-same s.images
end_keeps s (Some o) = line_keeps s o.number o.request o.block

-- nor do the lines of a script
pub lines_keep : (number : ℕ) (s : ScriptState) (o : Option OpenBlock) (left : List (List ℕ))
    → Keeps s (lines_answer number s o left)
unfolding lines_answer
lines_keep number s o [] = end_keeps s o
lines_keep number s o (line ∷ rest) =
    on_line_keeps s (number + 1) o line (λ after still. lines_answer (number + 1) after still rest)
    (λ after still. lines_keep (number + 1) after still rest)

-- SCRIPTS THAT END BEFORE THEIR LAST LINE

HasSome-at : (old now new all : List Entry) → new ≡ now → IsFront old now → IsFront now all → HasSome old all new
HasSome-at old now new all e before after =
    subst (λ (xs : List Entry). HasSome old all xs) (sym e) (record { keeps = before; in_order = after })

stops_by : (old new : List Entry) (s : ScriptState) (reported all : Answered)
    → (new ≡ s.images) ⊎ (new ≡ reported.state.images)
    → IsFront old s.images → Keeps s reported → IsFront reported.state.images all.state.images
    → HasSome old all.state.images new
stops_by old new s reported all (inl e) before line after =
    HasSome-at old s.images new all.state.images e before (IsFront-then line after)
stops_by old new s reported all (inr e) before line after =
    HasSome-at old reported.state.images new all.state.images e (IsFront-then before line) after

rest_keeps : (number here : ℕ) (s : ScriptState) (line : List ℕ) (rest : List (List ℕ)) (r : Request) (all : Answered)
    → here ≡ number + 1 → r ≡ request_of line → (lines_answer number s None (line ∷ rest)).state ≡ all.state
    → IsFront (request_answer s here r (block_lines rest)).state.images all.state.images
rest_keeps number here s line rest r all at is same =
    let after = (request_answer s here r (block_lines rest)).state in
    let next = here + lines_taken (opens_block r) rest in
    let left = lines_after (opens_block r) rest in
    let ends : (lines_answer next after None left).state ≡ all.state =
    sym (state_step number here next s after line rest left r at is refl refl refl) ∙ same in
    subst (λ (w : ScriptState). IsFront after.images w.images) ends (lines_keep next after None left)

-- a script that stops at a line of it
pub stops_at : (old new : List Entry) (number here : ℕ) (s : ScriptState) (line : List ℕ) (left rest : List (List ℕ))
    (r : Request) (all : Answered)
    → left ≡ line ∷ rest → here ≡ number + 1 → r ≡ request_of line
    → (lines_answer number s None left).state ≡ all.state → IsFront old s.images
    → AreOldOrAnswer s.images new (request_answer s here r (block_lines rest))
    → HasSome old all.state.images new
stops_at old new number here s line left rest r all first at is same before stopped =
    let whole : (lines_answer number s None (line ∷ rest)).state ≡ all.state =
    subst (λ (xs : List (List ℕ)). (lines_answer number s None xs).state ≡ all.state) first same in
    stops_by old new s (request_answer s here r (block_lines rest)) all stopped before
    (line_keeps s here r (block_lines rest)) (rest_keeps number here s line rest r all at is whole)

-- the images after one more line
pub front_more : (old now : List Entry) (s : ScriptState) (reported : Answered) → IsFront old s.images → Keeps s reported
    → now ≡ reported.state.images → IsFront old now
front_more old now s reported before line e = IsFront-then before (IsFront-then line (IsFront-is reported.state.images now e))

-- what holds whatever the error is
pub at_err : {U E : Type 0} (r : Result U E) (P : Type 0) → P → OnErr r P
at_err (Ok u) P holds = tt
at_err (Err e) P holds = holds

script_keeps : (sizes : Sizes) (images : List Entry) (budget : ℕ) (script : List ℕ)
    → IsFront images (script_answer sizes images budget script).state.images
unfolding script_answer script_start_state
script_keeps sizes images budget script = lines_keep 0 (script_start_state sizes images budget) None (lines script)

-- a script of which no line is answered
pub none_added : (o : Option (List ℕ)) (sizes : Sizes) (images : List Entry) (budget : ℕ)
    → IfSome o (λ script. HasSome images (script_answer sizes images budget script).state.images images)
none_added None sizes images budget = tt
none_added (Some script) sizes images budget =
    record { keeps = IsFront-same images; in_order = script_keeps sizes images budget script }

-- nothing is written yet
pub none_written : (held : Option (List ℕ)) (o : Option (List ℕ)) (sizes : Sizes) (images : List Entry) (budget : ℕ)
    → IfSome o (λ script. AddsFront held held (script_answer sizes images budget script).text)
none_written held None sizes images budget = tt
none_written held (Some script) sizes images budget = AddsFront-start held (script_answer sizes images budget script).text

-- BLOCKS THAT WERE ASSEMBLED

-- what memory ran out for
abbrev pub no_room : AsmError
no_room = record { line = 0; reason = Memory }

-- Where a block could be assembled, its answer is that of what its lines mean,
pub assembled_answer : {U : Type 0} (r : Result U RunError) (b c : Option (List ℕ)) (now s : ScriptState) (name : List ℕ)
    (a meant : Result (List ℕ) AsmError)
    → ((a ≡ Err no_room → ⊥) → a ≡ meant) → (a ≡ Err no_room → r ≡ Err run.Memory)
    → OnOk r (IsAnswered b c now (asm_block s name a)) → OnOk r (IsAnswered b c now (asm_block s name meant))
assembled_answer (Ok u) b c now s name a meant turns none reported =
    subst (λ (x : Result (List ℕ) AsmError). IsAnswered b c now (asm_block s name x))
    (turns (λ at. absurd (let e = none at in cc))) reported
assembled_answer (Err e) b c now s name a meant turns none reported = tt

-- and else no image is added
pub assembled_images : {U : Type 0} (r : Result U RunError) (new : List Entry) (s : ScriptState) (name : List ℕ)
    (a meant : Result (List ℕ) AsmError)
    → ((a ≡ Err no_room → ⊥) → a ≡ meant) → OnErr r (AreOldOrAnswer s.images new (asm_block s name a))
    → OnErr r (AreOldOrAnswer s.images new (asm_block s name meant))
assembled_images (Ok u) new s name a meant turns stopped = tt
assembled_images (Err e) new s name (Err f) meant turns (inl old) = inl old
assembled_images (Err e) new s name (Err f) meant turns (inr old) = inl old
assembled_images (Err e) new s name (Ok bytes) meant turns stopped =
    subst (λ (x : Result (List ℕ) AsmError). AreOldOrAnswer s.images new (asm_block s name x))
    (turns (λ at. absurd (cc))) stopped

-- IMAGES THAT ARE ADDED

-- one that was added was not refused,
pub none_refused : {U : Type 0} {u : U} (o : Option ImageError) (r : Result U ImageError)
    → MatchOption o (IsOkUnless r image.Memory) (λ e. r ≡ Err e) → r ≡ Ok u → o ≡ None
none_refused None r refused is = refl
none_refused (Some e) r refused is = absurd (let both = sym refused ∙ is in cc)

memory_alone : {U : Type 0} (r : Result U ImageError) (error : ImageError) → IsOkUnless r image.Memory → r ≡ Err error
    → error ≡ image.Memory
memory_alone (Ok u) error unless is = absurd (cc)
memory_alone (Err e) error unless is = (let both = unless in cc)

-- and one that was refused for another reason than memory was refused by the table
pub is_refused : {U : Type 0} (o : Option ImageError) (r : Result U ImageError) (error : ImageError)
    → MatchOption o (IsOkUnless r image.Memory) (λ e. r ≡ Err e) → r ≡ Err error → (error ≡ image.Memory → ⊥)
    → o ≡ Some error
is_refused None r error refused is other = absurd (other (memory_alone r error refused is))
is_refused (Some e) r error refused is other = let both = sym refused ∙ is in cc
