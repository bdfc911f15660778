-- What is kept of each line of a script is what it did.
use Rattle.std.proofs.Common.{◌≡◌, ◌≤◌, ℕ, Bool, true, false, zero, suc, ◌+◌, ◌-◌, ◌==◌, Option, Some, None, Result, Ok, Err, inl, inr, List, [], ◌∷◌, ◌++◌, length, refl, sym, ◌∙◌, ap, subst, arith, if◌then◌else◌}
use Rattle.std.specs.Prelude.{codes, is_some, min, nat_le, nat_lt, not, ◌||◌, ◌&&◌}
use Rattle.std.specs.Str.{bytes_eq}
use Rattle.std.proofs.lemmas.Slice.Eq.{bytes_eq-Decides}
use Rattle.std.proofs.lemmas.Bool.{cases_Bool}
use Rattle.std.proofs.lemmas.Bool.Decides.{nat_tests}
use Rattle.profile.specs.Sizes.{Sizes}
use Rattle.debug_history.specs.declared.act.Act.{Act}
use Rattle.arm_core.specs.declared.breaks.breaks.BreakError.{BreakError}
use Rattle.arm_core.specs.breaks.Breaks.{with_break, without_break}
use Rattle.profile.specs.images.Entries.{Entry, bytes_of_image, can_name_image, refusal_for, with_entry, without_entry}
use Rattle.profile.specs.Fault.{Fault}
use Rattle.debug_labels.specs.Boot.{machine_after_boot}
use Rattle.debug_labels.specs.BootError.{BootError}
use Rattle.debug_tables.specs.MachineState.{MachineState, StepOutcome}
use Rattle.debug_tables.specs.Step.{module_loaded, store_called}
use Rattle.debug_labels.specs.Writes.{machine_after_poke}
use Rattle.debug_labels.specs.Halt.{Halt}
use Rattle.profile.specs.declared.images.error.ImageError.{ImageError}
use Rattle.profile.specs.declared.images.error.ImageError.TheVariants.{BadName, NameTaken, TooLarge, TableFull}
use Rattle.debug_lines.specs.LineKinds.{is_refused_block}
use Rattle.debug_tables.specs.AsmError.{AsmError}
use Rattle.debug_tables.specs.Passes.{means_lines}
use Rattle.command_shell_lines.specs.Blocks.{block_bytes}
use Rattle.debug_tables.specs.Answers.{break_text, unbreak_text}
use Rattle.debug_tables.specs.Images.{asm_block, asm_answer, boot_done, boot_found, hex_block, hex_answer, image_added, image_opened, image_sized}
use Rattle.debug_tables.specs.Memory.{poke_done, script_with_machine, script_with_register}
use Rattle.debug_tables.specs.Script.{request_answer}
use Rattle.debug_tables.specs.State.{Answered, ScriptState}
use Rattle.debug_tables.specs.Stepping.{breaks_changed}
use Rattle.debug_tables.specs.Views.{flex_answer, heap_answer, shown_or}
use Rattle.command_shell_lines.specs.Requests.{Request, Areas, Asm, Boot, Break, Call, Code, Flex, Heap, Hex, Load, Mem, Modules, Nothing, Poke, Regs, Run, Set, Step, Unbreak, Unknown}
use Rattle.debug_history.specs.Acts.{PastMoment, fresh_moment, is_anew, moment_after_acts, moment_after_boot, moment_after_deed, moment_after_program, moment_after_word, moment_of_script}
use Rattle.debug_history.specs.Laws.{IsPastOf, NotedIsDone}
use Rattle.debug_history.specs.Noted.{past_with_deed}
use Rattle.debug_history.specs.Past.{PastState, ends_anew, past_from_start, past_with_images, past_with_other_images}
use Rattle.debug_history.specs.declared.act.PastDeed.{PastDeed}
use Rattle.debug_history.specs.declared.act.PastDeed.TheVariants as deed
use Rattle.debug_history.proofs.CallNotedLemmas.{IsCallOf, call_noted}
use Rattle.debug_history.proofs.NotedLemmas.{deed_noted, nothing_noted, run_noted}

-- calls from outside of a halted machine
called_halted : (images : List Entry) (s : MachineState) (number : ℕ) (h : Halt) → s.halt ≡ Some h → (store_called images s number).now ≡ s
unfolding store_called
called_halted images s number h e = rw e refl

loaded_halted : (images : List Entry) (s : MachineState) (text : List ℕ) (h : Halt) → s.halt ≡ Some h → (module_loaded images s text).now ≡ s
unfolding module_loaded
loaded_halted images s text h e = rw e refl

pub is_call : (s : ScriptState) (number : ℕ) → IsCallOf s (store_called s.images s.machine number) (deed.Call number)
is_call s number = record { deed = λ b. refl; halted = λ h e. called_halted s.images s.machine number h e }

pub is_load : (s : ScriptState) (text : List ℕ) → IsCallOf s (module_loaded s.images s.machine text) (deed.Load text)
is_load s text = record { deed = λ b. refl; halted = λ h e. loaded_halted s.images s.machine text h e }

-- lines that only look
shown_same : (s : ScriptState) (refusal : List ℕ) (o : Option (List ℕ)) → (shown_or s refusal o).state ≡ s
shown_same s refusal None = refl
shown_same s refusal (Some text) = refl

past_same : (s now : ScriptState) (p : PastState) → now ≡ s → IsPastOf s p → IsPastOf now p
past_same s now p e was = subst (λ (t : ScriptState). IsPastOf t p) (sym e) was

heap_same : (s : ScriptState) (address : ℕ) → (heap_answer s address).state ≡ s
unfolding heap_answer
heap_same s address = shown_same s (codes "NoHeap") _

flex_same : (s : ScriptState) → (flex_answer s).state ≡ s
unfolding flex_answer
flex_same s = shown_same s (codes "NoFlex") _

-- lines that change breaks
breaks_noted : (s : ScriptState) (p : PastState) (text : List ℕ) (r : Result (List ℕ) BreakError) → IsPastOf s p
    → IsPastOf (breaks_changed s text r).state p
breaks_noted s p text (Ok breaks) was = was
breaks_noted s p text (Err error) was = was

-- lines that add images
abbrev pub SameBut : ScriptState → Answered → Type 0
SameBut s a = (moment_of_script a.state ≡ moment_of_script s) × (a.state.sizes ≡ s.sizes)

added_same : (s : ScriptState) (word name bytes : List ℕ) (o : Option ImageError) → SameBut s (image_added s word name bytes o)
added_same s word name bytes (Some error) = (refl, refl)
added_same s word name bytes None = (refl, refl)

opened_same : (s : ScriptState) (word name : List ℕ) (meant : Answered) (o : Option ImageError) → SameBut s meant
    → SameBut s (image_opened s word name meant o)
opened_same s word name meant (Some error) h = (refl, refl)
opened_same s word name meant None h = h

hex_same : (s : ScriptState) (name : List ℕ) (r : Result (List ℕ) ℕ) → SameBut s (hex_block s name r)
hex_same s name (Err line) = (refl, refl)
hex_same s name (Ok bytes) = added_same s (codes "hex ") name bytes (refusal_for s.images name (length bytes))

asm_same : (s : ScriptState) (name : List ℕ) (r : Result (List ℕ) AsmError) → SameBut s (asm_block s name r)
asm_same s name (Err e) = (refl, refl)
asm_same s name (Ok bytes) = added_same s (codes "asm ") name bytes (refusal_for s.images name (length bytes))

-- A block that is refused leaves all as it was, since one that isn't makes an image that wasn't there.
abbrev IsRefusedBy : ScriptState → List ℕ → Answered → Type 0
IsRefusedBy s name a = (is_some (bytes_of_image s.images name) || not (is_some (bytes_of_image a.state.images name))) ≡ true

same_name : (name : List ℕ) → bytes_eq name name ≡ true
same_name name = grind (arith, bytes_eq-Decides name name)

there_with : (es : List Entry) (name bytes : List ℕ) → is_some (bytes_of_image (with_entry es name bytes) name) ≡ true
there_with [] name bytes = rw (same_name name) refl
there_with (e ∷ es) name bytes = elim (cases_Bool (bytes_eq e.name name)) [
  | inl is ↦ rw is refl
  | inr isn't ↦ rw isn't (there_with es name bytes)
]

not_there : (can there large full : Bool)
    → (if not can then Some BadName else (if there then Some NameTaken else (if large then Some TooLarge else (if full then Some TableFull else None)))) ≡ None
    → there ≡ false
not_there can false large full none = refl
not_there false true large full none = absurd (cc)
not_there true true large full none = absurd (cc)

neither : (was is : Bool) (P : Type 0) → was ≡ false → is ≡ true → (was || not is) ≡ true → P
neither true is P gone there either = absurd (cc)
neither false false P gone there either = absurd (cc)
neither false true P gone there either = absurd (cc)

added_refused : (s : ScriptState) (word name bytes : List ℕ) (o : Option ImageError) → refusal_for s.images name (length bytes) ≡ o
    → IsRefusedBy s name (image_added s word name bytes o) → (image_added s word name bytes o).state ≡ s
added_refused s word name bytes (Some error) is refused = refl
added_refused s word name bytes None is refused =
    neither (is_some (bytes_of_image s.images name)) (is_some (bytes_of_image (with_entry s.images name bytes) name)) _
    (not_there (can_name_image name) (is_some (bytes_of_image s.images name)) (nat_lt 1048576 (length bytes)) (nat_le 64 (length s.images)) is)
    (there_with s.images name bytes) refused

opened_refused : (s : ScriptState) (word name : List ℕ) (meant : Answered) (o : Option ImageError)
    → (IsRefusedBy s name meant → meant.state ≡ s)
    → IsRefusedBy s name (image_opened s word name meant o) → (image_opened s word name meant o).state ≡ s
opened_refused s word name meant (Some error) h refused = refl
opened_refused s word name meant None h refused = h refused

hex_refused : (s : ScriptState) (name : List ℕ) (r : Result (List ℕ) ℕ) → IsRefusedBy s name (hex_block s name r)
    → (hex_block s name r).state ≡ s
hex_refused s name (Err line) refused = refl
hex_refused s name (Ok bytes) refused = added_refused s (codes "hex ") name bytes (refusal_for s.images name (length bytes)) refl refused

asm_refused : (s : ScriptState) (name : List ℕ) (r : Result (List ℕ) AsmError) → IsRefusedBy s name (asm_block s name r)
    → (asm_block s name r).state ≡ s
asm_refused s name (Err e) refused = refl
asm_refused s name (Ok bytes) refused = added_refused s (codes "asm ") name bytes (refusal_for s.images name (length bytes)) refl refused

pub refused_block : (s : ScriptState) (number : ℕ) (r : Request) (block : List (List ℕ))
    → is_refused_block s.images (request_answer s number r block).state.images r ≡ true → (request_answer s number r block).state ≡ s
refused_block s number (Hex name) block is =
    opened_refused s (codes "hex ") name (hex_block s name (block_bytes 0 block)) (refusal_for s.images name 0)
    (hex_refused s name (block_bytes 0 block)) is
refused_block s number (Asm name origin) block is =
    opened_refused s (codes "asm ") name (asm_block s name (means_lines block origin)) (refusal_for s.images name 0)
    (asm_refused s name (means_lines block origin)) is
refused_block s number Nothing block is = absurd (cc)
refused_block s number (Boot name) block is = absurd (cc)
refused_block s number Run block is = absurd (cc)
refused_block s number Regs block is = absurd (cc)
refused_block s number (Set register value) block is = absurd (cc)
refused_block s number (Poke address value) block is = absurd (cc)
refused_block s number (Call called) block is = absurd (cc)
refused_block s number (Load text) block is = absurd (cc)
refused_block s number (Step count) block is = absurd (cc)
refused_block s number (Break address) block is = absurd (cc)
refused_block s number (Unbreak address) block is = absurd (cc)
refused_block s number (Mem address count) block is = absurd (cc)
refused_block s number (Code address count) block is = absurd (cc)
refused_block s number (Heap address) block is = absurd (cc)
refused_block s number Areas block is = absurd (cc)
refused_block s number Modules block is = absurd (cc)
refused_block s number Flex block is = absurd (cc)
refused_block s number Unknown block is = absurd (cc)

-- after acts that leave a machine as it was made, with any images
anew_moment : (images : List Entry) (sizes : Sizes) (d : PastDeed) (m : PastMoment) → is_anew d ≡ true
    → moment_after_deed images sizes d m ≡ fresh_moment sizes
anew_moment images sizes deed.Anew m is = refl
anew_moment images sizes (deed.Steps stubs count) m is = absurd (cc)
anew_moment images sizes deed.FaultingStep m is = absurd (cc)
anew_moment images sizes (deed.Boot name) m is = absurd (cc)
anew_moment images sizes (deed.Call number b) m is = absurd (cc)
anew_moment images sizes (deed.Load text b) m is = absurd (cc)
anew_moment images sizes (deed.Register number value) m is = absurd (cc)
anew_moment images sizes (deed.Word address value) m is = absurd (cc)
anew_moment images sizes (deed.Banked mode number value) m is = absurd (cc)
anew_moment images sizes (deed.Place address) m is = absurd (cc)
anew_moment images sizes (deed.Routine address link) m is = absurd (cc)
anew_moment images sizes (deed.Status status) m is = absurd (cc)
anew_moment images sizes deed.Woken m is = absurd (cc)
anew_moment images sizes (deed.Bytes address bytes) m is = absurd (cc)

stood_anew : (images : List Entry) (sizes : Sizes) (acts : List Act) (m : PastMoment) (b : Bool) → ends_anew b acts ≡ true
    → (b ≡ true → m ≡ fresh_moment sizes) → moment_after_acts images sizes acts m ≡ fresh_moment sizes
unfolding moment_after_acts ends_anew
stood_anew images sizes [] m b is start = start is
stood_anew images sizes (act ∷ rest) m b is start =
    stood_anew images sizes rest (moment_after_deed images sizes act.deed m) (is_anew act.deed) is (anew_moment images sizes act.deed m)

begun : (images : List Entry) (sizes : Sizes) → moment_after_acts images sizes [] (fresh_moment sizes) ≡ fresh_moment sizes
unfolding moment_after_acts
begun images sizes = refl

at_start : (p : PastState) (s : ScriptState) (k b : Bool) → p.is_kept ≡ k → ends_anew true p.acts ≡ b → IsPastOf s p
    → (now : ScriptState) → SameBut s (record { state = now; text = [] }) → IsPastOf now (past_from_start (k && b))
at_start p s true true kept e was now same = λ _.
    same.0 ∙ was kept ∙ stood_anew s.images s.sizes p.acts (fresh_moment s.sizes) true e (λ _. refl)
    ∙ sym (ap fresh_moment same.1) ∙ sym (begun now.images now.sizes)
at_start p s true false kept e was now same = λ k. absurd (cc)
at_start p s false b kept e was now same = λ k. absurd (cc)

pub images_noted : (s : ScriptState) (p : PastState) (a : Answered) → IsPastOf s p → SameBut s a → IsPastOf a.state (past_with_other_images p)
images_noted s p a was same = at_start p s p.is_kept (ends_anew true p.acts) refl refl was a.state same

-- an image that isn't there doesn't go
none_less : (es : List Entry) (name : List ℕ) → is_some (bytes_of_image es name) ≡ false → without_entry es name ≡ es
none_less [] name none = refl
none_less (e ∷ es) name none = elim (cases_Bool (bytes_eq e.name name)) [
  | inl is ↦ absurd (let other : is_some (bytes_of_image (e ∷ es) name) ≡ true = rw is refl in cc (other, none))
  | inr isn't ↦ rw isn't (ap (λ (xs : List Entry). e ∷ xs) (none_less es name (rw isn't at none)))
]

forgotten_by : (s : ScriptState) (p : PastState) (name : List ℕ) (b : Bool) → is_some (bytes_of_image s.images name) ≡ b
    → IsPastOf s p → IsPastOf (record s { images = without_entry s.images name }) (past_with_images b p)
forgotten_by s p name true there was =
    images_noted s p (record { state = record s { images = without_entry s.images name }; text = [] }) was (refl, refl)
forgotten_by s p name false there was =
    subst (λ (es : List Entry). IsPastOf (record s { images = es }) p) (sym (none_less s.images name there)) was

pub image_forgotten : (s : ScriptState) (p : PastState) (name : List ℕ) → IsPastOf s p
    → IsPastOf (record s { images = without_entry s.images name }) (past_with_images (is_some (bytes_of_image s.images name)) p)
image_forgotten s p name was = forgotten_by s p name (is_some (bytes_of_image s.images name)) refl was

-- POKE and BOOT
poke_noted : (s : ScriptState) (p : PastState) (line address value : ℕ) (r : Result MachineState Fault)
    → r ≡ machine_after_poke s.machine address value → IsPastOf s p
    → IsPastOf (poke_done s r).state (past_with_deed p line (deed.Word address value))
poke_noted s p line address value (Ok machine) is was =
    deed_noted s (script_with_machine s machine) p line (deed.Word address value) refl refl was (ap (moment_after_word (moment_of_script s)) is)
poke_noted s p line address value (Err fault) is was =
    deed_noted s s p line (deed.Word address value) refl refl was (ap (moment_after_word (moment_of_script s)) is)

boot_noted_by : (s : ScriptState) (p : PastState) (line : ℕ) (name program : List ℕ) (r : Result MachineState BootError)
    → bytes_of_image s.images name ≡ Some program
    → r ≡ machine_after_boot s.sizes s.is_fresh s.machine program → IsPastOf s p
    → IsPastOf (boot_done s name r).state (past_with_deed p line (deed.Boot name))
boot_noted_by s p line name program (Ok machine) there is was =
    deed_noted s (script_with_machine s machine) p line (deed.Boot name) refl refl was
    (ap (moment_after_program (moment_of_script s)) is ∙ ap (moment_after_boot s.sizes (moment_of_script s)) (sym there))
boot_noted_by s p line name program (Err error) there is was =
    deed_noted s s p line (deed.Boot name) refl refl was
    (ap (moment_after_program (moment_of_script s)) is ∙ ap (moment_after_boot s.sizes (moment_of_script s)) (sym there))

boot_noted : (s : ScriptState) (p : PastState) (line : ℕ) (name : List ℕ) (o : Option (List ℕ)) → bytes_of_image s.images name ≡ o
    → IsPastOf s p → IsPastOf (boot_found s name o).state (past_with_deed p line (deed.Boot name))
boot_noted s p line name None there was =
    deed_noted s s p line (deed.Boot name) refl refl was (ap (moment_after_boot s.sizes (moment_of_script s)) (sym there))
boot_noted s p line name (Some program) there was =
    boot_noted_by s p line name program (machine_after_boot s.sizes s.is_fresh s.machine program) there refl was

-- EACH LINE
pub most_left : (count left : ℕ) → min count left ≤ left
most_left count left = omega arith

all_left : (left : ℕ) → left ≤ left
all_left left = omega arith

pub noted_is_done : NotedIsDone
noted_is_done s p line number Nothing block up was = was
noted_is_done s p line number (Hex name) block up was =
    images_noted s p (hex_answer s name block) was
    (opened_same s (codes "hex ") name (hex_block s name (block_bytes 0 block)) (refusal_for s.images name 0) (hex_same s name (block_bytes 0 block)))
noted_is_done s p line number (Asm name origin) block up was =
    images_noted s p (asm_answer s name origin block) was
    (opened_same s (codes "asm ") name (asm_block s name (means_lines block origin)) (refusal_for s.images name 0)
    (asm_same s name (means_lines block origin)))
noted_is_done s p line number (Boot name) block up was = boot_noted s p line name (bytes_of_image s.images name) refl was
noted_is_done s p line number Run block up was = run_noted s p line s.left (all_left s.left) up was
noted_is_done s p line number Regs block up was = was
noted_is_done s p line number (Set register value) block up was =
    deed_noted s (script_with_register s register value) p line (deed.Register register value) refl refl was refl
noted_is_done s p line number (Poke address value) block up was =
    poke_noted s p line address value (machine_after_poke s.machine address value) refl was
noted_is_done s p line number (Call called) block up was =
    call_noted s p line (store_called s.images s.machine called) (deed.Call called) up was (is_call s called)
noted_is_done s p line number (Load text) block up was =
    call_noted s p line (module_loaded s.images s.machine text) (deed.Load text) up was (is_load s text)
noted_is_done s p line number (Step count) block up was = run_noted s p line (min count s.left) (most_left count s.left) up was
noted_is_done s p line number (Break address) block up was = breaks_noted s p (break_text address) (with_break s.breaks address) was
noted_is_done s p line number (Unbreak address) block up was = breaks_noted s p (unbreak_text address) (without_break s.breaks address) was
noted_is_done s p line number (Mem address count) block up was = was
noted_is_done s p line number (Code address count) block up was = was
noted_is_done s p line number (Heap address) block up was = past_same s (heap_answer s address).state p (heap_same s address) was
noted_is_done s p line number Areas block up was = was
noted_is_done s p line number Modules block up was = was
noted_is_done s p line number Flex block up was = past_same s (flex_answer s).state p (flex_same s) was
noted_is_done s p line number Unknown block up was = was
