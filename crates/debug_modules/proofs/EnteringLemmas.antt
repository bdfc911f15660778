-- Code is entered, and has gone back or not.
use Rattle.std.proofs.Common.{◌≡◌, ℕ, Bool, true, false, List, ◌++◌, Result, Ok, Err, ap, sym, subst, ◌∙◌}
use Rattle.std.specs.Prelude.{if◌then◌else◌}
use Rattle.arm_core.specs.declared.psr.Psr.{Psr}
use Rattle.debug_modes.specs.Memory.{script_with_budget, script_with_register, script_with_status}
use Rattle.debug_modes.specs.State.{ScriptState}
use Rattle.debug_runs.specs.Stub.{Stub}
use Rattle.debug_history.specs.Noted.{has_returned, past_after_stepping, past_with_deed}
use Rattle.debug_history.specs.Past.{PastState}
use Rattle.debug_history.specs.declared.act.PastDeed.TheVariants.{Bytes, Register, Status}
use Rattle.debug_history.specs.declared.noting.SteppingNote.{SteppingNote}
use Rattle.debug_history.specs.declared.noting.StepsBefore.{StepsBefore}
use Rattle.debug_runs.specs.Labels.{ImageLabels}
use Rattle.debug_modes.specs.SteppingRequests.{Gosub, SteppingRequest}
use Rattle.debug_modes.specs.declared.modes.DebugModes.{DebugModes}
use Rattle.debug_modules.specs.Answers.{IsModuleAnswered, Steps, command_called, command_put_by, code_error_text}
use Rattle.debug_modules.specs.Entering.{at_entry, module_code_entered, past_at_entry, status_gone_back, supervisor, with_status_back}
use Rattle.debug_modules.specs.Plans.{tail_address}
use Rattle.debug_modules.specs.Taking.{HasLineSteps, LineSteps, line_steps}
use Rattle.debug_modules.specs.declared.entering.ModuleEntry.{ModuleEntry}
use Rattle.profile.specs.Outcome.{Leaves}
use Rattle.profile.specs.Fault.{Fault}
-- what holds anyhow holds where a call was well
pub use Rattle.debug_history.proofs.ShellCallLemmas.{at_ok as anyhow}

pub note_same : (p : PastState) (number : ℕ) (stubs : List Stub) (request : SteppingRequest) (b b' : StepsBefore) (n n' : ℕ)
    (f f' r r' : Bool) → b ≡ b' → n ≡ n' → f ≡ f' → r ≡ r'
    → (let one : SteppingNote = record { before = b; taken = n; has_faulted = f; has_returned = r } in
    let two : SteppingNote = record { before = b'; taken = n'; has_faulted = f'; has_returned = r' } in
    past_after_stepping p number stubs one request ≡ past_after_stepping p number stubs two request)
note_same p number stubs request b b' n n' f f' r r' before taken faulted returned = λ i.
    let note : SteppingNote =
    record { before = before i; taken = taken i; has_faulted = faulted i; has_returned = returned i } in
    past_after_stepping p number stubs note request

-- the registers, one after another
pub stands_at : (s s0 s1 s2 s3 : ScriptState) (status : Psr) (e : ModuleEntry) → status ≡ supervisor s.machine.cpu.psr
    → s0 ≡ script_with_status s status → s1 ≡ script_with_register s0 0 e.r0 → s2 ≡ script_with_register s1 1 e.r1
    → s3 ≡ script_with_register s2 12 e.r12 → s3 ≡ at_entry s e
stands_at s s0 s1 s2 s3 status e set first second third last =
    last ∙ ap (λ (x : ScriptState). script_with_register x 12 e.r12)
    (third ∙ ap (λ (x : ScriptState). script_with_register x 1 e.r1)
    (second ∙ ap (λ (x : ScriptState). script_with_register x 0 e.r0)
    (first ∙ ap (λ (x : Psr). script_with_status s x) set)))

pub past_at : (p p0 p1 p2 : PastState) (number : ℕ) (before status : Psr) (e : ModuleEntry) → status ≡ supervisor before
    → p0 ≡ past_with_deed p number (Status status) → p1 ≡ past_with_deed p0 number (Register 0 e.r0)
    → p2 ≡ past_with_deed p1 number (Register 1 e.r1)
    → past_with_deed p2 number (Register 12 e.r12) ≡ past_at_entry p number before e
past_at p p0 p1 p2 number before status e set first second third =
    ap (λ (x : PastState). past_with_deed x number (Register 12 e.r12))
    (third ∙ ap (λ (x : PastState). past_with_deed x number (Register 1 e.r1))
    (second ∙ ap (λ (x : PastState). past_with_deed x number (Register 0 e.r0))
    (first ∙ ap (λ (x : Psr). past_with_deed p number (Status x)) set)))

open_so : (number : ℕ) (before : Psr) (t : LineSteps) (b : Bool) → b ≡ false → (if b then with_status_back number before t else t) ≡ t
open_so number before t false is = λ i. t
open_so number before t true is = absurd (cc)

back_so : (number : ℕ) (before : Psr) (t : LineSteps) (b : Bool) → b ≡ true
    → (if b then with_status_back number before t else t) ≡ with_status_back number before t
back_so number before t true is = λ i. with_status_back number before t
back_so number before t false is = absurd (cc)

-- code that has not gone back
pub code_left : (m : DebugModes) (labels : List ImageLabels) (s s1 now : ScriptState) (p p1 pp : PastState) (number : ℕ) (e : ModuleEntry)
    (ms : DebugModes) (text printed ended : List ℕ) → s1 ≡ at_entry s e → p1 ≡ past_at_entry p number s.machine.cpu.psr e
    → HasLineSteps (line_steps m labels false s1 p1 number (Gosub e.code)) now ms pp text printed ended → has_returned ended ≡ false
    → HasLineSteps (module_code_entered m labels s p number e) now ms pp text printed ended
code_left m labels s s1 now p p1 pp number e ms text printed ended at past taken is_open =
    let t = line_steps m labels false (at_entry s e) (past_at_entry p number s.machine.cpu.psr e) number (Gosub e.code) in
    let here : HasLineSteps t now ms pp text printed ended = subst (λ (u : LineSteps). HasLineSteps u now ms pp text printed ended)
    (λ i. line_steps m labels false (at i) (past i) number (Gosub e.code)) taken in
    subst (λ (u : LineSteps). HasLineSteps u now ms pp text printed ended)
    (sym (open_so number s.machine.cpu.psr t (has_returned t.ending) (sym (ap has_returned here.ending) ∙ is_open))) here

-- and code that has
pub code_back : (m : DebugModes) (labels : List ImageLabels) (s s1 now s2 : ScriptState) (p p1 pp p2 : PastState) (number : ℕ) (e : ModuleEntry)
    (ms : DebugModes) (text printed ended : List ℕ) (status : Psr) → s1 ≡ at_entry s e → p1 ≡ past_at_entry p number s.machine.cpu.psr e
    → HasLineSteps (line_steps m labels false s1 p1 number (Gosub e.code)) now ms pp text printed ended → has_returned ended ≡ true
    → status ≡ status_gone_back s.machine.cpu.psr now.machine.cpu.psr
    → s2 ≡ script_with_status now status → p2 ≡ past_with_deed pp number (Status status)
    → HasLineSteps (module_code_entered m labels s p number e) s2 ms p2 text printed ended
code_back m labels s s1 now s2 p p1 pp p2 number e ms text printed ended status at past taken is_back set script kept =
    let psr = s.machine.cpu.psr in
    let t = line_steps m labels false (at_entry s e) (past_at_entry p number psr e) number (Gosub e.code) in
    let here : HasLineSteps t now ms pp text printed ended = subst (λ (u : LineSteps). HasLineSteps u now ms pp text printed ended)
    (λ i. line_steps m labels false (at i) (past i) number (Gosub e.code)) taken in
    let there = set ∙ ap (λ (x : ScriptState). status_gone_back psr x.machine.cpu.psr) here.script in
    let done : HasLineSteps (with_status_back number psr t) s2 ms p2 text printed ended = record {
      script = script ∙ (λ i. script_with_status (here.script i) (there i));
      modes = here.modes;
      past = kept ∙ (λ i. past_with_deed (here.past i) number (Status (there i)));
      text = here.text;
      printed = here.printed;
      ending = here.ending;
    } in
    subst (λ (u : LineSteps). HasLineSteps u s2 ms p2 text printed ended)
    (sym (back_so number psr t (has_returned t.ending) (sym (ap has_returned here.ending) ∙ is_back))) done

-- the error below
pub error_shown : (m : DebugModes) (labels : List ImageLabels) (budget : ℕ) (s first now : ScriptState) (p pp : PastState) (number : ℕ)
    (e : ModuleEntry) (ms : DebugModes) (text printed ended all error : List ℕ) → first ≡ script_with_budget s budget
    → HasLineSteps (module_code_entered m labels first p number e) now ms pp text printed ended
    → error ≡ code_error_text now.machine ended → all ≡ ended ++ error
    → HasLineSteps (command_called m labels budget s p number e) now ms pp text printed all
error_shown m labels budget s first now p pp number e ms text printed ended all error at taken said whole =
    let t = module_code_entered m labels (script_with_budget s budget) p number e in
    let here : HasLineSteps t now ms pp text printed ended = subst (λ (u : LineSteps). HasLineSteps u now ms pp text printed ended)
    (ap (λ (x : ScriptState). module_code_entered m labels x p number e) at) taken in record {
      script = here.script;
      modes = here.modes;
      past = here.past;
      text = here.text;
      printed = here.printed;
      ending = whole ∙ (λ i. (here.ending i) ++ ((said ∙ (λ j. code_error_text (here.script j).machine (here.ending j))) i));
    }

-- the tail was written
pub tail_put : (m : DebugModes) (labels : List ImageLabels) (budget : ℕ) (s new now : ScriptState) (p p1 pp : PastState) (number : ℕ)
    (e : ModuleEntry) (bytes : List ℕ) (o : Result ScriptState Fault) (u : Unit {0}) (ms : DebugModes) (text printed ended : List ℕ)
    → Leaves {U = Unit {0}} s o (Ok u) new → p1 ≡ past_with_deed p number (Bytes tail_address bytes)
    → HasLineSteps (command_called m labels budget new p1 number e) now ms pp text printed ended
    → IsModuleAnswered (command_put_by m labels budget s p number e bytes o) now ms pp (Steps text printed ended)
tail_put m labels budget s new now p p1 pp number e bytes (Ok written) u ms text printed ended leaves noted taken =
    let here : HasLineSteps (command_called m labels budget written (past_with_deed p number (Bytes tail_address bytes)) number e)
    now ms pp text printed ended = subst (λ (t : LineSteps). HasLineSteps t now ms pp text printed ended)
    (λ i. command_called m labels budget (leaves i) (noted i) number e) taken in record {
      script = here.script;
      modes = here.modes;
      past = here.past;
      shown = λ i. Steps (here.text i) (here.printed i) (here.ending i);
    }
tail_put m labels budget s new now p p1 pp number e bytes (Err fault) u ms text printed ended leaves noted taken = absurd leaves
