-- What a session keeps of a line that a script has answered.
use Rattle.std.proofs.Common.{◌≡◌, ℕ, ◌-◌, Bool, true, false, List, Result, Ok, Err, ap, ◌∙◌}
use Rattle.std.specs.Prelude.{if◌then◌else◌, OnOk}
use Rattle.profile.specs.images.Entries.{Entry}
use Rattle.command_shell_lines.specs.Requests.{Request}
use Rattle.debug_lines.specs.LineKinds.{is_refused_block, takes_steps}
use Rattle.debug_modules.specs.DebugModesEndings.{ending_of, output_of}
use Rattle.debug_modules.specs.Labels.{ImageLabels}
use Rattle.debug_modules.specs.Noted.{is_faulted, past_after_request}
use Rattle.debug_modules.specs.Past.{PastState}
use Rattle.debug_modules.specs.SourceListing.{sources_after}
use Rattle.debug_session.specs.DebugScript.{state_with_answer}
use Rattle.debug_session.specs.DebugState.{DebugState}
use Rattle.debug_session.specs.Naming.{labels_with_block}
use Rattle.debug_session.specs.Noting.{state_noted}
use Rattle.debug_session.specs.Session.{debug_state}
use Rattle.debug_session.specs.declared.session.DebugSession.{DebugSession}
use Rattle.debug_session.specs.declared.session.DebugSettings.{DebugSettings}
use Rattle.debug_tables.specs.Session.{script_state}
use Rattle.debug_tables.specs.State.{Answered}

-- what is kept of the answer alone
abbrev answer_kept : DebugSettings → DebugState → Bool → List ℕ → DebugState
answer_kept c d takes text = record d {
  answer = if takes then ending_of text else text;
  output = if takes then output_of text else d.output;
  steps = if takes then c.budget - d.script.left else d.steps;
}

-- a session that has kept it
pub record KeepsAnswer (old noted : DebugSession) (takes : Bool) (text : List ℕ) : Type 0 where
  pub rest : noted ≡ record old { answer = noted.answer; output = noted.output; steps = noted.steps }
  pub answer : noted.answer.items ≡ (if takes then ending_of text else text)
  pub output : noted.output.items ≡ (if takes then output_of text else old.output.items)
  pub steps : noted.steps ≡ (if takes then old.setting.budget - old.session.left else old.steps)

answer_is : (old noted : DebugSession) (images : List Entry) (takes : Bool) (text : List ℕ) → KeepsAnswer old noted takes text
    → debug_state noted images ≡ answer_kept old.setting (debug_state old images) takes text
answer_is old noted images takes text kept =
    ap (λ (s : DebugSession). debug_state s images) kept.rest
    ∙ (λ i. record (debug_state old images) { answer = kept.answer i; output = kept.output i; steps = kept.steps i })

refused_is : (c : DebugSettings) (d : DebugState) (number : ℕ) (refused takes : Bool) (r : Request) (text : List ℕ) (block : List (List ℕ))
    → takes ≡ takes_steps r → refused ≡ true → answer_kept c d takes text ≡ state_noted c d number refused r text block
refused_is c d number true takes r text block is refusal = ap (λ (b : Bool). answer_kept c d b text) is
refused_is c d number false takes r text block is refusal = absurd (cc)

-- of a block that is refused, that is all
pub refused_noted : (old noted : DebugSession) (images : List Entry) (number : ℕ) (refused takes : Bool) (r : Request) (text : List ℕ)
    (block : List (List ℕ)) → takes ≡ takes_steps r → refused ≡ true → KeepsAnswer old noted takes text
    → debug_state noted images ≡ state_noted old.setting (debug_state old images) number refused r text block
refused_noted old noted images number refused takes r text block is refusal kept =
    answer_is old noted images takes text kept
    ∙ refused_is old.setting (debug_state old images) number refused takes r text block is refusal

line_is : (c : DebugSettings) (d : DebugState) (number : ℕ) (refused takes : Bool) (r : Request) (text : List ℕ) (block : List (List ℕ))
    (labels : List ImageLabels) (sources : List Entry) (past : PastState)
    → takes ≡ takes_steps r → refused ≡ false → labels ≡ labels_with_block d.labels d.script.images r block
    → sources ≡ sources_after false d.sources r block
    → past ≡ past_after_request d.past number r (c.budget - d.script.left) (is_faulted d.script.machine.halt)
    → (let new : DebugState = record (answer_kept c d takes text) { labels = labels; sources = sources; past = past } in
    new ≡ state_noted c d number refused r text block)
line_is c d number true takes r text block labels sources past is refusal labelled sourced noted = absurd (cc)
line_is c d number false takes r text block labels sources past is refusal labelled sourced noted = λ i.
    record (answer_kept c d (is i) text) { labels = labelled i; sources = sourced i; past = noted i }

past_is : (old noted : DebugSession) (images : List Entry) (past : PastState) (line number taken : ℕ) (takes faulted : Bool) (r : Request)
    (text : List ℕ) → KeepsAnswer old noted takes text → line ≡ number → taken ≡ noted.setting.budget - noted.session.left
    → faulted ≡ is_faulted (script_state noted.session images).machine.halt
    → past ≡ past_after_request noted.past line r taken faulted
    → past ≡ past_after_request old.past number r (old.setting.budget - old.session.left)
    (is_faulted (script_state old.session images).machine.halt)
past_is old noted images past line number taken takes faulted r text kept at counted fault is = is
    ∙ ap (λ (p : PastState). past_after_request p line r taken faulted) (ap (λ (s : DebugSession). s.past) kept.rest)
    ∙ ap (λ (n : ℕ). past_after_request old.past n r taken faulted) at
    ∙ ap (λ (n : ℕ). past_after_request old.past number r n faulted)
    (counted ∙ ap (λ (s : DebugSession). s.setting.budget - s.session.left) kept.rest)
    ∙ ap (λ (b : Bool). past_after_request old.past number r (old.setting.budget - old.session.left) b)
    (fault ∙ ap (λ (s : DebugSession). is_faulted (script_state s.session images).machine.halt) kept.rest)

-- of any other line, its labels, its text, and what it did as well
pub line_noted : {A E : Type 0} (result : Result A E) (old noted : DebugSession) (images : List Entry) (labels : List ImageLabels)
    (sources : List Entry) (past : PastState) (line number taken : ℕ) (refused takes faulted : Bool) (r : Request) (text : List ℕ)
    (block : List (List ℕ)) → takes ≡ takes_steps r → refused ≡ false → KeepsAnswer old noted takes text → line ≡ number
    → taken ≡ noted.setting.budget - noted.session.left → faulted ≡ is_faulted (script_state noted.session images).machine.halt
    → past ≡ past_after_request noted.past line r taken faulted → labels ≡ labels_with_block noted.labels images r block
    → OnOk result (sources ≡ sources_after false noted.sources r block)
    → OnOk result (let new : DebugState = record (debug_state noted images) { labels = labels; sources = sources; past = past } in
    new ≡ state_noted old.setting (debug_state old images) number refused r text block)
line_noted (Err e) old noted images labels sources past line number taken refused takes faulted r text block is refusal kept at counted
    fault did labelled sourced = record {}
line_noted (Ok a) old noted images labels sources past line number taken refused takes faulted r text block is refusal kept at counted
    fault did labelled sourced =
    let d : DebugState = debug_state old images in
    ap (λ (x : DebugState). let new : DebugState = record x { labels = labels; sources = sources; past = past } in new)
    (answer_is old noted images takes text kept)
    ∙ line_is old.setting d number refused takes r text block labels sources past is refusal
    (labelled ∙ ap (λ (s : DebugSession). labels_with_block s.labels images r block) kept.rest)
    (sourced ∙ ap (λ (s : DebugSession). sources_after false s.sources r block) kept.rest)
    (past_is old noted images past line number taken takes faulted r text kept at counted fault did)

-- what is kept behind an answer is what is kept of it
pub noted_as_answer : (c e : DebugSettings) (d mid : DebugState) (line number : ℕ) (refused : Bool) (r : Request) (reported : Answered)
    (text : List ℕ) (lines block : List (List ℕ)) → e ≡ c
    → (let moved : DebugState = record d { script = reported.state } in mid ≡ moved) → line ≡ number
    → refused ≡ is_refused_block d.script.images reported.state.images r → text ≡ reported.text → lines ≡ block
    → state_noted e mid line refused r text lines ≡ state_with_answer c d number r reported block
noted_as_answer c e d mid line number refused r reported text lines block setting moved at refusal same follows = λ i.
    state_noted (setting i) (moved i) (at i) (refusal i) r (same i) (follows i)
