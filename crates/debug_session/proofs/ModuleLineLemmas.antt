-- A line that enters the code of modules, and what is kept of it.
use Rattle.std.proofs.Common.{◌≡◌, ℕ, zero, suc, ◌+◌, ◌/◌, ◌%◌, Bool, true, false, List, [], Option, Some, None, Result, Ok, Err, ap, refl, subst, sym, ◌∙◌, if◌then◌else◌}
use Rattle.std.specs.Prelude.{OnOk, unwrap_or, codes, is_some}
use Rattle.std.specs.Option.{option_map}
use Rattle.profile.specs.Outcome.{Leaves}
use Rattle.profile.specs.Fault.{Fault}
use Rattle.profile.specs.images.Entries.{Entry}
use Rattle.arm_core.specs.declared.psr.Psr.{Psr}
use Rattle.debug_modules.proofs.AgainLemmas.{beside_at, moment_at, put_at}
use Rattle.debug_modules.proofs.NotedLemmas.{deed_noted}
use Rattle.debug_modules.specs.DebugHistoryLaws.{IsPastOf}
use Rattle.debug_modules.specs.Noted.{has_returned, past_with_deed}
use Rattle.debug_modules.specs.Past.{PastState}
use Rattle.debug_modules.specs.PastDeed.TheVariants as deed
use Rattle.debug_modules.specs.Labels.{ImageLabels}
use Rattle.debug_lines.specs.SteppingRequests as stepping
use Rattle.debug_modules.specs.Modes.{answer_of_line}
use Rattle.debug_modules.specs.DebugModes.{DebugModes}
use Rattle.debug_modules.specs.Answers.{ModuleAnswered, ModuleShown, Steps, Text, command_by, command_called, command_put_by, entered_so, error_below, module_answered, module_line_answered, module_line_asked, modes_after_modules, only_shown, past_after_modules, script_after_modules}
use Rattle.debug_modules.specs.Entering.{at_entry, module_code_entered, past_at_entry, status_gone_back, supervisor, with_status_back}
use Rattle.debug_modules.specs.Plans.{command_plan, tail_address, tail_bytes}
use Rattle.debug_modules.specs.Requests.{Command, Explain, Form, ModuleAsked, Service}
use Rattle.debug_modules.specs.Services.{ServiceState, entry_of_service, is_served, served_at, served_from, served_if, service_begun, service_called, service_code, service_left}
use Rattle.debug_modules.specs.Taking.{LineSteps, line_steps}
use Rattle.debug_modules.specs.declared.services.ServiceCode.{ServiceCode}
use Rattle.debug_modules.specs.declared.entering.ModuleEntry.{ModuleEntry}
use Rattle.debug_tables.specs.byte_writes.Put.{script_after_put}
use Rattle.debug_tables.specs.Answers.{refused_text}
use Rattle.debug_tables.specs.Memory.{script_with_budget, script_with_register, script_with_status}
use Rattle.debug_tables.specs.State.{ScriptState}
use Rattle.debug_session.specs.DebugScript.{module_line_by, module_line_shown, stepping_answer_by, unknown_answer, view_answer}
use Rattle.debug_session.specs.DebugState.{DebugAnswered, DebugState, IsDebugged}
use Rattle.debug_session.specs.History.{IsSameButPast}
use Rattle.debug_session.specs.declared.session.DebugSettings.{DebugSettings}
use Rattle.debug_session.proofs.SteppingPastLemmas.{steps_kept}

-- the state that such a line leaves, before it is answered
abbrev moved_by : DebugState → Option ModuleAnswered → DebugState
moved_by d o = record d {
  script = script_after_modules d.script o;
  modes = modes_after_modules d.modes o;
  past = past_after_modules d.past o;
}

pub modules_moved : (d : DebugState) (s : ScriptState) (m : DebugModes) (p : PastState) (o : Option ModuleAnswered)
    → s ≡ script_after_modules d.script o → m ≡ modes_after_modules d.modes o → p ≡ past_after_modules d.past o
    → record d { script = s; modes = m; past = p } ≡ moved_by d o
modules_moved d s m p o script modes past = λ i. record d { script = script i; modes = modes i; past = past i }

pub module_viewed : {A E : Type 0} (result : Result A E) (before after : Option (List ℕ)) (c : DebugSettings)
    (d mid now : DebugState) (number : ℕ) (line bytes : List ℕ)
    (o : Option ModuleAnswered) → Some (Text bytes) ≡ option_map (λ a. a.shown) o → mid ≡ moved_by d o
    → OnOk result (IsDebugged before after now (view_answer c mid bytes))
    → OnOk result (IsDebugged before after now (module_line_by c d number line o))
module_viewed result before after c d mid now number line bytes None is same shown = absurd (cc)
module_viewed result before after c d mid now number line bytes (Some a) is same shown =
    let said : Text bytes ≡ a.shown = ap (λ (o : Option ModuleShown). unwrap_or o (Text [])) is in
    subst (λ (x : DebugAnswered). OnOk result (IsDebugged before after now x))
    (ap (λ (x : DebugState). view_answer c x bytes) same
    ∙ ap (λ (h : ModuleShown). module_line_shown c (record d { modes = a.modes; past = a.past }) a.script h) said) shown

pub module_stepped : {A E : Type 0} (result : Result A E) (before after : Option (List ℕ)) (c : DebugSettings)
    (d mid now : DebugState) (number : ℕ)
    (line text printed ending : List ℕ) (o : Option ModuleAnswered)
    → Some (Steps text printed ending) ≡ option_map (λ a. a.shown) o → mid ≡ moved_by d o
    → OnOk result (IsDebugged before after now (stepping_answer_by c mid mid.script text printed ending))
    → OnOk result (IsDebugged before after now (module_line_by c d number line o))
module_stepped result before after c d mid now number line text printed ending None is same shown = absurd (cc)
module_stepped result before after c d mid now number line text printed ending (Some a) is same shown =
    let said : Steps text printed ending ≡ a.shown = ap (λ (o : Option ModuleShown). unwrap_or o (Text [])) is in
    subst (λ (x : DebugAnswered). OnOk result (IsDebugged before after now x))
    (ap (λ (x : DebugState). stepping_answer_by c x x.script text printed ending) same
    ∙ ap (λ (h : ModuleShown). module_line_shown c (record d { modes = a.modes; past = a.past }) a.script h) said) shown

pub module_refused : (c : DebugSettings) (d mid : DebugState) (number : ℕ) (line : List ℕ) (o : Option ModuleAnswered)
    → option_map (λ a. a.shown) o ≡ None → mid ≡ moved_by d o → unknown_answer c mid number line ≡ module_line_by c d number line o
module_refused c d mid number line None is same = ap (λ (x : DebugState). unknown_answer c x number line) same
module_refused c d mid number line (Some a) is same = absurd (cc)

-- WHAT IS KEPT IS WHAT WAS DONE

back_kept : (number : ℕ) (before : Psr) (t : LineSteps) (b : Bool) → IsPastOf t.script t.past
    → (let u = if b then with_status_back number before t else t in IsPastOf u.script u.past)
back_kept number before t true was = let status = status_gone_back before t.script.machine.cpu.psr in
    deed_noted t.script (script_with_status t.script status) t.past number (deed.Status status) refl refl was refl
back_kept number before t false was = was

code_kept : (m : DebugModes) (labels : List ImageLabels) (s : ScriptState) (p : PastState) (number : ℕ) (e : ModuleEntry)
    → IsPastOf s p → (let t = module_code_entered m labels s p number e in IsPastOf t.script t.past)
code_kept m labels s p number e was =
    let psr = s.machine.cpu.psr in
    let status = supervisor psr in
    let s0 = script_with_status s status in
    let p0 = past_with_deed p number (deed.Status status) in
    let s1 = script_with_register s0 0 e.r0 in
    let p1 = past_with_deed p0 number (deed.Register 0 e.r0) in
    let s2 = script_with_register s1 1 e.r1 in
    let p2 = past_with_deed p1 number (deed.Register 1 e.r1) in
    let s3 = script_with_register s2 12 e.r12 in
    let p3 = past_with_deed p2 number (deed.Register 12 e.r12) in
    let k0 = deed_noted s s0 p number (deed.Status status) refl refl was refl in
    let k1 = deed_noted s0 s1 p0 number (deed.Register 0 e.r0) refl refl k0 refl in
    let k2 = deed_noted s1 s2 p1 number (deed.Register 1 e.r1) refl refl k1 refl in
    let k3 = deed_noted s2 s3 p2 number (deed.Register 12 e.r12) refl refl k2 refl in
    let t = line_steps m labels false s3 p3 number (stepping.Gosub e.code) in
    back_kept number psr t (has_returned t.ending)
    (steps_kept m labels (answer_of_line m false) s3 p3 number (stepping.Gosub e.code) (λ fresh. absurd (cc)) k3)

called_kept : (m : DebugModes) (labels : List ImageLabels) (budget : ℕ) (s : ScriptState) (p : PastState) (number : ℕ) (e : ModuleEntry)
    → IsPastOf s p → (let t = command_called m labels budget s p number e in IsPastOf t.script t.past)
called_kept m labels budget s p number e was = code_kept m labels (script_with_budget s budget) p number e was

put_kept : (m : DebugModes) (labels : List ImageLabels) (budget : ℕ) (s : ScriptState) (p : PastState) (number : ℕ) (e : ModuleEntry)
    (bytes : List ℕ) (r : Result ScriptState Fault) → script_after_put s tail_address bytes ≡ r → IsPastOf s p
    → (let a = command_put_by m labels budget s p number e bytes r in IsPastOf a.script a.past)
put_kept m labels budget s p number e bytes (Ok now) is was =
    let put = put_at s now tail_address bytes {U = Unit {0}} (Ok (record {})) (subst (λ (r : Result ScriptState Fault).
    Leaves {U = Unit {0}} s r (Ok (record {})) now) (sym is) refl) in
    let beside = beside_at s now _ put in
    called_kept m labels budget now (past_with_deed p number (deed.Bytes tail_address bytes)) number e
    (deed_noted s now p number (deed.Bytes tail_address bytes) beside.images beside.sizes was (moment_at s now _ put))
put_kept m labels budget s p number e bytes (Err fault) is was = was

command_kept : (m : DebugModes) (labels : List ImageLabels) (budget : ℕ) (s : ScriptState) (p : PastState) (number : ℕ) (tail : List ℕ)
    (plan : Result ModuleEntry (List ℕ)) → IsPastOf s p
    → (let a = command_by m labels budget s p number tail plan in IsPastOf a.script a.past)
command_kept m labels budget s p number tail (Ok e) was =
    put_kept m labels budget s p number e (tail_bytes tail) (script_after_put s tail_address (tail_bytes tail)) refl was
command_kept m labels budget s p number tail (Err text) was = was

-- turn by turn
turn_kept : (labels : List ImageLabels) (number : ℕ) (v : ServiceState) (o : Option ServiceCode) → IsPastOf v.taken.script v.taken.past
    → (let u = (served_if labels number v o).taken in IsPastOf u.script u.past)
turn_kept labels number v (Some c) was =
    code_kept v.taken.modes labels v.taken.script v.taken.past number (entry_of_service v c) was
turn_kept labels number v None was = was

place_kept : (labels : List ImageLabels) (number : ℕ) (title : List ℕ) (place : ℕ) (v : ServiceState) (over : Bool)
    → IsPastOf v.taken.script v.taken.past
    → (let u = (if over then v else served_if labels number v (service_code v.taken.script.machine title (place / 64) (place % 64))).taken in
    IsPastOf u.script u.past)
place_kept labels number title place v true was = was
place_kept labels number title place v false was =
    turn_kept labels number v (service_code v.taken.script.machine title (place / 64) (place % 64)) was

places_kept : (more : ℕ) (labels : List ImageLabels) (number : ℕ) (title : List ℕ) (place : ℕ) (v : ServiceState)
    → IsPastOf v.taken.script v.taken.past
    → (let u = (served_from more labels number title place v).taken in IsPastOf u.script u.past)
unfolding served_from
places_kept zero labels number title place v was = was
places_kept (suc more) labels number title place v was =
    places_kept more labels number title (place + 1) (served_at labels number title place v)
    (place_kept labels number title place v v.is_over was)

service_kept : (m : DebugModes) (labels : List ImageLabels) (budget : ℕ) (s : ScriptState) (p : PastState) (number service : ℕ)
    (title : List ℕ) (halted is_there : Bool) → IsPastOf s p
    → (let a = if halted then only_shown m s p (refused_text (codes "Halted")) else (if is_there
    then entered_so (service_called m labels budget s p number service title)
    else only_shown m s p (refused_text (codes "NoModule"))) in IsPastOf a.script a.past)
service_kept m labels budget s p number service title true is_there was = was
service_kept m labels budget s p number service title false true was =
    places_kept 4096 labels number title 0 (service_begun m budget s p service) was
service_kept m labels budget s p number service title false false was = was

answer_kept : (m : DebugModes) (labels : List ImageLabels) (sources : List Entry) (budget : ℕ) (s : ScriptState) (p : PastState) (number : ℕ) (asked : ModuleAsked)
    → IsPastOf s p → (let a = module_answered m labels sources budget s p number asked in IsPastOf a.script a.past)
answer_kept m labels sources budget s p number (Command name tail) was =
    command_kept m labels budget s p number tail (command_plan s.machine name tail) was
answer_kept m labels sources budget s p number (Service service title) was =
    service_kept m labels budget s p number service title (is_some s.machine.halt) (is_served s.machine.tables.modules title) was
answer_kept m labels sources budget s p number (Explain is_on) was = was
answer_kept m labels sources budget s p number (Form text) was = was

shown_kept : (c : DebugSettings) (d : DebugState) (now : ScriptState) (shown : ModuleShown) → IsPastOf now d.past
    → (let e = (module_line_shown c d now shown).state in IsPastOf e.script e.past)
shown_kept c d now (Text text) was = was
shown_kept c d now (Steps text printed ending) was = was

asked_kept : (c : DebugSettings) (d : DebugState) (number : ℕ) (line : List ℕ) (o : Option ModuleAsked) → IsPastOf d.script d.past
    → (let e = (module_line_by c d number line
    (option_map (module_answered d.modes d.labels d.sources c.budget d.script d.past number) o)).state in IsPastOf e.script e.past)
asked_kept c d number line None was = was
asked_kept c d number line (Some asked) was =
    let a = module_answered d.modes d.labels d.sources c.budget d.script d.past number asked in
    shown_kept c (record d { modes = a.modes; past = a.past }) a.script a.shown
    (answer_kept d.modes d.labels d.sources c.budget d.script d.past number asked was)

-- a line that may enter the code of modules leaves the past of the machine that it leaves
pub module_line_kept : (c : DebugSettings) (d : DebugState) (number : ℕ) (line : List ℕ) → IsPastOf d.script d.past
    → (let e = (module_line_by c d number line
    (module_line_answered d.modes d.labels d.sources c.budget d.script d.past number line)).state in IsPastOf e.script e.past)
module_line_kept c d number line was = asked_kept c d number line (module_line_asked d.script.machine line) was

-- WITH ANOTHER PAST

abbrev without : PastState → LineSteps → LineSteps
without q t = record t { past = q }

back_same : (q p r : PastState) (number : ℕ) (before : Psr) (t : LineSteps) (b : Bool)
    → without q (if b then with_status_back number before (without p t) else without p t)
    ≡ without q (if b then with_status_back number before (without r t) else without r t)
back_same q p r number before t true = refl
back_same q p r number before t false = refl

code_same : (m : DebugModes) (labels : List ImageLabels) (s : ScriptState) (q p r : PastState) (number : ℕ) (e : ModuleEntry)
    → without q (module_code_entered m labels s p number e) ≡ without q (module_code_entered m labels s r number e)
code_same m labels s q p r number e =
    let psr = s.machine.cpu.psr in
    let t = line_steps m labels false (at_entry s e) (past_at_entry p number psr e) number (stepping.Gosub e.code) in
    let u = line_steps m labels false (at_entry s e) (past_at_entry r number psr e) number (stepping.Gosub e.code) in
    back_same q t.past u.past number psr t (has_returned t.ending)

called_same : (m : DebugModes) (labels : List ImageLabels) (budget : ℕ) (s : ScriptState) (q p r : PastState) (number : ℕ) (e : ModuleEntry)
    → without q (command_called m labels budget s p number e) ≡ without q (command_called m labels budget s r number e)
called_same m labels budget s q p r number e =
    ap error_below (code_same m labels (script_with_budget s budget) q p r number e)

abbrev answer_without : PastState → ModuleAnswered → ModuleAnswered
answer_without q a = record a { past = q }

put_same : (m : DebugModes) (labels : List ImageLabels) (budget : ℕ) (s : ScriptState) (q p r : PastState) (number : ℕ) (e : ModuleEntry)
    (bytes : List ℕ) (o : Result ScriptState Fault)
    → answer_without q (command_put_by m labels budget s p number e bytes o)
    ≡ answer_without q (command_put_by m labels budget s r number e bytes o)
put_same m labels budget s q p r number e bytes (Ok now) =
    ap (λ (t : LineSteps). let a : ModuleAnswered = record {
      script = t.script;
      modes = t.modes;
      past = q;
      shown = Steps t.text t.printed t.ending;
    } in a) (called_same m labels budget now q (past_with_deed p number (deed.Bytes tail_address bytes))
    (past_with_deed r number (deed.Bytes tail_address bytes)) number e)
put_same m labels budget s q p r number e bytes (Err fault) = refl

command_same : (m : DebugModes) (labels : List ImageLabels) (budget : ℕ) (s : ScriptState) (q p r : PastState) (number : ℕ)
    (tail : List ℕ) (plan : Result ModuleEntry (List ℕ))
    → answer_without q (command_by m labels budget s p number tail plan) ≡ answer_without q (command_by m labels budget s r number tail plan)
command_same m labels budget s q p r number tail (Ok e) =
    put_same m labels budget s q p r number e (tail_bytes tail) (script_after_put s tail_address (tail_bytes tail))
command_same m labels budget s q p r number tail (Err text) = refl

abbrev service_without : PastState → ServiceState → ServiceState
service_without q v = record v { taken = without q v.taken }

turn_same : (labels : List ImageLabels) (number : ℕ) (q p r : PastState) (v : ServiceState) (o : Option ServiceCode)
    → service_without q (served_if labels number (service_without p v) o) ≡ service_without q (served_if labels number (service_without r v) o)
turn_same labels number q p r v (Some c) =
    ap (λ (t : LineSteps). service_left v c.title.items t)
    (code_same v.taken.modes labels v.taken.script q p r number (entry_of_service v c))
turn_same labels number q p r v None = refl

place_same : (labels : List ImageLabels) (number : ℕ) (title : List ℕ) (place : ℕ) (q p r : PastState) (v : ServiceState) (over : Bool)
    → (let code = service_code v.taken.script.machine title (place / 64) (place % 64) in
    let one = service_without p v in let two = service_without r v in
    service_without q (if over then one else served_if labels number one code)
    ≡ service_without q (if over then two else served_if labels number two code))
place_same labels number title place q p r v true = refl
place_same labels number title place q p r v false =
    turn_same labels number q p r v (service_code v.taken.script.machine title (place / 64) (place % 64))

places_same : (more : ℕ) (labels : List ImageLabels) (number : ℕ) (title : List ℕ) (place : ℕ) (q p r : PastState) (v : ServiceState)
    → without q (served_from more labels number title place (service_without p v)).taken
    ≡ without q (served_from more labels number title place (service_without r v)).taken
unfolding served_from
places_same zero labels number title place q p r v = refl
places_same (suc more) labels number title place q p r v =
    let one = served_at labels number title place (service_without p v) in
    let two = served_at labels number title place (service_without r v) in
    let same = place_same labels number title place q p r v v.is_over in
    places_same more labels number title (place + 1) q one.taken.past q one
    ∙ ap (λ (u : ServiceState). without q (served_from more labels number title (place + 1) u).taken) same
    ∙ places_same more labels number title (place + 1) q q two.taken.past two

service_same : (m : DebugModes) (labels : List ImageLabels) (budget : ℕ) (s : ScriptState) (q p r : PastState) (number service : ℕ)
    (title : List ℕ) (halted is_there : Bool)
    → (let answer : PastState → ModuleAnswered = λ (x : PastState). (if halted then only_shown m s x (refused_text (codes "Halted"))
    else (if is_there then entered_so (service_called m labels budget s x number service title)
    else only_shown m s x (refused_text (codes "NoModule")))) in answer_without q (answer p) ≡ answer_without q (answer r))
service_same m labels budget s q p r number service title true is_there = refl
service_same m labels budget s q p r number service title false true =
    ap (λ (t : LineSteps). answer_without q (entered_so t))
    (places_same 4096 labels number title 0 q p r (service_begun m budget s p service))
service_same m labels budget s q p r number service title false false = refl

answer_same : (m : DebugModes) (labels : List ImageLabels) (sources : List Entry) (budget : ℕ) (s : ScriptState) (q p r : PastState) (number : ℕ)
    (asked : ModuleAsked)
    → answer_without q (module_answered m labels sources budget s p number asked)
    ≡ answer_without q (module_answered m labels sources budget s r number asked)
answer_same m labels sources budget s q p r number (Command name tail) =
    command_same m labels budget s q p r number tail (command_plan s.machine name tail)
answer_same m labels sources budget s q p r number (Service service title) =
    service_same m labels budget s q p r number service title (is_some s.machine.halt) (is_served s.machine.tables.modules title)
answer_same m labels sources budget s q p r number (Explain is_on) = refl
answer_same m labels sources budget s q p r number (Form text) = refl

shown_same : (c : DebugSettings) (d : DebugState) (p : PastState) (a : ModuleAnswered) (shown : ModuleShown)
    → (record (module_line_shown c (record d { modes = a.modes; past = a.past }) a.script shown).state { past = p }
    ≡ (module_line_shown c (record d { modes = a.modes; past = p }) a.script shown).state)
    × ((module_line_shown c (record d { modes = a.modes; past = a.past }) a.script shown).text
    ≡ (module_line_shown c (record d { modes = a.modes; past = p }) a.script shown).text)
shown_same c d p a (Text text) = (refl, refl)
shown_same c d p a (Steps text printed ending) = (refl, refl)

asked_same : (c : DebugSettings) (d : DebugState) (p : PastState) (number : ℕ) (line : List ℕ) (o : Option ModuleAsked)
    → IsSameButPast p (module_line_by c (record d { past = p }) number line
    (option_map (module_answered d.modes d.labels d.sources c.budget d.script p number) o))
    (module_line_by c d number line (option_map (module_answered d.modes d.labels d.sources c.budget d.script d.past number) o))
asked_same c d p number line None = record { text = refl; state = refl }
asked_same c d p number line (Some asked) =
    let one = module_answered d.modes d.labels d.sources c.budget d.script p number asked in
    let two = module_answered d.modes d.labels d.sources c.budget d.script d.past number asked in
    let same = answer_same d.modes d.labels d.sources c.budget d.script p p d.past number asked in
    let first = shown_same c (record d { past = p }) p one one.shown in
    let second = shown_same c d p two two.shown in
    let answer : ModuleAnswered → DebugAnswered =
    λ (a : ModuleAnswered). module_line_shown c (record d { modes = a.modes; past = a.past }) a.script a.shown in record {
      text = first.1 ∙ ap (λ (a : ModuleAnswered). (answer a).text) same ∙ sym second.1;
      state = first.0 ∙ ap (λ (a : ModuleAnswered). (answer a).state) same ∙ sym second.0;
    }

pub module_line_same : (c : DebugSettings) (d : DebugState) (p : PastState) (number : ℕ) (line : List ℕ)
    → IsSameButPast p (module_line_by c (record d { past = p }) number line
    (module_line_answered d.modes d.labels d.sources c.budget d.script p number line))
    (module_line_by c d number line (module_line_answered d.modes d.labels d.sources c.budget d.script d.past number line))
module_line_same c d p number line = asked_same c d p number line (module_line_asked d.script.machine line)
