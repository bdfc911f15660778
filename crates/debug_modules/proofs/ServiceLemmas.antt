-- How a service call goes on.
use Rattle.std.proofs.Common.{◌≡◌, ℕ, suc, ◌+◌, ◌-◌, ◌<◌, List, [], ◌++◌, false, codes, refl, ap, ◌∙◌, arith}
use Rattle.debug_runs.specs.Labels.{ImageLabels}
use Rattle.debug_modules.specs.Entering.{module_code_entered}
use Rattle.debug_modules.specs.Services.{ServiceState, entry_of_service, served_at, served_from, service_begun, with_service}
use Rattle.debug_modules.specs.Taking.{HasLineSteps, LineSteps}
use Rattle.debug_modules.specs.declared.services.ServiceCode.{ServiceCode}
use Rattle.arm_core.specs.State.{register_of}
use Rattle.debug_modes.specs.Memory.{script_with_budget}
use Rattle.debug_modes.specs.State.{ScriptState}
use Rattle.debug_history.specs.Past.{PastState}
use Rattle.debug_modes.specs.declared.modes.DebugModes.{DebugModes}

pub served_suc : (more : ℕ) (labels : List ImageLabels) (number : ℕ) (title : List ℕ) (place : ℕ) (v : ServiceState)
    → served_from (suc more) labels number title place v
    ≡ served_from more labels number title (place + 1) (served_at labels number title place v)
unfolding served_from
served_suc more labels number title place v = refl

pub none_served : (labels : List ImageLabels) (number : ℕ) (title : List ℕ) (place : ℕ) (v : ServiceState)
    → served_from 0 labels number title place v ≡ v
unfolding served_from
none_served labels number title place v = refl

pub served_past : (labels : List ImageLabels) (number : ℕ) (title : List ℕ) (left place : ℕ) (v : ServiceState) → left ≡ 0
    → served_from left labels number title place v ≡ v
served_past labels number title left place v e =
    ap (λ (n : ℕ). served_from n labels number title place v) e ∙ none_served labels number title place v

-- of the places from one on, the first, and those behind it
pub served_next : (labels : List ImageLabels) (number : ℕ) (title : List ℕ) (place : ℕ) (v : ServiceState) → place < 4096
    → served_from (4096 - place) labels number title place v
    ≡ served_from (4096 - (place + 1)) labels number title (place + 1) (served_at labels number title place v)
served_next labels number title place v below =
    let split : 4096 - place ≡ suc (4096 - (place + 1)) = omega (arith, below) in
    ap (λ (n : ℕ). served_from n labels number title place v) split
    ∙ served_suc (4096 - (place + 1)) labels number title place v

-- before the first place
pub begun_so : (s first : ScriptState) (m : DebugModes) (p : PastState) (budget service : ℕ) (text printed ending : List ℕ)
    → first ≡ script_with_budget s budget → text ≡ [] → printed ≡ [] → ending ≡ codes "not claimed\n"
    → (let taken : LineSteps = record { script = first; modes = m; past = p; text = text; printed = printed; ending = ending } in
    let v : ServiceState = record { taken = taken; r1 = service; is_over = false } in v ≡ service_begun m budget s p service)
begun_so s first m p budget service text printed ending at none nothing ended = λ i.
    let taken : LineSteps = record {
      script = at i;
      modes = m;
      past = p;
      text = none i;
      printed = nothing i;
      ending = ended i;
    } in let v : ServiceState = record { taken = taken; r1 = service; is_over = false } in v

-- what the code of an instance left
pub left_so : (labels : List ImageLabels) (number : ℕ) (c : ServiceCode) (v : ServiceState) (now : ScriptState) (ms : DebugModes)
    (pp : PastState) (text printed ended all guest_text : List ℕ) (r1 : ℕ)
    → (let t = module_code_entered v.taken.modes labels v.taken.script v.taken.past number (entry_of_service v c) in
    HasLineSteps t now ms pp text printed ended → all ≡ v.taken.text ++ text → guest_text ≡ v.taken.printed ++ printed
    → r1 ≡ register_of now.machine.cpu 1
    → (let taken : LineSteps =
    record { script = now; modes = ms; past = pp; text = all; printed = guest_text; ending = v.taken.ending } in
    let w : ServiceState = record { taken = taken; r1 = r1; is_over = v.is_over } in w ≡ with_service v t))
left_so labels number c v now ms pp text printed ended all guest_text r1 here shown said left = λ i.
    let taken : LineSteps = record {
      script = here.script i;
      modes = here.modes i;
      past = here.past i;
      text = (shown ∙ ap (λ (xs : List ℕ). v.taken.text ++ xs) here.text) i;
      printed = (said ∙ ap (λ (xs : List ℕ). v.taken.printed ++ xs) here.printed) i;
      ending = v.taken.ending;
    } in
    let w : ServiceState = record {
      taken = taken;
      r1 = (left ∙ ap (λ (x : ScriptState). register_of x.machine.cpu 1) here.script) i;
      is_over = v.is_over;
    } in w
