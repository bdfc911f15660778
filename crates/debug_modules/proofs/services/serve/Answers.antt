-- What the code left, and whether the call is over.
use Rattle.std.proofs.Common.{◌≡◌, ◌++◌, ◌∙◌, List, ℕ, ap, subst}
use Rattle.std.specs.Prelude.{OnOk}
use Rattle.debug_modes.specs.Session.{script_state}
use Rattle.debug_modules.specs.Entering.{module_code_entered}
use Rattle.debug_modules.specs.Services.{ServiceState, service_ended, service_state}
use Rattle.debug_modules.specs.Taking.{HasLineSteps}
use Rattle.debug_modules.specs.declared.entering.ModuleEntry.{ModuleEntry}
use Rattle.debug_modules.proofs.ServiceLemmas.{left_so}
use Rattle.debug_modules.proofs.services.serve.Goals as goal

pub returns : goal.returns
returns c =
    let images = c.args.context.now.images.now in
    let s = script_state c.args.session.now images in
    let labels = c.args.context.now.labels.now in
    let code = c.args.code.now in
    let v : ServiceState = service_state s c.args.modes.now c.args.past.now c.args.serving.now in
    let now = script_state c.enter_code.new.session images in
    let ms = c.enter_code.new.modes in
    let pp = c.enter_code.new.past in
    let taken = c.in_ok-taken.taken in
    let here = subst (λ (r : ℕ). let e : ModuleEntry =
    record { code = code.code; r0 = r; r1 = c.args.serving.now.r1; r12 = code.word } in
    HasLineSteps (module_code_entered c.args.modes.now labels s c.args.past.now c.args.context.now.number e) now ms pp taken.text.items taken.printed.items
    taken.ending.items) (c.register_in.ensures images) c.in_ok-taken.ensures in
    let left = left_so labels c.args.context.now.number code v now ms pp taken.text.items taken.printed.items taken.ending.items _ _ _ here
    (c.in_ok-extend_from_slice.ensures.items ∙ ap (λ (xs : List ℕ). c.args.serving.now.answer.text.items ++ xs) c.as_slice.ensures.value)
    (c.in_ok-extend_from_slice-2.ensures.items
    ∙ ap (λ (xs : List ℕ). c.args.serving.now.answer.printed.items ++ xs) c.as_slice-2.ensures.value)
    (c.register_in-serving.ensures images) in
    subst (λ (x : ServiceState). OnOk c.end_turn.result (service_state now ms pp c.end_turn.new.serving ≡ x))
    (λ i. service_ended (c.as_slice-3.ensures.value i) (here.ending i) (left i))
    (c.end_turn.ensures now ms pp)
