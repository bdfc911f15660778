-- Place by place.
use Rattle.std.proofs.Common.{◌≡◌, ◌+◌, ◌-◌, ◌<◌, ◌∙◌, ap, arith, sym}
use Rattle.debug_modes.specs.Session.{script_state}
use Rattle.debug_modules.specs.Services.{ServiceState, served_from, service_state}
use Rattle.debug_modules.proofs.ServiceLemmas.{begun_so, served_next, served_past}
use Rattle.debug_modules.proofs.services.call_service.Goals as goal

pub loop-place-init : goal.loop-place-init
loop-place-init c =
    let images = c.args.context.now.images.now in
    ap (λ (v : ServiceState). served_from 4096 c.args.context.now.labels.now c.args.context.now.number c.args.title.now 0 v)
    (begun_so (script_state c.args.session.now images) (script_state c.set_budget.new.self images) c.args.modes.now c.args.past.now
    c.args.context.now.budget c.args.service c.new.result.items c.new-2.result.items c.in_ok-ending.ending.items
    (c.set_budget.ensures images) c.new.ensures.items c.new-2.ensures.items c.in_ok-ending.ensures.items)

pub loop-place-preserved : goal.loop-place-preserved
loop-place-preserved c =
    let images = c.args.context.now.images.now in
    let place = c.loop-place.place in
    let below : place < 4096 = omega arith in
    let labels = c.args.context.now.labels.now in
    let title = c.args.title.now in
    let v : ServiceState = service_state (script_state c.loop-place.session images) c.loop-place.modes c.loop-place.past c.loop-place.serving in
    ap (λ (w : ServiceState). served_from (4096 - (place + 1)) labels c.args.context.now.number title (place + 1) w) c.in_ok-serve_at.ensures
    ∙ sym (served_next labels c.args.context.now.number title place v below) ∙ c.loop-place.invariant

pub returns : goal.returns
returns c =
    let images = c.args.context.now.images.now in
    let place = c.loop-place.place in
    let past : 4096 - place ≡ 0 = omega arith in
    let labels = c.args.context.now.labels.now in
    let title = c.args.title.now in
    let v : ServiceState = service_state (script_state c.loop-place.session images) c.loop-place.modes c.loop-place.past c.loop-place.serving in
    let whole = sym (served_past labels c.args.context.now.number title (4096 - place) place v past) ∙ c.loop-place.invariant in record {
      script = ap (λ (w : ServiceState). w.taken.script) whole;
      modes = ap (λ (w : ServiceState). w.taken.modes) whole;
      past = ap (λ (w : ServiceState). w.taken.past) whole;
      text = ap (λ (w : ServiceState). w.taken.text) whole;
      printed = ap (λ (w : ServiceState). w.taken.printed) whole;
      ending = ap (λ (w : ServiceState). w.taken.ending) whole;
    }
