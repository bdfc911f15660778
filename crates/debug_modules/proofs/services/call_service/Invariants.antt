use Rattle.std.proofs.Common.{◌≡◌, ◌-◌}
use Rattle.debug_modes.specs.Session.{script_state}
use Rattle.debug_modules.specs.Services.{served_from, service_begun, service_state}
use Rattle.debug_modules.proofs.services.call_service.Given as goal

-- the places that are left lead where all do
abbrev pub invariant-loop-place : goal.invariant-loop-place
invariant-loop-place l = served_from (4096 - l.place) l.context.labels.now l.context.number l.title l.place
    (service_state (script_state l.session l.context.images.now) l.modes l.past l.serving)
    ≡ served_from 4096 l.context.labels.now l.context.number l.title 0
    (service_begun l.fn.modes l.context.budget (script_state l.fn.session l.context.images.now) l.fn.past l.service)
