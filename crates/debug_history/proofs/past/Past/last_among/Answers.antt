use Rattle.std.proofs.Common.{◌≡◌, ◌+◌, ◌≤◌, ◌<◌, ◌^◌, ℕ, List, None, take, drop, refl, ap, ◌∙◌, arith}
use Rattle.profile.specs.images.Entries.{Entry}
use Rattle.debug_tables.specs.Session.{script_state}
use Rattle.debug_tables.specs.State.{ScriptState}
use Rattle.debug_history.specs.Acts.{fresh_moment, moment_after_acts, steps_of_acts}
use Rattle.debug_history.specs.Search.{last_found, units}
use Rattle.debug_history.specs.declared.act.Act.{Act}
use Rattle.debug_history.proofs.ScanLemmas.{found_among, parts_fit}
use Rattle.debug_history.proofs.past.Past.last_among.Goals as goal

pub count_steps-requires : goal.count_steps-requires
count_steps-requires c =
    let acts : List Act = c.args.self.now.acts in
    let all = parts_fit acts c.args.from c.args.until in
    let steps = c.steps-steps.ensures in
    let before : c.split_at-parts.result.0.now ≡ take c.args.from (take c.args.until acts) =
    c.split_at-parts.ensures.front ∙ ap (take c.args.from) (c.split_at-halves.ensures.front ∙ ap (take c.args.until) c.acts.ensures) in
    let count = ap steps_of_acts before in
    omega (arith, all, steps, count)

pub scan_acts-requires-clause-fits : goal.scan_acts-requires-clause-fits
scan_acts-requires-clause-fits c =
    let acts : List Act = c.args.self.now.acts in
    let all = parts_fit acts c.args.from c.args.until in
    let steps = c.steps-steps.ensures in
    let first = c.split_at-halves.ensures.front ∙ ap (take c.args.until) c.acts.ensures in
    let before = ap steps_of_acts (c.split_at-parts.ensures.front ∙ ap (take c.args.from) first) in
    let part = ap steps_of_acts (c.split_at-parts.ensures.back ∙ ap (drop c.args.from) first) in
    let count = c.count_steps.ensures in
    omega (arith, all, steps, before, part, count)

pub returns-clause-found : goal.returns-clause-found
returns-clause-found c =
    let images = c.args.images.now in
    let config = c.args.config in
    let acts : List Act = c.args.self.now.acts in
    let first = c.split_at-halves.ensures.front ∙ ap (take c.args.until) c.acts.ensures in
    let before = c.split_at-parts.ensures.front ∙ ap (take c.args.from) first in
    let part = c.split_at-parts.ensures.back ∙ ap (drop c.args.from) first in
    found_among (script_state c.in_ok-session.session images) (script_state c.acts_again.new.session c.acts_again.new.images)
    images config 0 c.args.sought c.split_at-parts.result.0.now c.split_at-parts.result.1.now
    (record { step = c.count_steps.result; seen = c.seen.result; found = None }) c.scan_acts.new.scan
    (c.in_ok-session.ensures images) c.in_ok-acts_again.ensures.moment c.count_steps.ensures refl c.in_ok-scan_acts.ensures.scan
    ∙ (λ i. last_found images config c.args.sought (moment_after_acts images config (before i) (fresh_moment config))
    (steps_of_acts (before i)) (units (part i)))

pub returns-clause-images : goal.returns-clause-images
returns-clause-images c =
    ap (λ (s : ScriptState). s.images) c.in_ok-scan_acts.ensures.moment
    ∙ ap (λ (s : ScriptState). s.images) c.in_ok-acts_again.ensures.moment
