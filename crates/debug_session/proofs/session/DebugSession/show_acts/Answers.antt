-- What the acts show one after another is what all of them show.
use Rattle.std.proofs.Common.{◌≡◌, ◌<◌, ◌≤◌, ◌-◌, ◌==◌, ◌∙◌, ℕ, List, length, ap, arith}
use Rattle.std.specs.Prelude.{vec_len}
use Rattle.debug_modules.specs.Acts.{moment_of_script}
use Rattle.debug_modules.specs.Noted.{is_faulted}
use Rattle.debug_modules.specs.Act.{Act}
use Rattle.debug_modules.proofs.AgainLemmas.{beside_at, beside_both, beside_itself, beside_same}
use Rattle.debug_tables.specs.Session.{script_state}
use Rattle.debug_tables.specs.State.{script_start_state}
use Rattle.debug_session.specs.Session.{debug_state}
use Rattle.debug_session.proofs.ShownStepsLemmas.{byte_if, none_to_show, some_to_show, text_begins, text_behind, text_whole}
use Rattle.debug_session.proofs.session.DebugSession.show_acts.Goals as goal

pub loop-act-init : goal.loop-act-init
unfolding script_start_state
loop-act-init c =
    let d = debug_state c.args.self.now c.args.images.now in
    let setting = c.args.self.now.setting in
    let images = c.args.images.now in
    let start = script_start_state setting.config images 0 in
    let now = script_state c.args.session.now images in
    let same : now ≡ start = c.requires in
    let faulted = c.is_faulted.ensures images in
    let counted = c.saturating_sub-counted.ensures ∙ (λ i. (c.from.ensures i) - ((c.from-2.ensures ∙ byte_if c.is_faulted.result) i)) in
    record {
      beside = beside_same start now start same (beside_itself start);
      text = text_begins d.labels start now c.saturating_sub-skipped.result c.steps.result c.saturating_sub-counted.result c.args.count
          c.is_faulted.result (is_faulted d.script.machine.halt) c.new-text.result.items c.acts-acts.result.now d.past.acts
          c.new-text.ensures.items same c.acts-acts.ensures c.steps.ensures faulted counted c.saturating_sub-skipped.ensures;
    }

pub loop-act-preserved : goal.loop-act-preserved
loop-act-preserved c =
    let acts : List Act = c.acts-acts.result.now in
    let i : ℕ = c.loop-act.act-index in
    let below : i < length acts = omega arith in
    let images = c.args.images.now in
    let start = script_start_state c.args.self.now.setting.config images 0 in
    let now = script_state c.loop-act.session c.loop-act.images in
    let next = script_state c.show_deed.new.session c.show_deed.new.images in
    let act : Act = c.act-item.result in
    let done = c.in_ok-show_deed.ensures.moment in
    record {
      beside = beside_both start now next c.loop-act.invariant.beside (beside_at now next _ done);
      text = text_behind c.args.self.now.labels start now next c.loop-act.skipped c.saturating_sub-skipped-in-loop-act.result acts i act
          c.loop-act.text.items c.show_deed.new.text.items _ below c.act-item.is c.loop-act.invariant.beside done
          (c.saturating_sub-skipped-in-loop-act.ensures ∙ ap (λ (n : ℕ). c.loop-act.skipped - n) c.steps-in-loop-act.ensures)
          c.in_ok-show_deed.ensures.text c.loop-act.invariant.text;
    }

pub returns-then-is_empty-clause-text : goal.returns-then-is_empty-clause-text
returns-then-is_empty-clause-text c =
    let acts : List Act = c.acts-acts.result.now in
    let i : ℕ = c.loop-act.act-index in
    let all : length acts ≤ i = omega arith in
    let start = script_start_state c.args.self.now.setting.config c.args.images.now 0 in
    let whole = text_whole c.args.self.now.labels start c.loop-act.skipped acts i
    (moment_of_script (script_state c.loop-act.session c.loop-act.images)) c.loop-act.text.items _ all c.loop-act.invariant.text in
    let count : vec_len c.loop-act.text ≡ length c.loop-act.text.items = omega (arith, c.loop-act.text.ok.0) in
    none_to_show c.in_ok-refused_line.field-0.items c.loop-act.text.items _ c.in_ok-refused_line.ensures whole (c.is_empty.ensures ∙ ap (λ (n : ℕ). n == 0) count) c.if-is_empty.true

pub returns-clause-text : goal.returns-clause-text
returns-clause-text c =
    let acts : List Act = c.acts-acts.result.now in
    let i : ℕ = c.loop-act.act-index in
    let all : length acts ≤ i = omega arith in
    let start = script_start_state c.args.self.now.setting.config c.args.images.now 0 in
    let whole = text_whole c.args.self.now.labels start c.loop-act.skipped acts i
    (moment_of_script (script_state c.loop-act.session c.loop-act.images)) c.loop-act.text.items _ all c.loop-act.invariant.text in
    let count : vec_len c.loop-act.text ≡ length c.loop-act.text.items = omega (arith, c.loop-act.text.ok.0) in
    some_to_show c.loop-act.text.items _ whole (c.is_empty.ensures ∙ ap (λ (n : ℕ). n == 0) count) c.if-is_empty.false
