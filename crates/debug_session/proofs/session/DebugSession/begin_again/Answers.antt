-- The machine is made anew, and its past goes on or begins.
use Rattle.std.proofs.Common.{◌≡◌, ◌∙◌, List, sym}
use Rattle.profile.specs.images.Entries.{Entry}
use Rattle.debug_modules.specs.Noted.{past_with_deed}
use Rattle.debug_modules.specs.Past.{past_from_start}
use Rattle.debug_modules.specs.PastDeed.TheVariants.{Anew}
use Rattle.debug_tables.specs.Memory.{script_started_anew}
use Rattle.debug_tables.specs.Session.{script_state}
use Rattle.debug_session.specs.DebugScript.{past_after_reset}
use Rattle.debug_session.specs.Session.{debug_state}
use Rattle.debug_session.proofs.FailLemmas.{and_so}
use Rattle.debug_session.proofs.OwnLemmas.{begun_anew, gone_on_anew}
use Rattle.debug_session.proofs.session.DebugSession.begin_again.Goals as goal

pub returns-then-not-is_kept-clause-made : goal.returns-then-not-is_kept-clause-made
returns-then-not-is_kept-clause-made c images =
    let old = c.args.self.now in
    let d = debug_state old images in
    and_so c.start_anew.result ((es : List Entry) → debug_state c.start_anew.new.self es ≡ record (debug_state old es) {
      script = script_started_anew (debug_state old es).script old.setting.config old.setting.budget;
      past = past_from_start old.setting.keeps_past;
    }) (debug_state c.start_anew.new.self images ≡ record d {
      script = script_started_anew d.script old.setting.config old.setting.budget;
      past = past_after_reset old.setting.keeps_past d.past c.args.number;
    })
    (λ made. begun_anew old.setting d (debug_state c.start_anew.new.self images) c.args.number (made images)
    (sym c.is_kept.ensures ∙ c.if-not-is_kept.true))
    c.start_anew.ensures.made

pub returns-clause-made : goal.returns-clause-made
returns-clause-made c images =
    let old = c.args.self.now in
    let d = debug_state old images in
    let begun = script_state c.start_anew-2.new.self images in
    and_so c.put.result (c.put.new.self ≡ past_with_deed old.past c.args.number Anew)
    (record d { script = begun; past = c.put.new.self } ≡ record d {
      script = script_started_anew d.script old.setting.config old.setting.budget;
      past = past_after_reset old.setting.keeps_past d.past c.args.number;
    })
    (λ noted. gone_on_anew old.setting d begun c.put.new.self c.args.number
    (c.in_ok-start_anew.ensures.made images) noted (sym c.is_kept.ensures ∙ c.if-not-is_kept.false))
    c.put.ensures
