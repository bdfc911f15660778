use Rattle.std.proofs.Common.{◌≡◌, drop}
use Rattle.debug_modules.specs.Acts.{moment_of_script}
use Rattle.debug_tables.specs.Session.{script_state}
use Rattle.debug_tables.specs.State.{script_start_state}
use Rattle.debug_modules.proofs.AgainLemmas.{IsBeside}
use Rattle.debug_session.specs.LastSteps.{last_steps_text, text_of_acts}
use Rattle.debug_session.specs.Session.{debug_state}
use Rattle.debug_session.proofs.session.DebugSession.show_acts.Given as goal

-- what is shown so far, and what the acts that are left show, is all
abbrev pub invariant-loop-act : goal.invariant-loop-act
invariant-loop-act l = record {
  beside : IsBeside (script_start_state l.fn.self.setting.config l.fn.images 0) (script_state l.session l.images);
  text : text_of_acts l.fn.self.labels (script_start_state l.fn.self.setting.config l.fn.images 0) l.skipped
      (drop l.act-index l.acts) (moment_of_script (script_state l.session l.images)) l.text.items
      ≡ last_steps_text l.fn.self.setting (debug_state l.fn.self l.fn.images) l.fn.count;
}
