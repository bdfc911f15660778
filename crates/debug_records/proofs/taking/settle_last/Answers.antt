-- Before the last step nothing is set. Behind it each of the session's registers is, and then its status and
-- its program counter.
use Rattle.std.proofs.Common.{[], ◌∙◌, refl, sym}
use Rattle.std.proofs.lemmas.Bool.{false≢true}
use Rattle.debug_session.specs.CommandShellSession.{script_state}
use Rattle.debug_records.proofs.TakingLemmas.{none_set, set_by, then_set}
use Rattle.debug_records.proofs.taking.settle_last.Goals as goal

pub returns-then-not-is_last : goal.returns-then-not-is_last
returns-then-not-is_last c = record { set = none_set _; earlier = λ earlier. refl }

pub loop-place-init : goal.loop-place-init
loop-place-init c = none_set _

pub loop-place-preserved : goal.loop-place-preserved
loop-place-preserved c =
    then_set _ _ _ c.loop-place.invariant
    (set_by (script_state c.loop-place.twin []) _ _ (c.set_register_in.ensures []) refl refl)

pub returns : goal.returns
returns c = record {
  set = then_set _ _ _ c.loop-place.invariant
      (then_set _ _ _ (set_by (script_state c.loop-place.twin []) _ _ (c.set_psr.ensures []) refl refl)
      (set_by (script_state c.set_psr.new.self []) _ _ (c.set_pc.ensures []) refl refl));
  earlier = λ earlier. absurd (false≢true (sym earlier ∙ c.if-not-is_last.false));
}
