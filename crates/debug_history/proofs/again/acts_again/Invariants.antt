use Rattle.std.proofs.Common.{drop}
use Rattle.debug_tables.specs.Session.{script_state}
use Rattle.debug_history.proofs.AgainLemmas.{AreUnderWay}
use Rattle.debug_history.proofs.again.acts_again.Given as goal

-- the acts that are left lead where all of them lead
abbrev pub invariant-loop-act : goal.invariant-loop-act
invariant-loop-act l = AreUnderWay (script_state l.fn.session l.fn.images) (script_state l.session l.images) l.acts
    (drop l.act-index l.acts)
