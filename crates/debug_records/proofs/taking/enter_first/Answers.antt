-- A routine is entered by the core alone.
use Rattle.std.proofs.Common.{[]}
use Rattle.debug_session.specs.CommandShellSession.{script_state}
use Rattle.debug_records.proofs.TakingLemmas.{routine_set}
use Rattle.debug_records.proofs.taking.enter_first.Goals as goal

pub returns-in-Some-Gosub-clause-set : goal.returns-in-Some-Gosub-clause-set
returns-in-Some-Gosub-clause-set c =
    routine_set (script_state c.args.twin.now []) (script_state c.enter.new.session []) _ (c.enter.ensures [])
