-- By what a session that is lent keeps.
use Rattle.std.proofs.Common.{◌≡◌}
use Rattle.debug_session.specs.RunError.TheVariants.{Memory, ReadFault, ScriptTooLong, WriteFault}
use Rattle.debug_program.proofs.ResultLemmas.{failed_in}
use Rattle.debug_program.proofs.talk.talk.Goals as goal

pub returns-clause-read_front : goal.returns-clause-read_front
returns-clause-read_front g c =
    failed_in c.talk_to_end.result ReadFault _ c.talk_to_end.ensures.front
    (λ same. absurd (let no : ReadFault ≡ WriteFault = same in cc))

pub returns-clause-memory : goal.returns-clause-memory
returns-clause-memory g c =
    failed_in c.talk_to_end.result Memory _ c.talk_to_end.ensures.front
    (λ same. absurd (let no : Memory ≡ WriteFault = same in cc))

pub returns-clause-long_front : goal.returns-clause-long_front
returns-clause-long_front g c =
    failed_in c.talk_to_end.result ScriptTooLong _ c.talk_to_end.ensures.front
    (λ same. absurd (let no : ScriptTooLong ≡ WriteFault = same in cc))
