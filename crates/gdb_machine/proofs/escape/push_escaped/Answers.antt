use Rattle.gdb_machine.proofs.EscapeLemmas.{escaped_back, escaped_has_no_tag}
use Rattle.gdb_machine.proofs.escape.push_escaped.Goals as goal

pub returns-in_err-push_byte-clause-no_tag : goal.returns-in_err-push_byte-clause-no_tag
returns-in_err-push_byte-clause-no_tag g c = escaped_has_no_tag c.args.bytes.now

pub returns-in_err-push_byte-clause-back : goal.returns-in_err-push_byte-clause-back
returns-in_err-push_byte-clause-back g c = escaped_back c.args.bytes.now

pub returns-clause-no_tag : goal.returns-clause-no_tag
returns-clause-no_tag g c = escaped_has_no_tag c.args.bytes.now

pub returns-clause-back : goal.returns-clause-back
returns-clause-back g c = escaped_back c.args.bytes.now
