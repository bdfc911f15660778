-- Each way out is what the definition says there.
use Rattle.std.proofs.Common.{rules}
use Rattle.instances_table.specs.Lookup.{place_meant}
use Rattle.instances_table.proofs.table.InstanceTable.place_meant.Goals as goal

pub returns-in_err-number : goal.returns-in_err-number
unfolding place_meant
returns-in_err-number c = search rules

pub returns-in_err-instance : goal.returns-in_err-instance
unfolding place_meant
returns-in_err-instance c = search rules

pub returns : goal.returns
unfolding place_meant
returns c = search rules
