-- Entry by entry.
use Rattle.std.proofs.Common.{arith, ◌<◌, ◌≤◌}
use Rattle.debug_listing.proofs.TableLemmas.{read_first, read_more, read_outside, read_to_end, read_too_many}
use Rattle.debug_listing.proofs.tables.table_from.Goals as goal

pub loop-number-init : goal.loop-number-init
loop-number-init c = read_first _ _ _ _ c.new-entries.ensures.items

pub loop-number-preserved : goal.loop-number-preserved
loop-number-preserved c =
    let below : c.loop-number._number < 256 = omega arith in
    read_more _ _ _ _ _ _ _ _ c.in-Entry.entry c.command_entry_at.result below c.command_entry_at.ensures c.in-Entry.is
    c.in_ok-push-in-Entry.ensures.items c.loop-number.invariant

pub returns-in-End-clause-entries : goal.returns-in-End-clause-entries
returns-in-End-clause-entries c =
    let below : c.loop-number._number < 256 = omega arith in
    (read_to_end _ _ _ _ _ _ c.command_entry_at.result below c.command_entry_at.ensures c.in-End.is c.loop-number.invariant).all

pub returns-in-End-clause-whole : goal.returns-in-End-clause-whole
returns-in-End-clause-whole c =
    let below : c.loop-number._number < 256 = omega arith in
    (read_to_end _ _ _ _ _ _ c.command_entry_at.result below c.command_entry_at.ensures c.in-End.is c.loop-number.invariant).whole

pub returns-in-Outside-clause-entries : goal.returns-in-Outside-clause-entries
returns-in-Outside-clause-entries c =
    let below : c.loop-number._number < 256 = omega arith in
    (read_outside _ _ _ _ _ _ c.command_entry_at.result below c.command_entry_at.ensures c.in-Outside.is c.loop-number.invariant).all

pub returns-in-Outside-clause-whole : goal.returns-in-Outside-clause-whole
returns-in-Outside-clause-whole c =
    let below : c.loop-number._number < 256 = omega arith in
    (read_outside _ _ _ _ _ _ c.command_entry_at.result below c.command_entry_at.ensures c.in-Outside.is c.loop-number.invariant).whole

pub returns-clause-entries : goal.returns-clause-entries
returns-clause-entries c =
    let past : 256 ≤ c.loop-number._number = omega arith in
    (read_too_many _ _ _ _ _ _ past c.loop-number.invariant).all

pub returns-clause-whole : goal.returns-clause-whole
returns-clause-whole c =
    let past : 256 ≤ c.loop-number._number = omega arith in
    (read_too_many _ _ _ _ _ _ past c.loop-number.invariant).whole
