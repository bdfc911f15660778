use Rattle.std.proofs.Common.{◌≡◌, true, false}
use Rattle.instances.proofs.ModuleStateLemmas.Keeping.{nothing_dropped, pages_dropped}
use Rattle.instances.proofs.ModuleStateLemmas.Records.{loses_heaps}
use Rattle.instances.proofs.actions.acting.act.Goals as goal

pub returns-in-Finalise-clause-kept : goal.returns-in-Finalise-clause-kept
returns-in-Finalise-clause-kept c = nothing_dropped c.args.map.now c.requires.state (λ l pending none module_state. module_state)

pub returns-in-Remove-clause-kept : goal.returns-in-Remove-clause-kept
returns-in-Remove-clause-kept c =
    let kept = c.remove.ensures.kept in
    record {
      sound = λ l pending none module_state. kept.sound l pending module_state;
      pages = kept.pages;
      classes = kept.classes;
      mapping = kept.mapping;
      records = kept.records;
      flex = kept.flex;
    }

pub returns-in-FreePrivate-clause-kept : goal.returns-in-FreePrivate-clause-kept
returns-in-FreePrivate-clause-kept c =
    let kept = c.free_private.ensures.kept in
    record {
      sound = λ l pending none module_state. kept.sound l c.args.table.now pending module_state;
      pages = kept.pages;
      classes = kept.classes;
      mapping = kept.mapping;
      records = loses_heaps c.args.map.now c.free_private.new.map kept.records;
      flex = kept.flex;
    }

pub returns-in-Insert-clause-module_state : goal.returns-in-Insert-clause-module_state
returns-in-Insert-clause-module_state c = λ slide l.
    let e = c.insert.ensures.area_store l in
    let t = c.insert.ensures.modules in
    rw c.in-Insert.is (λ i. record { area_store = e i; modules = t i })

pub returns-in-Insert-clause-settled : goal.returns-in-Insert-clause-settled
returns-in-Insert-clause-settled c = λ l does module_state. c.insert.ensures.kept.sound l module_state

pub returns-in-Insert-clause-kept : goal.returns-in-Insert-clause-kept
returns-in-Insert-clause-kept c =
    pages_dropped c.args.map.now c.insert.new.map c.requires.state c.insert.ensures.kept
    (λ l pending none module_state. absurd (let no : true ≡ false = rw c.in-Insert.is at none in cc))

pub returns-in-Instantiate-clause-module_state : goal.returns-in-Instantiate-clause-module_state
returns-in-Instantiate-clause-module_state c = λ slide l.
    let e = c.instantiate.ensures.area_store l in
    let t = c.instantiate.ensures.modules in
    rw c.in-Instantiate.is (λ i. record { area_store = e i; modules = t i })

pub returns-in-Instantiate-clause-kept : goal.returns-in-Instantiate-clause-kept
returns-in-Instantiate-clause-kept c =
    pages_dropped c.args.map.now c.instantiate.new.map c.requires.state c.instantiate.ensures.kept
    (λ l pending none module_state. c.instantiate.ensures.kept.sound l pending module_state)

pub returns-in-Initialise-clause-module_state : goal.returns-in-Initialise-clause-module_state
returns-in-Initialise-clause-module_state c = λ slide l.
    let e = rw c.as_slice.ensures.value at (c.put_text.ensures.area_store l) in
    rw c.in-Initialise.is (λ i. record { area_store = e i; modules = c.args.table.now })

pub returns-in-Initialise-clause-kept : goal.returns-in-Initialise-clause-kept
returns-in-Initialise-clause-kept c =
    pages_dropped c.args.map.now c.put_text.new.map c.requires.state c.put_text.ensures.kept
    (λ l pending none module_state. c.put_text.ensures.kept.sound l c.args.table.now pending module_state)

pub returns-in-GiveUp-clause-settled : goal.returns-in-GiveUp-clause-settled
returns-in-GiveUp-clause-settled c = λ l does module_state. c.give_up.ensures.kept.sound l c.args.table.now module_state

pub returns-in-GiveUp-clause-kept : goal.returns-in-GiveUp-clause-kept
returns-in-GiveUp-clause-kept c =
    let kept = c.give_up.ensures.kept in
    record {
      sound = λ l pending none module_state. absurd (let no : true ≡ false = rw c.in-GiveUp.is at none in cc);
      pages = kept.pages;
      classes = kept.classes;
      mapping = kept.mapping;
      records = kept.records;
      flex = kept.flex;
    }
