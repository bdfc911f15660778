use Rattle.std.proofs.Common.{◌≡◌, Some, sym, ◌∙◌, arith}
use Rattle.assembler_reading.specs.Labels.{address_of}
use Rattle.assembler_reading.specs.Words.{comma}
use Rattle.assembler.specs.Directives.{with_item_read}
use Rattle.assembler.proofs.ItemLemmas.{one_item, item_steps}
use Rattle.assembler.proofs.items.put_more_items.Goals as goal

pub loop-items-preserved : goal.loop-items-preserved
loop-items-preserved c =
    let comma_there : comma c.loop-items.rest.now ≡ Some c.in-Some.after.now = sym c.in-Some.ensures in
    let item_there : with_item_read c.args.kind (address_of c.args.labels.now) c.loop-items.output c.in-Some.after.now ≡ Some (c.put_item.new.output, c.in-Some-2.next.now)
    = sym (rw c.in-Some-2.is at c.in_ok-next.ensures) in
    sym (one_item c.args.count c.loop-items._items c.args.kind (address_of c.args.labels.now) c.loop-items.output c.put_item.new.output
    c.loop-items.rest.now c.in-Some.after.now c.in-Some-2.next.now (omega arith) comma_there item_there) ∙ c.loop-items.invariant

pub returns-in_default : goal.returns-in_default
returns-in_default c = grind (arith, item_steps)

pub returns-in_default-2 : goal.returns-in_default-2
returns-in_default-2 c = grind (arith, item_steps)

pub returns : goal.returns
returns c = grind (arith, item_steps)
