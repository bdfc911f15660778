use Rattle.std.proofs.Common.{◌≡◌, ◌-◌}
use Rattle.assembler_reading.specs.Labels.{address_of}
use Rattle.assembler.specs.Directives.{more_items}
use Rattle.assembler.proofs.items.put_more_items.Given as goal

-- the items that are left, after those that stand written
abbrev pub invariant-loop-items : goal.invariant-loop-items
invariant-loop-items l =
    more_items (l.count - l._items) l.kind (address_of l.labels) l.output l.rest ≡ more_items l.count l.kind (address_of l.labels) l.fn.output l.text
