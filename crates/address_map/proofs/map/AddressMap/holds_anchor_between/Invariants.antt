use Rattle.std.proofs.Common.{◌≢◌, ◌≤◌, ◌<◌, ◌-◌, ℕ}
use Rattle.address_map.specs.declared.class.Class.TheVariants.{Anchor}
use Rattle.address_map.specs.Memory.{class_of}
use Rattle.address_map.proofs.map.AddressMap.holds_anchor_between.Given as goal

abbrev pub invariant-loop-addr : goal.invariant-loop-addr
invariant-loop-addr l = record {
  from : l.from ≤ l.addr;
  clear : (a : ℕ) → l.from ≤ a → a < l.addr → class_of l.self a ≢ Anchor;
}

abbrev pub decreases-loop-addr : goal.decreases-loop-addr
decreases-loop-addr l = l.end - l.addr
