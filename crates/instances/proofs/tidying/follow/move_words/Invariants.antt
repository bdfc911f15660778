use Rattle.std.proofs.Common.{◌≡◌, drop}
use Rattle.rma.specs.Areas.{AreaTable}
use Rattle.rma.specs.Ground.{area_store_of}
use Rattle.instances.specs.module_state.Kept.{KeepsPages, StaysSound}
use Rattle.instances.specs.tidying.Slid.{words_moved}
use Rattle.instances.proofs.tidying.follow.move_words.Given as goal

-- the words of the slots that are left still have to move
abbrev pub invariant-loop-slot : goal.invariant-loop-slot
invariant-loop-slot l = record {
  area_store : (area_table : AreaTable) → words_moved l.moves (drop l.slot-index l.slots) (area_store_of l.map area_table) ≡ words_moved l.moves l.slots (area_store_of l.fn.map area_table);
  kept : KeepsPages l.fn.map l.map (StaysSound l.fn.map l.map);
}
