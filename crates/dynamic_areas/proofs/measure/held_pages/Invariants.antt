use Rattle.std.proofs.Common.{◌≡◌, ◌≤◌}
use Rattle.os_heap.specs.Store.{store_of}
use Rattle.dynamic_areas.specs.Changing.{held_from, must_stay}
use Rattle.dynamic_areas.proofs.measure.held_pages.Given as goal

abbrev pub invariant-loop-pages : goal.invariant-loop-pages
invariant-loop-pages l = record {
  left : held_from (must_stay (store_of l.map) l.area.number) l.area.base l.pages
      ≡ held_from (must_stay (store_of l.map) l.area.number) l.area.base l.area.pages;
  most : l.pages ≤ l.area.pages;
}

abbrev pub decreases-loop-pages : goal.decreases-loop-pages
decreases-loop-pages l = l.pages
