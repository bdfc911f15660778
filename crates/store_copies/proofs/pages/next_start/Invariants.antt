use Rattle.std.proofs.Common.{◌<◌, ◌≤◌, ◌^◌, take}
use Rattle.std.specs.List.{All}
use Rattle.profile.specs.MemoryMap.{application_start, system_start}
use Rattle.swi_dispatch_guest.specs.Area.{Area}
use Rattle.store_copies.specs.Pages.{IsNotBetween}
use Rattle.store_copies.proofs.pages.next_start.Given as goal

-- no start of those that were passed lies between
abbrev pub invariant-loop-area : goal.invariant-loop-area
invariant-loop-area l = record {
  above : l.at < l.next;
  limit : l.next ≤ 2 ^ 26;
  application : IsNotBetween l.at l.next application_start;
  system : IsNotBetween l.at l.next system_start;
  areas : All (λ (a : Area). IsNotBetween l.at l.next a.base) (take l.area-index l.areas);
}
