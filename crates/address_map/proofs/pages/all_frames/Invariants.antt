use Rattle.std.proofs.Common.{◌≡◌, ◌≢◌, ◌≤◌, ◌<◌, ◌+◌, length}
use Rattle.std.specs.List.{All, AllPairs}
use Rattle.address_map.proofs.pages.all_frames.Given as goal

abbrev pub invariant-loop-frame : goal.invariant-loop-frame
invariant-loop-frame l = record {
  len : length l.frames.items + l.frame ≡ l.pages;
  within : All (λ frame. (l.frame ≤ frame) × (frame < l.pages)) l.frames.items;
  apart : AllPairs ◌≢◌ l.frames.items;
}

abbrev pub decreases-loop-frame : goal.decreases-loop-frame
decreases-loop-frame l = l.frame
