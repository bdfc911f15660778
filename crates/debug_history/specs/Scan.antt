-- How far a search is, which goes from the start to the end.
use Rattle.std.specs.Prelude.{ℕ, ◌+◌, List, Option}
use Rattle.std.specs.Option.{option_or}
use Rattle.profile.specs.images.Entries.{Entry}
use Rattle.profile.specs.Sizes.{Sizes}
use Rattle.debug_history.specs.Acts.{PastMoment, moment_after_acts, steps_of_acts}
use Rattle.debug_history.specs.Search.{last_found, value_in}
use Rattle.debug_history.specs.declared.act.Act.{Act}
use Rattle.debug_history.specs.declared.scan.Scan.{Scan}
use Rattle.debug_history.specs.declared.search.Sought.{Sought}

-- a search that has passed some units more, the first of them at a moment
abbrev pub scan_past : List Entry → Sizes → Sought → List Act → PastMoment → Scan → Scan
scan_past images sizes x us m scan = record {
  step = scan.step + steps_of_acts us;
  seen = value_in x (moment_after_acts images sizes us m).machine;
  found = option_or (last_found images sizes x m scan.step us) scan.found;
}
