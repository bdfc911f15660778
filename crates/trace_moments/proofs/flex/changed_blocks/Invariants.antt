use Rattle.std.proofs.Common.{◌≡◌, ◌++◌, length}
use Rattle.std.specs.List.{flat_map}
use Rattle.flex_store.specs.Listed.{all_listed}
use Rattle.flex_store.specs.State.{flex_in}
use Rattle.trace_moments.proofs.FlexLemmas.{gone, kept, listed}
use Rattle.trace_moments.proofs.flex.changed_blocks.Given as goal

-- what is listed, and what is to come of the blocks that are left, is all
abbrev pub invariant-loop-gone : goal.invariant-loop-gone
invariant-loop-gone l = l.changes.items ++ flat_map (gone (all_listed (flex_in l.after l.new.extent))) l.olds
    ≡ flat_map (gone (all_listed (flex_in l.after l.new.extent))) (all_listed (flex_in l.before l.old.extent))

abbrev pub decreases-loop-gone : goal.decreases-loop-gone
decreases-loop-gone l = length l.olds

abbrev pub invariant-loop-block : goal.invariant-loop-block
invariant-loop-block l = l.changes.items ++ flat_map (kept (all_listed (flex_in l.before l.old.extent))) l.news
    ≡ listed (all_listed (flex_in l.before l.old.extent)) (all_listed (flex_in l.after l.new.extent))

abbrev pub decreases-loop-block : goal.decreases-loop-block
decreases-loop-block l = length l.news
