use Rattle.std.proofs.Common.{◌≡◌, [], replicate}
use Rattle.debug_tables.proofs.counts.counts.no_pages.Given as goal

-- so many pages so far
abbrev pub invariant-loop-page : goal.invariant-loop-page
invariant-loop-page l = l.pages.items ≡ replicate l._page []
