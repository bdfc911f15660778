use Rattle.std.proofs.Common.{◌≡◌, ℕ, List, subst}
use Rattle.std.specs.Prelude.{IfOk}
use Rattle.debug_tables.proofs.CountsLemmas.CountLemmas.{zero_counts_are}
use Rattle.debug_tables.proofs.counts.counts.zero_counts.Goals as goal

pub returns : goal.returns
returns c = subst (λ (xs : List ℕ). IfOk c.zeros.result (λ words. words.items ≡ xs)) zero_counts_are c.zeros.ensures
