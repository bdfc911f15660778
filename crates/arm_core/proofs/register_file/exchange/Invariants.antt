use Rattle.std.proofs.Common.{◌≡◌, ◌<◌, ℕ, List, length, slice_index}
use Rattle.arm_core.specs.register_file.Banks.{changed_place}
use Rattle.arm_core.proofs.register_file.exchange.Given as goal

pub record IsChanged (file old : List ℕ) (first ahead end : ℕ) : Type 0 where
  pub size : length file ≡ 26
  pub changed : (k : ℕ) → k < 26 → slice_index file k ≡ slice_index old (changed_place first end ahead k)

abbrev pub invariant-loop-number : goal.invariant-loop-number
invariant-loop-number l = IsChanged l.file l.fn.file l.first l.ahead l.number
