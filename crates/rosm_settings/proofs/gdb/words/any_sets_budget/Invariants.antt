use Rattle.std.proofs.Common.{◌≡◌, drop, map}
use Rattle.rosm_settings.specs.gdb.Options.{any_sets_budget}
use Rattle.rosm_settings.proofs.gdb.words.any_sets_budget.Given as goal

-- the words so far don't set it
abbrev pub invariant-loop-word : goal.invariant-loop-word
invariant-loop-word l =
    any_sets_budget (map (λ w. w.now) l.words) ≡ any_sets_budget (map (λ w. w.now) (drop l.word-index l.words))
