use Rattle.std.proofs.Common.{ℕ, subst}
use Rattle.profile.specs.Outcome.{Leaves}
use Rattle.command_shell.specs.WordWatches.{without_word_watch}
use Rattle.command_shell.proofs.watches.WordWatches.remove.Goals as goal

pub returns : goal.returns
returns c =
    subst (λ (n : ℕ). Leaves c.args.self.now (without_word_watch c.args.self.now n) c.remove_at.result c.remove_at.new.self)
    c.address.ensures.value c.remove_at.ensures
