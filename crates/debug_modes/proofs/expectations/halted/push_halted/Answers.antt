-- By the bytes of the fault's name.
use Rattle.std.proofs.Common.{ℕ, List, subst, ◌∙◌}
use Rattle.profile.specs.Output.{Writes}
use Rattle.debug_modes.specs.expectations.Halted.{halted_by_text}
use Rattle.debug_modes.proofs.expectations.halted.push_halted.Goals as goal

pub returns : goal.returns
returns g c =
    subst (λ (name : List ℕ). Writes g.W.Sink.contents g.W.Sink.has_failed c.args.sink.now c.push_halted_by.new.sink
    c.push_halted_by.result (halted_by_text c.args.address name))
    (c.as_bytes.ensures.value ∙ c.name.ensures) c.push_halted_by.ensures
