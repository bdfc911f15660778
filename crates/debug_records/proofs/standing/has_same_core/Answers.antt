-- Nothing differs of two cores.
use Rattle.std.proofs.Common.{rules, ◌≡◌, ◌∙◌, sym}
use denote.Enum.Bare.{same_true}
use Rattle.arm_core.specs.contracts.psr.Mode.{the_type}
use Rattle.debug_records.proofs.StandingLemmas.{none_differ, psr_same, same_core}
use Rattle.debug_records.proofs.standing.has_same_core.Goals as goal

pub returns : goal.returns
returns c = λ none.
    let same : c.psr.result ≡ c.psr-else-pc.result =
    psr_same c.psr.result c.psr-else-pc.result _ c.if-ne.ensures (λ same. same_true the_type (search rules) _ _ same) in
    same_core c.args.first.now c.args.second.now (sym c.pc.ensures.value ∙ (c.if-pc.false ∙ c.pc-2.ensures.value))
    (sym c.psr.ensures ∙ (same ∙ c.psr-else-pc.ensures))
    (none_differ c.shown_registers.result.items _ _ (sym c.is_empty.ensures ∙ none) c.shown_registers.ensures.replays)
