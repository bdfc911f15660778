-- Neither a word that isn't decoded nor one that isn't carried out asks for anything outside of the core.
use Rattle.std.proofs.Common.{◌∙◌, sym, ap}
use Rattle.trace_effects.specs.declared.effects.Effects.{Effects}
use Rattle.trace_effects.proofs.EffectLemmas.{AsksForNoneAt, inside_at, none_at}
use Rattle.trace_effects.proofs.effects.effects_of.Goals as goal
use Rattle.trace_effects.proofs.effects.effects_of.Goals.{in_default-via-in-Word+else-not-stays_inside, in_default-via-in_default}

nothing : (c : goal.After-no_effects-in_default) → AsksForNoneAt c.args.cpu.now c.args.cause
nothing c = elim c.in_default.branch [
  | in_default-via-in-Word+else-not-stays_inside w ↦
      inside_at c.args.cpu.now c.args.cause w.in-Word.word w.in-Word.is (sym w.stays_inside.ensures ∙ w.if-not-stays_inside.false)
  | in_default-via-in_default w ↦ none_at c.args.cpu.now c.args.cause w.in_default.not-Word
]

pub returns-in_default-clause-swi : goal.returns-in_default-clause-swi
returns-in_default-clause-swi c = ap (λ (e : Effects). e.swi) c.no_effects-in_default.ensures ∙ sym (nothing c).swi

pub returns-in_default-clause-loaded : goal.returns-in_default-clause-loaded
returns-in_default-clause-loaded c = ap (λ (e : Effects). e.loaded) c.no_effects-in_default.ensures ∙ sym (nothing c).loaded

pub returns-in_default-clause-target : goal.returns-in_default-clause-target
returns-in_default-clause-target c = ap (λ (e : Effects). e.target) c.no_effects-in_default.ensures ∙ sym (nothing c).target

pub returns-in_default-clause-stored : goal.returns-in_default-clause-stored
returns-in_default-clause-stored c = ap (λ (e : Effects). e.stored) c.no_effects-in_default.ensures ∙ sym (nothing c).stored
