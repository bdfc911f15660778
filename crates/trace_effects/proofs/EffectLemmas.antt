-- A word whose form stays in the core asks for nothing outside of it.
use Rattle.std.proofs.Common.{◌≡◌, ℕ, true, Option, Some, None, Result, Ok, Err, refl, sym, subst}
use Rattle.profile.specs.Fault.{Fault}
use Rattle.arm_core.specs.State.{State}
use Rattle.arm_decode.specs.Decoded.{decoded_as, instruction_of_word, unless_refused}
use Rattle.arm_decode.specs.Fields.{action_in, condition_in}
use Rattle.arm_decode.specs.Refusals.{refusal}
use Rattle.arm_decode.specs.Table.{form_of}
use Rattle.arm_decode.specs.declared.action.Action.{Action}
use Rattle.arm_decode.specs.declared.condition.Condition.{Condition}
use Rattle.arm_decode.specs.declared.form.Form.{Form}
use Rattle.arm_decode.specs.declared.form.Form.TheVariants as form
use Rattle.trace_effects.specs.Cause.{swi_if_decoded, swi_of_cause}
use Rattle.trace_effects.specs.Effects.{stays_inside}
use Rattle.trace_effects.specs.Loaded.{loaded_register, loaded_words, loads_if_decoded, register_if_decoded}
use Rattle.trace_effects.specs.Stored.{no_words, stored_words, words_if_decoded}
use Rattle.trace_effects.specs.declared.cause.Cause.{Cause}
use Rattle.trace_effects.specs.declared.cause.Cause.TheVariants.{Gate, Unmapped, Skipped, Word}
use Rattle.std.proofs.lemmas.Bool.{false≢true}

-- it asks for nothing outside of the core
pub record AsksForNothing (s : State) (i : Result (Condition × Action) Fault) : Type 0 where
  pub swi : swi_if_decoded i ≡ None
  pub stored : words_if_decoded s i ≡ no_words
  pub loaded : loads_if_decoded s i ≡ no_words
  pub target : register_if_decoded i ≡ None

none_asked : (s : State) (f : Option Fault) (c : Condition) (a : Action) → AsksForNothing s (Ok (c, a))
    → AsksForNothing s (unless_refused f (c, a))
none_asked s None c a h = h
none_asked s (Some fault) c a h = record { swi = refl; stored = refl; loaded = refl; target = refl }

of_form : (s : State) (f : Form) (w : ℕ) → stays_inside (Ok f) ≡ true → AsksForNothing s (Ok (condition_in w, action_in f w))
of_form s form.Multiply w is = record { swi = refl; stored = refl; loaded = refl; target = refl }
of_form s form.ShiftByNumber w is = record { swi = refl; stored = refl; loaded = refl; target = refl }
of_form s form.ShiftByRegister w is = record { swi = refl; stored = refl; loaded = refl; target = refl }
of_form s form.Immediate w is = record { swi = refl; stored = refl; loaded = refl; target = refl }
of_form s form.OffsetByNumber w is = absurd (false≢true is)
of_form s form.OffsetByRegister w is = absurd (false≢true is)
of_form s form.BlockTransfer w is = absurd (false≢true is)
of_form s form.Branch w is = record { swi = refl; stored = refl; loaded = refl; target = refl }
of_form s form.SoftwareInterrupt w is = absurd (false≢true is)

of_row : (s : State) (row : Result Form Fault) (w : ℕ) → stays_inside row ≡ true → AsksForNothing s (decoded_as row w)
of_row s (Ok f) w is = none_asked s (refusal (action_in f w)) (condition_in w) (action_in f w) (of_form s f w is)
of_row s (Err fault) w is = absurd (false≢true is)

inside : (s : State) (w : ℕ) → stays_inside (form_of w) ≡ true → AsksForNothing s (instruction_of_word w)
unfolding instruction_of_word
inside s w is = of_row s (form_of w) w is

-- nor does what stands at a program counter, where it is such a word or none that is carried out
pub record AsksForNoneAt (s : State) (c : Cause) : Type 0 where
  pub swi : swi_of_cause c ≡ None
  pub stored : stored_words c s ≡ no_words
  pub loaded : loaded_words c s ≡ no_words
  pub target : loaded_register c ≡ None

pub inside_at : (s : State) (c : Cause) (w : ℕ) → c ≡ Word w → stays_inside (form_of w) ≡ true → AsksForNoneAt s c
inside_at s c w is stays =
    let none = inside s w stays in
    subst (λ (d : Cause). AsksForNoneAt s d) (sym is) (record { swi = none.swi; stored = none.stored; loaded = none.loaded; target = none.target })

pub none_at : (s : State) (c : Cause) → ((w : ℕ) → c ≡ Word w → ⊥) → AsksForNoneAt s c
none_at s (Word w) other = absurd (other w refl)
none_at s (Skipped w) other = record { swi = refl; stored = refl; loaded = refl; target = refl }
none_at s Gate other = record { swi = refl; stored = refl; loaded = refl; target = refl }
none_at s Unmapped other = record { swi = refl; stored = refl; loaded = refl; target = refl }
