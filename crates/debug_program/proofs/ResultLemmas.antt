-- Calls that may fail: what is known of their writers, and of what stands written.
use Rattle.std.proofs.Common.{◌≡◌, ◌⊎◌, inl, inr, Bool, true, false, sym, refl, Result, Ok, Err, ◌∙◌}
use Rattle.std.specs.Prelude.{IfErr}
use Rattle.std.specs.Result.{IsErrAnd}
use Rattle.debug_session.specs.RunError.{RunError}
use Rattle.debug_session.specs.RunError.TheVariants.{Memory, ReadFault, ScriptTooLong, WriteFault}
use Rattle.debug_session.specs.Error.{IsLineError}
use Rattle.debug_session.specs.Failing.{ReportsWriteFault}

-- WRITERS

-- a writer that has failed no more than before
pub unfailed_reports : {S A : Type 0} (has_failed : S → Bool) (old new : S) (value : A) → has_failed new ≡ has_failed old
    → ReportsWriteFault has_failed old new (Ok value)
unfailed_reports has_failed old new value same = record {
  only = λ is. absurd (let no : Ok value ≡ Err WriteFault = is in cc);
  reported = λ before after. absurd (let no : true ≡ false = sym after ∙ same ∙ before in cc);
}

-- a writer whose fault is reported
pub failed_reports : {S A : Type 0} (has_failed : S → Bool) (old new : S) (result : Result A RunError)
    → result ≡ Err WriteFault → has_failed new ≡ true → ReportsWriteFault has_failed old new result
failed_reports has_failed old new result is failed = record { only = λ same. failed; reported = λ before after. is }

-- a flag that would have stayed up was down
pub flag_kept : (first last : Bool) → last ≡ false → (first ≡ true → last ≡ true) → last ≡ first
flag_kept true last down stays = stays refl
flag_kept false last down stays = down

-- RESULTS

-- what stands written where a call failed, but for an error of the writer
abbrev pub FailsIn : {A : Type 0} → Result A RunError → Type 0 → Type 0
FailsIn result P = IfErr result (λ e. (e ≡ WriteFault) ⊎ P)

-- by the error that a call hands on
pub fails_by : {A : Type 0} (result : Result A RunError) (error : RunError) (P : Type 0) → IsErrAnd result (λ e. e ≡ error)
    → (error ≡ WriteFault) ⊎ P → FailsIn result P
fails_by (Ok a) error P given why = tt
fails_by (Err e) error P given (inl fault) = inl (given ∙ fault)
fails_by (Err e) error P given (inr there) = inr there

pub fails_in : {A : Type 0} (result : Result A RunError) (P : Type 0) → P → FailsIn result P
fails_in (Ok a) P there = tt
fails_in (Err e) P there = inr there

-- an error of a line
pub fails_at_line : {A : Type 0} (result : Result A RunError) (error : RunError) (P : Type 0) → IsErrAnd result (λ e. e ≡ error)
    → IsLineError error → (error ≡ Memory → P) → FailsIn result P
fails_at_line (Ok a) error P given line there = tt
fails_at_line (Err e) Memory P given line there = inr (there refl)
fails_at_line (Err e) ReadFault P given line there = absurd line
fails_at_line (Err e) WriteFault P given line there = inl given
fails_at_line (Err e) ScriptTooLong P given line there = absurd line

-- an error that isn't the writer's
pub failed_in : {A : Type 0} (result : Result A RunError) (error : RunError) (P : Type 0) → FailsIn result P → ¬ (error ≡ WriteFault)
    → result ≡ Err error → P
failed_in (Ok a) error P why other is = absurd (cc)
failed_in (Err e) error P (inl fault) other is = absurd (other (let same : e ≡ error = cc in sym same ∙ fault))
failed_in (Err e) error P (inr there) other is = there
