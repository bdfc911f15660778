-- How a call ends that has its whole answer before it writes any of it, by how it leaves its writer.
use Rattle.std.proofs.Common.{◌≡◌, Bool, true, Result, Ok, Err, refl, subst, sym}
use Rattle.std.specs.Prelude.{IfErr}
use Rattle.std.specs.Result.{IsErrAnd}
use Rattle.debug_tables.specs.RunError.{RunError}
use Rattle.debug_tables.specs.RunError.TheVariants.{Memory, ReadFault, WriteFault, ScriptTooLong}
use Rattle.debug_session.specs.Failing.{EndsAtOnce}

-- with all of it
pub ends_written : {S A : Type 0} (has_failed : S → Bool) (old new : S) (a : A) → has_failed new ≡ has_failed old
    → EndsAtOnce has_failed old new (Ok a)
ends_written has_failed old new a same = record {
  errors = tt;
  memory = λ is. absurd (cc);
  write_fault = λ is. absurd (cc);
  same_flag = same;
}

-- without memory, by the error that a call before the first write hands on
pub ends_unwritten : {S A : Type 0} (has_failed : S → Bool) (now : S) (result : Result A RunError) (error : RunError)
    → IsErrAnd result (λ e. e ≡ error) → error ≡ Memory → EndsAtOnce has_failed now now result
ends_unwritten has_failed now (Ok a) error given why = absurd given
ends_unwritten has_failed now (Err Memory) error given why = record {
  errors = tt;
  memory = λ is. refl;
  write_fault = λ is. absurd (cc);
  same_flag = tt;
}
ends_unwritten has_failed now (Err ReadFault) error given why = absurd (cc)
ends_unwritten has_failed now (Err WriteFault) error given why = absurd (cc)
ends_unwritten has_failed now (Err ScriptTooLong) error given why = absurd (cc)

-- where its writer failed
pub ends_failed : {S A : Type 0} (has_failed : S → Bool) (old new : S) (result : Result A RunError)
    → IsErrAnd result (λ e. e ≡ WriteFault) → has_failed new ≡ true → EndsAtOnce has_failed old new result
ends_failed has_failed old new (Ok a) given failed = absurd given
ends_failed has_failed old new (Err WriteFault) given failed = record {
  errors = tt;
  memory = λ is. absurd (cc);
  write_fault = λ is. failed;
  same_flag = tt;
}
ends_failed has_failed old new (Err Memory) given failed = absurd (cc)
ends_failed has_failed old new (Err ReadFault) given failed = absurd (cc)
ends_failed has_failed old new (Err ScriptTooLong) given failed = absurd (cc)

-- where nothing is written, by a call that fails without memory alone
pub ends_silent : {S A : Type 0} (has_failed : S → Bool) (now : S) (result : Result A RunError)
    → IfErr result (λ e. e ≡ Memory) → EndsAtOnce has_failed now now result
ends_silent has_failed now (Ok a) why = ends_written has_failed now now a refl
ends_silent has_failed now (Err Memory) why = record {
  errors = tt;
  memory = λ is. refl;
  write_fault = λ is. absurd (cc);
  same_flag = tt;
}
ends_silent has_failed now (Err ReadFault) why = absurd (cc)
ends_silent has_failed now (Err WriteFault) why = absurd (cc)
ends_silent has_failed now (Err ScriptTooLong) why = absurd (cc)

-- as a call ends whose error is handed on
pub ends_handed : {S A : Type 0} (has_failed : S → Bool) (old new : S) (result : Result A RunError) (error : RunError)
    → EndsAtOnce {A = A} has_failed old new (Err error) → IsErrAnd result (λ e. e ≡ error) → EndsAtOnce has_failed old new result
ends_handed has_failed old new (Ok a) error ends given = absurd given
ends_handed {A = A} has_failed old new (Err e) error ends given =
    subst (λ (x : RunError). EndsAtOnce {A = A} has_failed old new (Err x)) (sym given) ends
