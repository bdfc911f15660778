-- What a call that answers leaves where it fails: why it may, and what stands written then.
use Rattle.std.specs.Prelude.{◌≡◌, Bool, true, false, Result, Err, IfErr, OnOk}
use Rattle.debug_tables.specs.Error.{IsLineError}
use Rattle.debug_tables.specs.RunError.{RunError}
use Rattle.debug_tables.specs.RunError.TheVariants.{Memory, ReadFault, WriteFault}

-- How a call ends that has its whole answer before it writes any of it. Where memory ran out, the writer
-- is as it was; where the writer failed, its flag is up; else the flag is as it was.
pub record EndsAtOnce {S A : Type 0} (has_failed : S → Bool) (old new : S) (result : Result A RunError) :
    Type 0 where
  pub errors : IfErr result IsLineError
  pub memory : result ≡ Err Memory → new ≡ old
  pub write_fault : result ≡ Err WriteFault → has_failed new ≡ true
  pub same_flag : OnOk result (has_failed new ≡ has_failed old)

-- A writer's fault is reported where it comes, and only there.
pub record ReportsWriteFault {S A : Type 0} (has_failed : S → Bool) (old new : S)
    (result : Result A RunError) :
    Type 0 where
  pub only : result ≡ Err WriteFault → has_failed new ≡ true
  pub reported : has_failed old ≡ false → has_failed new ≡ true → result ≡ Err WriteFault

-- A reader's fault is reported where it comes, and only there.
pub record ReportsReadFault {S A : Type 0} (has_failed : S → Bool) (old new : S)
    (result : Result A RunError) :
    Type 0 where
  pub only : result ≡ Err ReadFault → has_failed new ≡ true
  pub reported : has_failed old ≡ false → has_failed new ≡ true → result ≡ Err ReadFault
