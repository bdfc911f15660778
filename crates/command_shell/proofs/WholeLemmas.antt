-- How a call ends that reads a script whole and answers its lines.
use Rattle.std.proofs.Common.{◌≡◌, ◌<◌, ◌≤◌, ◌∙◌, ℕ, List, length, Option, Some, None, Result, Ok, Err, ap, arith, sym}
use Rattle.std.specs.Prelude.{IfSome, OnOk}
use Rattle.std.specs.Result.{IsErrAnd}
use Rattle.command_shell_lines.specs.declared.error.ReadingError.{ReadingError}
use Rattle.command_shell_lines.specs.declared.error.ReadingError.TheVariants as reading
use Rattle.command_shell.specs.Error.{IsLineError, reading_end}
use Rattle.command_shell.specs.declared.error.RunError.{RunError}
use Rattle.command_shell.specs.declared.error.RunError.TheVariants as run

-- a result is the error that it was made of
pub is_error : {A : Type 0} (r : Result A RunError) (error : RunError) → IsErrAnd r (λ e. e ≡ error) → r ≡ Err error
is_error (Ok x) error ends = absurd ends
is_error (Err e) error ends = ap (λ (at : RunError). Err at) ends

-- what is said of an `Ok` alone
pub not_ok : {A : Type 0} (r : Result A RunError) (error : RunError) (P : Type 0) → r ≡ Err error → OnOk r P
not_ok (Ok x) error P ends = absurd (cc)
not_ok (Err e) error P ends = tt

-- two results of one error are the same errors
pub same_error : {A U : Type 0} (r : Result A RunError) (other : Result U RunError) (error wanted : RunError)
    → r ≡ Err error → other ≡ Err error → r ≡ Err wanted → other ≡ Err wanted
same_error r other error wanted ends also is =
    let at : error ≡ wanted = (let both = sym ends ∙ is in cc) in
    also ∙ ap (λ (e : RunError). Err e) at

-- a reading fault ends as one
pub as_read_fault : {A V : Type 0} (r : Result A RunError) (read : Result V ReadingError) (error : ReadingError)
    → r ≡ Err (reading_end error) → read ≡ Err error → read ≡ Err reading.ReadFault → r ≡ Err run.ReadFault
as_read_fault r read reading.Memory ends was is = absurd (let both = sym was ∙ is in cc)
as_read_fault r read reading.ReadFault ends was is = ends
as_read_fault r read reading.ScriptTooLong ends was is = absurd (let both = sym was ∙ is in cc)

-- and nothing else does; so with a script that is too long, and so with a script that is too long
pub read_fault_of : {A V : Type 0} (r : Result A RunError) (read : Result V ReadingError) (error : ReadingError)
    → r ≡ Err (reading_end error) → read ≡ Err error → r ≡ Err run.ReadFault → read ≡ Err reading.ReadFault
read_fault_of r read reading.Memory ends was is = absurd (let both = sym ends ∙ is in cc)
read_fault_of r read reading.ReadFault ends was is = was
read_fault_of r read reading.ScriptTooLong ends was is = absurd (let both = sym ends ∙ is in cc)

pub too_long_of : {A V : Type 0} (r : Result A RunError) (read : Result V ReadingError) (error : ReadingError)
    → r ≡ Err (reading_end error) → read ≡ Err error → r ≡ Err run.ScriptTooLong → read ≡ Err reading.ScriptTooLong
too_long_of r read reading.Memory ends was is = absurd (let both = sym ends ∙ is in cc)
too_long_of r read reading.ReadFault ends was is = absurd (let both = sym ends ∙ is in cc)
too_long_of r read reading.ScriptTooLong ends was is = was

-- and neither as a fault of the writer
pub no_write_fault : {A : Type 0} (r : Result A RunError) (error : ReadingError) → r ≡ Err (reading_end error)
    → r ≡ Err run.WriteFault → ⊥
no_write_fault r reading.Memory ends is = absurd (let both = sym ends ∙ is in cc)
no_write_fault r reading.ReadFault ends is = absurd (let both = sym ends ∙ is in cc)
no_write_fault r reading.ScriptTooLong ends is = absurd (let both = sym ends ∙ is in cc)

-- lines end by no fault of the reader
pub line_not_read_fault : {A : Type 0} (r : Result A RunError) (error : RunError) → IsLineError error → r ≡ Err error
    → r ≡ Err run.ReadFault → ⊥
line_not_read_fault r run.Memory line ends is = absurd (let both = sym ends ∙ is in cc)
line_not_read_fault r run.ReadFault line ends is = line
line_not_read_fault r run.WriteFault line ends is = absurd (let both = sym ends ∙ is in cc)
line_not_read_fault r run.ScriptTooLong line ends is = line

pub line_not_too_long : {A : Type 0} (r : Result A RunError) (error : RunError) → IsLineError error → r ≡ Err error
    → r ≡ Err run.ScriptTooLong → ⊥
line_not_too_long r run.Memory line ends is = absurd (let both = sym ends ∙ is in cc)
line_not_too_long r run.ReadFault line ends is = line
line_not_too_long r run.WriteFault line ends is = absurd (let both = sym ends ∙ is in cc)
line_not_too_long r run.ScriptTooLong line ends is = line

-- what holds anyway, and what is said of longer scripts than the one that was read
pub long_or_not : (o : Option (List ℕ)) (P : Type 0) → P → IfSome o (λ script. 1048576 < length script → P)
long_or_not None P holds = tt
long_or_not (Some script) P holds = λ long. holds

pub never_long : (o : Option (List ℕ)) (bytes : List ℕ) (P : Type 0) → IfSome o (λ script. bytes ≡ script)
    → length bytes ≤ 1048576 → IfSome o (λ script. 1048576 < length script → P)
never_long None bytes P same short = tt
never_long (Some script) bytes P same short = λ long. absurd (omega (arith, ap length same, short, long))
