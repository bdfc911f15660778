-- How a store call is refused: by an error of the system, or by the guest's own.
use Rattle.std.specs.Prelude.{Result, Ok, Err}
use Rattle.address_map.specs.ErrorNumber.{ErrorNumber}
use Rattle.swi_dispatch_answers.specs.declared.refusal.Refusal.{Refusal}
use Rattle.swi_dispatch_answers.specs.declared.refusal.Refusal.TheVariants as refusal

abbrev pub system_error : {A : Type 0} → ErrorNumber → Result A Refusal
system_error e = Err (refusal.System e)

-- an error of the system, or a store or what is answered
abbrev pub or_error : {A : Type 0} → Result A ErrorNumber → Result A Refusal
or_error (Ok a) = Ok a
or_error (Err e) = system_error e
