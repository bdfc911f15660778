-- The written machine at its start, and a run of no step.
use Rattle.std.proofs.Common.{◌≡◌, ◌&&◌, ◌==◌, Bool, false, true, ℕ, List, IsSome, Option, Some, None, Result, Ok, [], Err, refl, sym, subst, ap, ◌∙◌, arith}
use Rattle.std.specs.Prelude.{IfOk, OnErr, is_err}
use Rattle.profile.specs.Outcome.{Leaves}
use Rattle.profile.specs.Fault.{Fault}
use Rattle.std.proofs.lemmas.Bool.Decides.{nat_tests}
use Rattle.profile.specs.images.Entries.{Entry}
use Rattle.profile.specs.declared.sink.WriteFault.{WriteFault}
use Rattle.std.specs.Option.{option_map}
use Rattle.profile.specs.declared.stop.Stop.{Stop}
use Rattle.profile.specs.Sizes.{Sizes}
use Rattle.swi_dispatch_guest.specs.declared.halt.Halt.{Halt}
use Rattle.swi_dispatch_guest.specs.declared.running.Ran.{Ran}
use Rattle.swi_dispatch_guest.specs.Ending.{Ends, StandsAfter}
use Rattle.swi_dispatch_guest.specs.MachineState.{MachineState, machine_start, stop_of}
use Rattle.swi_dispatch_guest.specs.Run.{Run, silent_run, ran}
use Rattle.swi_dispatch_guest.proofs.RunLoop.{ran-halted, ran-none}

-- a machine that stands as it was made isn't halted
pub fresh_unhalted : (s : MachineState) (sizes : Sizes) (b : Bool) (r : Option Stop) → (b ≡ true → s ≡ machine_start sizes) → r ≡ option_map stop_of s.halt
    → IsSome r → b ≡ false
unfolding machine_start
fresh_unhalted s sizes false r start e some = refl
fresh_unhalted s sizes true None start e some = cc
fresh_unhalted s sizes true (Some x) start e some = let k : s.halt ≡ None = ap (λ (t : MachineState). t.halt) (start refl) in
    let none : Some x ≡ None = e ∙ ap (option_map stop_of) k in cc

-- a run of no step
both : (a b : Bool) → (a && b) ≡ true → (a ≡ true) × (b ≡ true)
both true b is = (refl, is)
both false b is = cc

still : (images : List Entry) (breaks : List ℕ) (s : MachineState) (o : Option Halt) → s.halt ≡ o → (ran images breaks 0 s).now ≡ s
still images breaks s None e = ap (λ (r : Run). r.now) (ran-none images breaks s e)
still images breaks s (Some h) e = ap (λ (r : Run). r.now) (ran-halted images breaks 0 s h e)

none_ran : (images : List Entry) (breaks : List ℕ) (budget : ℕ) (s t : MachineState) (o0 o1 : List ℕ) (c0 c1 : Option (List ℕ))
    (r : Result Ran WriteFault) → budget ≡ 0
    → IfOk r (λ (x : Ran). Ends (ran images breaks budget s) t o0 o1 c0 c1 x.taken x.stop)
    → OnErr r (StandsAfter images breaks budget s t o1 c0 c1) → t ≡ s
none_ran images breaks budget s t o0 o1 c0 c1 (Ok x) none ends stands =
    ends.machine ∙ ap (λ (n : ℕ). (ran images breaks n s).now) none ∙ still images breaks s s.halt refl
none_ran images breaks budget s t o0 o1 c0 c1 (Err e) none ends stands =
    let within = stands.within in absurd (omega (arith, none, within))

pub start_stays : (images : List Entry) (breaks : List ℕ) (budget : ℕ) (s t start : MachineState) (b : Bool) (o0 o1 : List ℕ) (c0 c1 : Option (List ℕ))
    (r : Result Ran WriteFault) → (b ≡ true → s ≡ start)
    → IfOk r (λ (x : Ran). Ends (ran images breaks budget s) t o0 o1 c0 c1 x.taken x.stop)
    → OnErr r (StandsAfter images breaks budget s t o1 c0 c1) → (b && (budget == 0)) ≡ true → t ≡ start
start_stays images breaks budget s t start b o0 o1 c0 c1 r was ends stands fresh =
    let parts = both b (budget == 0) fresh in
    let zero : (budget == 0) ≡ true = parts.1 in
    let none : budget ≡ 0 = grind (arith, nat_tests, zero) in
    none_ran images breaks budget s t o0 o1 c0 c1 r none ends stands ∙ was parts.0

-- the same of a run that prints nothing
pub silent_start_stays : (breaks : List ℕ) (n : ℕ) (s t start : MachineState) (b : Bool) (x : Stop)
    → ((images : List Entry) → ran images breaks n s ≡ silent_run t n x) → (b ≡ true → s ≡ start) → (b && (n == 0)) ≡ true → t ≡ start
silent_start_stays breaks n s t start b x h was fresh =
    let parts = both b (n == 0) fresh in
    let zero : (n == 0) ≡ true = parts.1 in
    let none : n ≡ 0 = grind (arith, nat_tests, zero) in
    let at_none : ran [] breaks 0 s ≡ silent_run t 0 x = subst (λ (k : ℕ). ran [] breaks k s ≡ silent_run t k x) none (h []) in
    ap (λ (r : Run). r.now) (sym at_none) ∙ still [] breaks s s.halt refl ∙ was parts.0

-- a user's store that is refused
pub poked_start : (s t start : MachineState) (r : Result MachineState Fault) (result : Result (Unit {0}) Fault) (b : Bool) → Leaves s r result t
    → (b ≡ true → s ≡ start) → (b && is_err result) ≡ true → t ≡ start
poked_start s t start r (Ok x) b left was fresh = let parts = both b false fresh in let never : false ≡ true = parts.1 in cc
poked_start s t start (Ok u) (Err f) b left was fresh = absurd left
poked_start s t start (Err e) (Err f) b left was fresh = left.1 ∙ was (both b true fresh).0
