-- A call whose answer goes to registers leaves what its definition says, where what it answers and what it
-- leaves besides is what the call itself is defined by.
use Rattle.std.proofs.Common.{◌≡◌, ℕ, Result, Ok, Err, refl, sym}
use Rattle.profile.specs.Outcome.{Gives, Leaves, bind}
use Rattle.profile.specs.ErrorNumber.{ErrorNumber}
use Rattle.instances.specs.Ground.{AreaStore}
use Rattle.instances.specs.module_state.ModuleState.{ModuleState}
use Rattle.swi_dispatch_answers.specs.Refusals.{or_error}
use Rattle.swi_dispatch_answers.specs.State.{State, with_register}
use Rattle.swi_dispatch_answers.specs.declared.refusal.Refusal.{Refusal}

pub done_left : {S : Type 0} (cpu : State) (s now : S) (r : Result (S × Unit {0}) ErrorNumber)
    (x : Result (Unit {0}) ErrorNumber) (result : Result (Unit {0}) Refusal)
    → Gives {U = Unit {0}} s r x now → Leaves {S = Unit {0}} tt (or_error x) result tt
    → Leaves {S = State × S} (cpu, s) (bind (or_error r) (λ q. Ok (cpu, q.0))) result (cpu, now)
done_left cpu s now (Ok q) (Ok u) (Ok v) gives done = rw (gives.0) refl
done_left cpu s now (Ok q) (Ok u) (Err f) gives done = absurd done
done_left cpu s now (Err e) (Err d) (Ok v) gives done = absurd done
done_left cpu s now (Err e) (Err d) (Err f) gives done = (rw (done.0, gives.0) refl, rw (gives.1) refl)
done_left cpu s now (Ok q) (Err d) result gives done = absurd gives
done_left cpu s now (Err e) (Ok u) result gives done = absurd gives

pub register_left : {S : Type 0} (cpu after : State) (n : ℕ) (s now : S) (r : Result (S × ℕ) ErrorNumber)
    (x : Result ℕ ErrorNumber) (result : Result (Unit {0}) Refusal) → Gives {U = ℕ} s r x now
    → Leaves cpu (bind (or_error x) (λ value. Ok (with_register cpu n value))) result after
    → Leaves {S = State × S} (cpu, s) (bind (or_error r) (λ q. Ok (with_register cpu n q.1, q.0))) result (after, now)
register_left cpu after n s now (Ok q) (Ok b) (Ok u) gives left = rw (left, gives.0, gives.1) refl
register_left cpu after n s now (Err e) (Err d) (Err f) gives left = (rw (left.0, gives.0) refl, rw (left.1, gives.1) refl)
register_left cpu after n s now (Ok q) (Ok b) (Err f) gives left = absurd left
register_left cpu after n s now (Err e) (Err d) (Ok u) gives left = absurd left
register_left cpu after n s now (Ok q) (Err d) result gives left = absurd gives
register_left cpu after n s now (Err e) (Ok b) result gives left = absurd gives

-- the same where nothing is left besides
pub read_left : {S A : Type 0} (cpu after : State) (put : A → State) (s : S) (r x : Result A ErrorNumber)
    (result : Result (Unit {0}) Refusal) → x ≡ r
    → Leaves cpu (bind (or_error x) (λ value. Ok (put value))) result after
    → Leaves {S = State × S} (cpu, s) (bind (or_error r) (λ value. Ok (put value, s))) result (after, s)
read_left cpu after put s r (Ok b) (Ok u) is left = rw (sym is, left) refl
read_left cpu after put s r (Err e) (Err f) is left = rw (sym is) (left.0, rw (left.1) refl)
read_left cpu after put s r (Ok b) (Err f) is left = absurd left
read_left cpu after put s r (Err e) (Ok u) is left = absurd left

-- and where the areas are left, with modules beside them
pub area_done_left : (cpu : State) (w : ModuleState) (now : AreaStore) (r : Result (AreaStore × Unit {0}) ErrorNumber)
    (x : Result (Unit {0}) ErrorNumber) (result : Result (Unit {0}) Refusal)
    → Gives {U = Unit {0}} w.area_store r x now → Leaves {S = Unit {0}} tt (or_error x) result tt
    → Leaves {S = State × ModuleState} (cpu, w) (bind (or_error r) (λ q. Ok (cpu, record w { area_store = q.0 }))) result
    (cpu, record w { area_store = now })
area_done_left cpu w now (Ok q) (Ok u) (Ok v) gives done = rw (gives.0) refl
area_done_left cpu w now (Ok q) (Ok u) (Err f) gives done = absurd done
area_done_left cpu w now (Err e) (Err d) (Ok v) gives done = absurd done
area_done_left cpu w now (Err e) (Err d) (Err f) gives done = (rw (done.0, gives.0) refl, rw (gives.1) refl)
area_done_left cpu w now (Ok q) (Err d) result gives done = absurd gives
area_done_left cpu w now (Err e) (Ok u) result gives done = absurd gives

pub area_register_left : (cpu after : State) (n : ℕ) (w : ModuleState) (now : AreaStore) (r : Result (AreaStore × ℕ) ErrorNumber)
    (x : Result ℕ ErrorNumber) (result : Result (Unit {0}) Refusal) → Gives {U = ℕ} w.area_store r x now
    → Leaves cpu (bind (or_error x) (λ value. Ok (with_register cpu n value))) result after
    → Leaves {S = State × ModuleState} (cpu, w)
    (bind (or_error r) (λ q. Ok (with_register cpu n q.1, record w { area_store = q.0 }))) result
    (after, record w { area_store = now })
area_register_left cpu after n w now (Ok q) (Ok b) (Ok u) gives left = rw (left, gives.0, gives.1) refl
area_register_left cpu after n w now (Err e) (Err d) (Err f) gives left = (rw (left.0, gives.0) refl, rw (left.1, gives.1) refl)
area_register_left cpu after n w now (Ok q) (Ok b) (Err f) gives left = absurd left
area_register_left cpu after n w now (Err e) (Err d) (Ok u) gives left = absurd left
area_register_left cpu after n w now (Ok q) (Err d) result gives left = absurd gives
area_register_left cpu after n w now (Err e) (Ok b) result gives left = absurd gives
