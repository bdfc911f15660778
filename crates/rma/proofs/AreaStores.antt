-- The area store after calls on the module area's heap alone.
use Rattle.std.proofs.Common.{◌≡◌, ℕ, true, false, sym, ap, subst, ◌∙◌, Ok, Err}
use Rattle.std.specs.Prelude.{Result, is_ok}
use Rattle.dynamic_areas.specs.Outcome.{Gives, bind}
use Rattle.dynamic_areas.specs.ErrorNumber.{ErrorNumber}
use Rattle.dynamic_areas.specs.Memory.{Mapping, mapping, free_pages}
use Rattle.dynamic_areas.specs.AddressMap.{AddressMap}
use Rattle.dynamic_areas.specs.Store.{Store, store_of}
use Rattle.dynamic_areas.specs.Areas.{AreaTable}
use Rattle.dynamic_areas.specs.Ground.{AreaStore, area_store_of}
use Rattle.rma.specs.Calls.{in_area, is_full, is_no_room, or_grown, rma_error, with_store}
use Rattle.rma.specs.Images.{or_kept}

pub area_store_same : (m n : AddressMap) (l : AreaTable) (s : Store) → mapping n ≡ mapping m → store_of n ≡ s → area_store_of n l ≡ with_store (area_store_of m l) s
area_store_same m n l s same e =
    let pool : free_pages n ≡ free_pages m = ap (λ (q : Mapping). q.free_pages) same in
    λ i. record { store = e i; pool = pool i; area_table = l }

pub area_done : {A : Type 0} (m n : AddressMap) (l : AreaTable) (r : Result (Store × A) ErrorNumber) (a : A) → mapping n ≡ mapping m
    → Gives (store_of m) r (Ok a) (store_of n) → Gives (area_store_of m l) (in_area (area_store_of m l) r) (Ok a) (area_store_of n l)
area_done m n l (Ok r) a same given = (area_store_same m n l r.0 same given.0, given.1)
area_done m n l (Err f) a same given = absurd given

pub area_refused : {A : Type 0} (m n : AddressMap) (l : AreaTable) (r : Result (Store × A) ErrorNumber) (f : ErrorNumber) → mapping n ≡ mapping m
    → Gives (store_of m) r (Err f) (store_of n) → Gives (area_store_of m l) (in_area (area_store_of m l) r) (Err (rma_error f)) (area_store_of n l)
area_refused m n l (Ok r) f same given = absurd given
area_refused m n l (Err g) f same given = (ap rma_error given.0, area_store_same m n l (store_of m) same given.1)

-- a call that is done again where no room was left
pub or_done : {A : Type 0} (m n : AddressMap) (l : AreaTable) (end : ℕ) (call : Store → Result (Store × A) ErrorNumber) (r : Result (Store × A) ErrorNumber) (a : A)
    → mapping n ≡ mapping m → Gives (store_of m) r (Ok a) (store_of n)
    → Gives (area_store_of m l) (or_grown (area_store_of m l) end call r) (Ok a) (area_store_of n l)
or_done m n l end call (Ok r) a same given = area_done m n l (Ok r) a same given
or_done m n l end call (Err f) a same given = absurd given

pub or_refused : {A : Type 0} (m n : AddressMap) (l : AreaTable) (end : ℕ) (call : Store → Result (Store × A) ErrorNumber) (r : Result (Store × A) ErrorNumber)
    (f : ErrorNumber) → mapping n ≡ mapping m → is_no_room f ≡ false → Gives (store_of m) r (Err f) (store_of n)
    → Gives (area_store_of m l) (or_grown (area_store_of m l) end call r) (Err (rma_error f)) (area_store_of n l)
or_refused {A = A} m n l end call (Ok r) f same other given = absurd given
or_refused {A = A} m n l end call (Err g) f same other given =
    let test : is_no_room g ≡ false = sym (ap is_no_room given.0) ∙ other in
    rw test (area_refused {A = A} m n l (Err g) f same given)

pub full_where : {A : Type 0} (s t : Store) (r : Result (Store × A) ErrorNumber) (f : ErrorNumber) → is_no_room f ≡ true → Gives s r (Err f) t
    → is_full r ≡ true
full_where s t (Ok r) f full given = absurd given
full_where s t (Err g) f full given = sym (ap is_no_room given.0) ∙ full

pub store_kept : {A : Type 0} (s t : Store) (r : Result (Store × A) ErrorNumber) (f : ErrorNumber) → Gives s r (Err f) t → t ≡ s
store_kept s t (Ok r) f given = absurd given
store_kept s t (Err g) f given = given.1

-- a call that can't be refused
pub is_done : {A : Type 0} (s t : Store) (r : Result (Store × A) ErrorNumber) (f : ErrorNumber) → is_ok r ≡ true → Gives s r (Err f) t → ⊥
is_done s t (Ok r) f ok given = given
is_done s t (Err g) f ok given = let no : false ≡ true = ok in cc

pub not_full : {A : Type 0} (r : Result (Store × A) ErrorNumber) → is_ok r ≡ true → is_full r ≡ true → ⊥
not_full (Ok r) ok full = let no : false ≡ true = full in cc
not_full (Err g) ok full = let no : false ≡ true = ok in cc

-- What is done doesn't say what was before; what is refused leaves that.
pub done_from : {A : Type 0} (e g h : AreaStore) (r : Result (AreaStore × A) ErrorNumber) (a : A) → Gives e r (Ok a) h → Gives g r (Ok a) h
done_from e g h (Ok x) a given = given
done_from e g h (Err f) a given = absurd given

pub given_from : {A : Type 0} (e g h : AreaStore) (r : Result (AreaStore × A) ErrorNumber) (answer : Result A ErrorNumber) → e ≡ g → Gives e r answer h
    → Gives g r answer h
given_from e g h r answer same given = subst (λ (x : AreaStore). Gives x r answer h) same given

pub kept_by : (s t : Store) (r : Result (Store × Unit {0}) ErrorNumber) (answer : Result (Unit {0}) ErrorNumber) → Gives s r answer t → t ≡ or_kept s r
kept_by s t (Ok r) (Ok u) given = given.0
kept_by s t (Ok r) (Err e) given = absurd given
kept_by s t (Err f) (Ok u) given = absurd given
kept_by s t (Err f) (Err e) given = given.1

-- a claim, and what is done in the block that it made
pub made_given : (e : AreaStore) (n p : AddressMap) (k : AreaTable) (make : Store → ℕ → Store) (r : Result (AreaStore × ℕ) ErrorNumber) (block : ℕ)
    → mapping p ≡ mapping n → store_of p ≡ make (store_of n) block → Gives e r (let done : Result ℕ ErrorNumber = Ok block in done) (area_store_of n k)
    → Gives e (bind r (λ c. Ok (with_store c.0 (make c.0.store c.1), c.1))) (let done : Result ℕ ErrorNumber = Ok block in done) (area_store_of p k)
made_given e n p k make (Ok c) block same store given = (
  area_store_same n p k (make (store_of n) block) same store
      ∙ ap (λ (x : AreaStore). with_store x (make x.store block)) given.0
      ∙ ap (λ (b : ℕ). with_store c.0 (make c.0.store b)) given.1,
  given.1,
)
made_given e n p k make (Err f) block same store given = absurd given
