-- How the addresses at which bytes stand go on.
use Rattle.std.proofs.Common.{◌≡◌, ℕ, zero, suc, ◌+◌, ◌-◌, ◌≤◌, Bool, true, false, List, [], ◌∷◌, ◌++◌, length, take, ap, sym, ◌∙◌, arith, refl}
use Rattle.std.specs.Int.{from_bool}
use Rattle.std.specs.List.{filter, flat_map}
use Rattle.std.specs.Prelude.{nat_lt, if◌then◌else◌}
use Rattle.profile.specs.Sums.{address_further}
use Rattle.address_map.specs.Bytes.{Bytes}
use Rattle.debug_tables.specs.byte_writes.Find.{addresses_from, place_text, byte_places, shown_place, stand_at}

no_addresses : (at left : ℕ) → left ≡ 0 → addresses_from at left ≡ []
unfolding addresses_from
no_addresses at left e = rw e refl

one_address : (at more : ℕ) → addresses_from at (suc more) ≡ at ∷ addresses_from (address_further at 1) more
unfolding addresses_from
one_address at more = refl

pub no_places : (b : Bytes) (at left : ℕ) (bytes : List ℕ) → left ≡ 0 → byte_places b at left bytes ≡ []
no_places b at left bytes e = ap (filter (λ a. stand_at b a bytes)) (no_addresses at left e)

-- the first address is a place, or not
abbrev first_place : Bool → ℕ → List ℕ → List ℕ
first_place true at others = at ∷ others
first_place false at others = others

by_test : (p : ℕ → Bool) (stand : Bool) (at : ℕ) (others : List ℕ) → p at ≡ stand
    → filter p (at ∷ others) ≡ first_place stand at (filter p others)
by_test p true at others is = rw is refl
by_test p false at others is = rw is refl

next_place : (b : Bytes) (at next left rest : ℕ) (bytes : List ℕ) (stand : Bool) → left ≡ suc rest → next ≡ address_further at 1
    → stand ≡ stand_at b at bytes
    → byte_places b at left bytes ≡ first_place stand at (byte_places b next rest bytes)
next_place b at next left rest bytes stand split e is =
    rw e (ap (λ (n : ℕ). byte_places b at n bytes) split
    ∙ ap (filter (λ a. stand_at b a bytes)) (one_address at rest)
    ∙ by_test (λ a. stand_at b a bytes) stand at (addresses_from (address_further at 1) rest) (sym is))

shown_first : (found at : ℕ) (others : List ℕ) (few : Bool) → nat_lt found 64 ≡ few
    → flat_map place_text (take (64 - found) (at ∷ others))
    ≡ (if few then place_text at else []) ++ flat_map place_text (take (64 - (found + 1)) others)
shown_first found at others true few =
    let room : 64 - found ≡ suc (64 - (found + 1)) = grind (arith, few) in
    ap (λ (n : ℕ). flat_map place_text (take n (at ∷ others))) room
shown_first found at others false few =
    let full : 64 - found ≡ 0 = grind (arith, few) in
    let still : 64 - (found + 1) ≡ 0 = grind (arith, few) in
    ap (λ (n : ℕ). flat_map place_text (take n (at ∷ others))) full
    ∙ sym (ap (λ (n : ℕ). flat_map place_text (take n others)) still)

shown_by : (stand : Bool) (found at : ℕ) (others : List ℕ)
    → flat_map place_text (take (64 - found) (first_place stand at others))
    ≡ shown_place stand found at ++ flat_map place_text (take (64 - (found + from_bool stand)) others)
shown_by true found at others = shown_first found at others (nat_lt found 64) refl
shown_by false found at others =
    let same : found ≡ found + 0 = omega arith in
    ap (λ (n : ℕ). flat_map place_text (take (64 - n) others)) same

pub next_shown : (b : Bytes) (at next left rest found : ℕ) (bytes : List ℕ) (stand : Bool) → left ≡ suc rest
    → next ≡ address_further at 1 → stand ≡ stand_at b at bytes
    → flat_map place_text (take (64 - found) (byte_places b at left bytes))
    ≡ shown_place stand found at
    ++ flat_map place_text (take (64 - (found + from_bool stand)) (byte_places b next rest bytes))
next_shown b at next left rest found bytes stand split e is =
    ap (λ (xs : List ℕ). flat_map place_text (take (64 - found) xs)) (next_place b at next left rest bytes stand split e is)
    ∙ shown_by stand found at (byte_places b next rest bytes)

counted_by : (stand : Bool) (at : ℕ) (others : List ℕ) → length (first_place stand at others) ≡ from_bool stand + length others
counted_by true at others = omega arith
counted_by false at others = omega arith

pub next_counted : (b : Bytes) (at next left rest : ℕ) (bytes : List ℕ) (stand : Bool) → left ≡ suc rest
    → next ≡ address_further at 1 → stand ≡ stand_at b at bytes
    → length (byte_places b at left bytes) ≡ from_bool stand + length (byte_places b next rest bytes)
next_counted b at next left rest bytes stand split e is =
    ap length (next_place b at next left rest bytes stand split e is) ∙ counted_by stand at (byte_places b next rest bytes)

pub at_most_one : (stand : Bool) → from_bool stand ≤ 1
at_most_one true = omega arith
at_most_one false = omega arith

take_none : (n : ℕ) → ◌≡◌ {A = List ℕ} (take n []) []
take_none zero = refl
take_none (suc n) = refl

-- no address is left
pub none_shown : (b : Bytes) (at left found : ℕ) (bytes : List ℕ) → left ≡ 0
    → flat_map place_text (take (64 - found) (byte_places b at left bytes)) ≡ []
none_shown b at left found bytes e =
    ap (λ (xs : List ℕ). flat_map place_text (take (64 - found) xs)) (no_places b at left bytes e)
    ∙ ap (flat_map place_text) (take_none (64 - found))
