-- How the words that bytes lie in are stored, one after another.
use Rattle.std.proofs.Common.{◌≡◌, ◌<◌, ◌≤◌, ◌+◌, ◌-◌, ◌%◌, ◌^◌, ℕ, Bool, false, ◌&&◌, ◌==◌, List, [], ◌∷◌, length, refl, ap, sym, subst, ◌∙◌, arith}
use Rattle.std.specs.Prelude.{Option, Some, None, Result, Ok, Err, nat_lt, if◌then◌else◌}
use Rattle.std.proofs.lemmas.Bool.Decides.{nat_tests}
use Rattle.profile.specs.Outcome.{Leaves}
use Rattle.profile.specs.Fault.{Fault}
use Rattle.address_map.specs.Bytes.{Bytes, ok_unless_fault, store_fault, with_bytes_at, with_word_at, word_start, word_stored}
use Rattle.command_shell.specs.Memory.{script_after_poke}
use Rattle.command_shell.specs.State.{ScriptState}
use Rattle.command_shell.specs.Store.{Store, owned_in}
use Rattle.command_shell.specs.MachineState.{with_memory}
use Rattle.command_shell.specs.Writes.{machine_after_poke}
use Rattle.debug_tables.specs.byte_writes.Put.{IsWordOf, first_fault, put_fault, script_after_put, script_with_bytes, words_fault}
use Rattle.debug_tables.proofs.ByteWritesLemmas.WordLemmas.{fault_next}

-- the byte at each address where those below an address are written already
abbrev pub put_below : ℕ → (ℕ → ℕ) → (ℕ → ℕ) → ℕ → ℕ
put_below end f g a = if nat_lt a end then f a else g a

none_put : (g : ℕ → ℕ) (at end : ℕ) (bytes : List ℕ) → end ≤ at → (a : ℕ) → put_below end (with_bytes_at g at bytes) g a ≡ g a
none_put g at end bytes low a = grind (arith, nat_tests)

pub before_puts : (g : ℕ → ℕ) (at end : ℕ) (bytes : List ℕ) → end ≤ at → put_below end (with_bytes_at g at bytes) g ≡ g
before_puts g at end bytes low = λ i a. none_put g at end bytes low a i

all_put : (g : ℕ → ℕ) (at end : ℕ) (bytes : List ℕ) → at + length bytes ≤ end → (a : ℕ)
    → put_below end (with_bytes_at g at bytes) g a ≡ with_bytes_at g at bytes a
all_put g at end bytes past a = grind (arith, nat_tests)

pub after_puts : (g : ℕ → ℕ) (at end : ℕ) (bytes : List ℕ) → at + length bytes ≤ end
    → put_below end (with_bytes_at g at bytes) g ≡ with_bytes_at g at bytes
after_puts g at end bytes past = λ i a. all_put g at end bytes past a i

mixed_alike : (g : ℕ → ℕ) (at end : ℕ) (bytes : List ℕ) (a : ℕ)
    → with_bytes_at (put_below end (with_bytes_at g at bytes) g) at bytes a ≡ with_bytes_at g at bytes a
mixed_alike g at end bytes a = grind (arith, nat_tests)

pub same_mixed : (g : ℕ → ℕ) (at end : ℕ) (bytes : List ℕ)
    → with_bytes_at (put_below end (with_bytes_at g at bytes) g) at bytes ≡ with_bytes_at g at bytes
same_mixed g at end bytes = λ i a. mixed_alike g at end bytes a i

word_put : (f g : ℕ → ℕ) (at word : ℕ) → IsWordOf f at word → (a : ℕ)
    → with_word_at (put_below at f g) at word a ≡ put_below (at + 4) f g a
word_put f g at word own a =
    let first = own.first in let second = own.second in let third = own.third in let fourth = own.fourth in
    grind (arith, nat_tests)

pub one_put : (f g : ℕ → ℕ) (at word : ℕ) → IsWordOf f at word → with_word_at (put_below at f g) at word ≡ put_below (at + 4) f g
one_put f g at word own = λ i a. word_put f g at word own a i

-- the state with other bytes in memory, fresh or not
abbrev pub script_over : ScriptState → (ℕ → ℕ) → Bool → ScriptState
script_over s bytes is_fresh = record s {
  machine = record s.machine {
    store = with_memory s.machine.store (record { mapped = s.machine.store.bytes.mapped; at = bytes });
  };
  is_fresh = is_fresh;
}

-- the state where bytes below an address are written already, of words from the first on
abbrev pub script_put_below : ScriptState → ℕ → List ℕ → ℕ → ScriptState
script_put_below s at bytes end =
    script_over s (put_below end (with_bytes_at s.machine.store.bytes.at at bytes) s.machine.store.bytes.at)
    (s.is_fresh && (end == word_start at))

fresh_still : (b : Bool) (x : ℕ) → b && (x == x) ≡ b
fresh_still b x = grind (arith, nat_tests)

fresh_no_more : (b : Bool) (x y : ℕ) → y < x → b && (x == y) ≡ false
fresh_no_more b x y more = grind (arith, nat_tests)

pub puts_begin : (s : ScriptState) (at : ℕ) (bytes : List ℕ) → s ≡ script_put_below s at bytes (word_start at)
puts_begin s at bytes =
    sym (ap (λ (g : ℕ → ℕ). script_over s g (s.is_fresh && (word_start at == word_start at)))
    (before_puts s.machine.store.bytes.at at (word_start at) bytes (omega arith))
    ∙ ap (λ (b : Bool). script_over s s.machine.store.bytes.at b) (fresh_still s.is_fresh (word_start at)))

pub puts_end : (s : ScriptState) (at end : ℕ) (bytes : List ℕ) → 0 < length bytes → at + length bytes ≤ end
    → script_put_below s at bytes end ≡ script_with_bytes s at bytes
puts_end s at end bytes some past =
    ap (λ (g : ℕ → ℕ). script_over s g (s.is_fresh && (end == word_start at)))
    (after_puts s.machine.store.bytes.at at end bytes past)
    ∙ ap (λ (b : Bool). script_over s (with_bytes_at s.machine.store.bytes.at at bytes) b)
    (fresh_no_more s.is_fresh end (word_start at) (omega arith))

-- a store of a word leaves which words are owned as they were
same_owned : (s : Store) (b : Bytes) → owned_in (with_memory s b) ≡ owned_in s
unfolding owned_in
same_owned s b = refl

own_word : (address : ℕ) → address % 4 ≡ 0 → word_start address ≡ address
own_word address aligned = omega arith

poked : (s : ScriptState) (address word : ℕ) → address % 4 ≡ 0
    → store_fault (owned_in s.machine.store) s.machine.store.bytes address ≡ None
    → script_after_poke s address word ≡ Ok (script_over s (with_word_at s.machine.store.bytes.at address word) false)
unfolding machine_after_poke word_stored
poked s address word aligned free =
    rw (own_word address aligned, free) refl

leaves_ok : {S U E : Type 0} (old done now : S) (r : Result U E) → Leaves old (Ok done) r now → now ≡ done
leaves_ok old done now (Ok u) left = left
leaves_ok old done now (Err e) left = absurd left

-- one more word
pub puts_more : {U : Type 0} (s now after : ScriptState) (at address word : ℕ) (bytes : List ℕ) (r : Result U Fault)
    → address % 4 ≡ 0 → word_start at ≤ address
    → store_fault (owned_in s.machine.store) s.machine.store.bytes address ≡ None
    → now ≡ script_put_below s at bytes address
    → IsWordOf (with_bytes_at now.machine.store.bytes.at at bytes) address word
    → Leaves now (script_after_poke now address word) r after
    → after ≡ script_put_below s at bytes (address + 4)
puts_more s now after at address word bytes r aligned high free is own left =
    let g : ℕ → ℕ = s.machine.store.bytes.at in
    let below : ScriptState = script_put_below s at bytes address in
    let own_there : IsWordOf (with_bytes_at g at bytes) address word =
    subst (λ (f : ℕ → ℕ). IsWordOf f address word) (same_mixed g at address bytes)
    (subst (λ (t : ScriptState). IsWordOf (with_bytes_at t.machine.store.bytes.at at bytes) address word) is own) in
    let owned = same_owned s.machine.store below.machine.store.bytes in
    let free_there : store_fault (owned_in below.machine.store) below.machine.store.bytes address ≡ None =
    subst (λ (o : ℕ → Bool). store_fault o s.machine.store.bytes address ≡ None) (sym owned) free in
    let there : Leaves below (script_after_poke below address word) r after =
    subst (λ (t : ScriptState). Leaves t (script_after_poke t address word) r after) is left in
    let done : ScriptState = script_over below (with_word_at below.machine.store.bytes.at address word) false in
    let stored : after ≡ done =
    leaves_ok below done after r
    (subst (λ (o : Result ScriptState Fault). Leaves below o r after) (poked below address word aligned free_there) there) in
    stored
    ∙ ap (λ (f : ℕ → ℕ). script_over s f false) (one_put (with_bytes_at g at bytes) g address word own_there)
    ∙ ap (λ (b : Bool). script_over s (put_below (address + 4) (with_bytes_at g at bytes) g) b)
    (sym (fresh_no_more s.is_fresh (address + 4) (word_start at) (omega arith)))

first_none : (o p : Option Fault) → first_fault o p ≡ None → (o ≡ None) × (p ≡ None)
first_none (Some f) p none = absurd (cc)
first_none None p none = (refl, none)

-- where none of the words refuses, neither do the first and the others
pub free_next : (owned : ℕ → Bool) (b : Bytes) (a left : ℕ) → 0 < left → words_fault owned b a left ≡ None
    → (store_fault owned b a ≡ None) × (words_fault owned b (a + 4) (left - 1) ≡ None)
free_next owned b a left some free =
    first_none (store_fault owned b a) (words_fault owned b (a + 4) (left - 1)) (sym (fault_next owned b a left some) ∙ free)

pub free_inside : (owned : ℕ → Bool) (b : Bytes) (a : ℕ) → store_fault owned b a ≡ None → a < 2 ^ 26
free_inside owned b a free = grind (arith, nat_tests)

-- a write that was let through
pub put_done : {U : Type 0} (s now : ScriptState) (at : ℕ) (bytes : List ℕ) (u : U) → 0 < length bytes
    → put_fault s.machine.store at (length bytes) ≡ None → now ≡ script_with_bytes s at bytes
    → Leaves s (script_after_put s at bytes) (Ok u) now
put_done s now at [] u some free is = absurd (omega arith)
put_done {U} s now at (byte ∷ bytes) u some free is =
    subst (λ (o : Option Fault). Leaves {S = ScriptState} {U = U} {E = Fault} s (ok_unless_fault o (script_with_bytes s at (byte ∷ bytes))) (Ok u) now)
    (sym free) is
