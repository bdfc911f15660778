-- How words that are looked at go on and end.
use Rattle.std.proofs.Common.{◌≡◌, ◌<◌, ◌+◌, ◌-◌, ◌^◌, ℕ, suc, Bool, false, inl, inr, refl, ap, ◌∙◌, arith}
use Rattle.std.specs.Prelude.{None, Ok, Err, nat_le}
use Rattle.std.proofs.lemmas.Bool.{cases_Bool}
use Rattle.std.proofs.lemmas.Bool.Decides.{nat_tests}
use Rattle.profile.specs.Fault.{Fault}
use Rattle.address_map.specs.Bytes.{Bytes, byte_loaded, store_fault}
use Rattle.debug_tables.specs.byte_writes.Put.{first_fault, words_fault}

fault_suc : (owned : ℕ → Bool) (b : Bytes) (a left : ℕ)
    → words_fault owned b a (suc left) ≡ first_fault (store_fault owned b a) (words_fault owned b (a + 4) left)
unfolding words_fault
fault_suc owned b a left = refl

pub fault_next : (owned : ℕ → Bool) (b : Bytes) (a left : ℕ) → 0 < left
    → words_fault owned b a left ≡ first_fault (store_fault owned b a) (words_fault owned b (a + 4) (left - 1))
fault_next owned b a left some =
    let split : left ≡ suc (left - 1) = omega arith in
    ap (words_fault owned b a) split ∙ fault_suc owned b a (left - 1)

pub no_words : (owned : ℕ → Bool) (b : Bytes) (a left : ℕ) → left ≡ 0 → words_fault owned b a left ≡ None
unfolding words_fault
no_words owned b a left e = rw e refl

pub ruleset fault_steps = (fault_next, no_words)

-- a byte that isn't loaded isn't mapped
pub not_loaded : (b : Bytes) (a : ℕ) (f : Fault) → a < 2 ^ 26 → byte_loaded b a ≡ Err f → b.mapped a ≡ false
unfolding byte_loaded
not_loaded b a f inside missing =
    let low : nat_le (2 ^ 26) a ≡ false = grind (arith, nat_tests) in
    elim (cases_Bool (b.mapped a)) [
      | inl mapped ↦ (let e : Ok (b.at a) ≡ Err f = rw (low, mapped) at missing in absurd (cc))
      | inr unmapped ↦ unmapped
    ]
