-- The class of an address: that of its word, plain where nothing is mapped.
use Rattle.std.proofs.Common.{◌≡◌, ◌≢◌, ℕ, ◌+◌, ◌-◌, ◌/◌, ◌%◌, ◌^◌, ◌<◌, ◌≤◌, Bool, true, false, not, Option, Some, None, is_some, cond, nat_le, arith, refl, sym, ap, ◌∙◌, inl, inr}
use Rattle.std.proofs.lemmas.Bool.{false≢true, cases_lt}
use Rattle.raw_store.specs.declared.fault.Fault.TheVariants.{AddressException, DataUnmapped, OwnedWord}
use Rattle.address_map.specs.declared.class.Class.TheVariants.{Plain, Anchor}
use Rattle.address_map.specs.declared.map.AddressMap.{AddressMap}
use Rattle.address_map.specs.Bytes.{word_start, load_fault, store_fault}
use Rattle.address_map.specs.Marks.{class_at, mark_in}
use Rattle.address_map.specs.Memory.{place, is_mapped, bytes_of, class_of, is_owned, is_plain}
use Rattle.address_map.proofs.Bytes.{is_mapped-page}
use Rattle.address_map.proofs.Loads.{place_past}
use Rattle.address_map.proofs.Marking.{place_word}

pub is_owned-same : (m n : AddressMap) → class_of n ≡ class_of m → is_owned n ≡ is_owned m
unfolding is_owned
is_owned-same m n same = λ i a. not (is_plain (same i a))

-- an address with a place has the class of the word there, and one without is plain
pub class_found : (m : AddressMap) (a k : ℕ) → place m a ≡ Some k → class_of m a ≡ class_at m.marks (k / 4)
unfolding class_of
class_found m a k h = ap (mark_in m.marks) h

pub class_none : (m : AddressMap) (a : ℕ) → place m a ≡ None → class_of m a ≡ Plain
unfolding class_of
class_none m a h = ap (mark_in m.marks) h

pub class_past : (m : AddressMap) (a : ℕ) → 2 ^ 26 ≤ a → class_of m a ≡ Plain
class_past m a past = class_none m a (place_past m a past)

pub none_there : (there : Option ℕ) → is_some there ≡ false → there ≡ None
none_there None e = refl
none_there (Some k) e = absurd (false≢true (sym e))

class_start : (m : AddressMap) (a : ℕ) → class_of m a ≡ class_of m (word_start a)
class_start m a = found (place m a) refl where
  found : (there : Option ℕ) → place m a ≡ there → class_of m a ≡ class_of m (word_start a)
  found None none =
      let start : place m (word_start a) ≡ None = none_there (place m (word_start a)) (is_mapped-page m (word_start a) a (omega arith) ∙ ap is_some none) in
      class_none m a none ∙ sym (class_none m (word_start a) start)
  found (Some k) some =
      let e : k / 4 ≡ (k - k % 4) / 4 = omega arith in
      class_found m a k some ∙ (ap (class_at m.marks) e ∙ sym (class_found m (word_start a) (k - k % 4) (place_word m a k some)))

-- the bytes of a word have one class
pub class_of-word : (m : AddressMap) (a b : ℕ) → word_start a ≡ word_start b → class_of m a ≡ class_of m b
class_of-word m a b same = class_start m a ∙ (ap (class_of m) same ∙ sym (class_start m b))

-- a word more without an anchor
pub none_more : (m : AddressMap) (at addr : ℕ) → ((a : ℕ) → at ≤ a → a < addr → class_of m a ≢ Anchor) → class_of m addr ≢ Anchor
    → (a : ℕ) → at ≤ a → a < addr - addr % 4 + 4 → class_of m a ≢ Anchor
none_more m at addr clear here a low high =
    elim (cases_lt a addr) [
      | inl before ↦ clear a low before
      | inr later ↦ λ is. here (class_of-word m addr a (omega arith) ∙ is)
    ]

turned : (plain : Bool) → cond (not plain) (Some OwnedWord) None ≡ cond plain None (Some OwnedWord)
turned true = refl
turned false = refl

-- What a store to an address meets that a guest can read: it is refused where the word is owned.
pub store_by_class : (m : AddressMap) (a k : ℕ) → load_fault (bytes_of m) a ≡ None → place m a ≡ Some k
    → store_fault (is_owned m) (bytes_of m) a ≡ cond (is_plain (class_at m.marks (k / 4))) None (Some OwnedWord)
unfolding is_owned
store_by_class m a k clear h = by_limit (nat_le (2 ^ 26) a) (is_mapped m a) clear where
  by_limit : (past mapped : Bool) → cond past (Some AddressException) (cond mapped None (Some DataUnmapped)) ≡ None
      → cond past (Some AddressException) (cond mapped (cond (not (is_plain (class_of m a))) (Some OwnedWord) None) (Some DataUnmapped))
      ≡ cond (is_plain (class_at m.marks (k / 4))) None (Some OwnedWord)
  by_limit true mapped e = cc
  by_limit false false e = cc
  by_limit false true e = rw (class_found m a k h) (turned (is_plain (class_at m.marks (k / 4))))

-- what a byte's store was not refused for
pub unowned : (far mapped owned : Bool) → cond far (Some AddressException) (cond mapped (cond owned (Some OwnedWord) None) (Some DataUnmapped)) ≡ None → owned ≡ false
unowned true mapped owned h = cc
unowned false false owned h = cc
unowned false true true h = cc
unowned false true false h = refl
