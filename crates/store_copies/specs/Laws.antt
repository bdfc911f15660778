-- What the list of the words that differ is good for.
use Rattle.std.specs.Prelude.{◌≡◌, ◌≢◌, ◌⊎◌, ℕ, Bool, true, List, Contains}
use Rattle.address_map.specs.Bytes.{word_at, word_start}
use Rattle.swi_dispatch_guest.specs.MachineState.{MachineState}
use Rattle.swi_dispatch_guest.specs.GuestState.{IsState}
use Rattle.store_copies.specs.declared.changes.WordChange.{WordChange}
use Rattle.store_copies.specs.Words.{all_changes, is_shown_elsewhere, word_change}

-- the words that are shown of a step
abbrev pub words_listed : Bool → MachineState → MachineState → List WordChange
words_listed has_error s s' = all_changes (is_shown_elsewhere has_error) s.store.bytes s'.store.bytes

-- Complete: each byte of mapped memory that differs lies in a word that is listed, or shown elsewhere.
abbrev pub ExplainsBytes : Type 0
ExplainsBytes = (s s' : MachineState) (has_error : Bool) (a : ℕ) → IsState s → IsState s'
    → s'.store.bytes.mapped a ≡ true → s.store.bytes.at a ≢ s'.store.bytes.at a
    → Contains (words_listed has_error s s') (word_change s.store.bytes s'.store.bytes (word_start a))
    ⊎ (is_shown_elsewhere has_error (word_start a) ≡ true)

-- True: each that is listed is a mapped word with these values, which differ.
pub record IsWordChange (s s' : MachineState) (c : WordChange) : Type 0 where
  pub mapped : s'.store.bytes.mapped c.at ≡ true
  pub old : c.old ≡ word_at s.store.bytes.at c.at
  pub new : c.new ≡ word_at s'.store.bytes.at c.at
  pub differs : c.old ≢ c.new

abbrev pub ListsChanges : Type 0
ListsChanges = (s s' : MachineState) (has_error : Bool) (c : WordChange)
    → Contains (words_listed has_error s s') c → IsWordChange s s' c
