-- What a user does from outside: modules that are loaded, and words that are stored.
use Rattle.std.proofs.Common.{ℕ, ◌≡◌, ◌∙◌, ◌^◌, ◌||◌, ◌⊎◌, Bool, true, false, List, Option, Some, None, Result, Ok, Err, sym, ap, subst, inl, inr, arith}
use Rattle.std.specs.List.{list_any}
use Rattle.std.specs.Prelude.{nat_le, ok_or}
use Rattle.std.proofs.lemmas.Bool.{cases_Bool}
use Rattle.std.proofs.lemmas.Bool.Decides.{nat_tests}
use Rattle.profile.specs.Outcome.{bind}
use Rattle.profile.specs.ErrorNumber.TheVariants.{BadString}
use Rattle.profile.specs.Fault.{Fault}
use Rattle.address_map.specs.Items.{is_heap_word}
use Rattle.address_map.specs.Bytes.{Bytes, in_range, word_start, word_stored}
use Rattle.os_heap.specs.Store.{Store, is_flex_word, owned_in}
use Rattle.swi_dispatch_guest.specs.SwiDispatchAnswersWords.{host_string}
use Rattle.swi_dispatch_guest.specs.declared.halt.Halt.{Halt}
use Rattle.swi_dispatch_guest.specs.Additions.{load_planned}
use Rattle.swi_dispatch_guest.specs.MachineState.{MachineState, StepOutcome, with_memory}
use Rattle.swi_dispatch_guest.specs.Step.{outcome_of_planned, module_loaded, unless_halted}
use Rattle.swi_dispatch_guest.specs.GuestState.{IsState}
use Rattle.swi_dispatch_guest.specs.Writes.{machine_after_poke}
use Rattle.profile.specs.images.Entries.{Entry}
use Rattle.law_machine.proofs.HeapAloneLemmas.ModuleCalls.{loaded_keeps}
use Rattle.law_machine.proofs.HeapAloneLemmas.Storing.{word_past}
use Rattle.law_machine.proofs.LiveBytesLemmas.Heaps.{KeepsBlocks, all_kept, has_heaps, held_all}
use Rattle.law_machine.proofs.LiveBytesLemmas.ModuleRows.{loaded_both}
use Rattle.law_machine.proofs.LiveBytesLemmas.Rows.{all_same}
use Rattle.law_machine.specs.live_bytes.Changes.{LoadsKeepLiveBytes, PokesChangeOneWord}
use Rattle.swi_dispatch_guest.proofs.SwiDispatchPlansKept.{whole_word}

unhalted : (s : MachineState) (o : Option Halt) (a : StepOutcome) → KeepsBlocks s.store a.now.store → KeepsBlocks s.store (unless_halted s o a).now.store
unhalted s None a kept = kept
unhalted s (Some why) a kept = all_same s.store

loaded_keep : (images : List Entry) (s : MachineState) (text : List ℕ) → IsState s → KeepsBlocks s.store (module_loaded images s text).now.store
unfolding module_loaded
loaded_keep images s text state =
    let o : StepOutcome = outcome_of_planned s true s.cpu.pc false (bind (ok_or (host_string text) BadString) (λ words. load_planned images s words false)) in
    unhalted s s.halt o
    (all_kept s o.now.store (has_heaps s state) (λ h host still. loaded_keeps s h host images true s.cpu.pc text (λ lies. still))
    (loaded_both s (has_heaps s state).modules images true s.cpu.pc text))

pub loads_keep : LoadsKeepLiveBytes
loads_keep images s text state start a held =
    held_all s.store (module_loaded images s text).now.store start a (loaded_keep images s text state) held

-- a store
abbrev OneWord : (ℕ → Bool) → Bytes → ℕ → ℕ → Result Bytes Fault → Type 0
OneWord owned b at a (Ok c) = (c.at a ≡ b.at a) ⊎ ((in_range (word_start at) 4 a ≡ true) × (owned (word_start at) ≡ false))
OneWord owned b at a (Err f) = Unit {0}

stored : (owned : ℕ → Bool) (b : Bytes) (at word a : ℕ) → OneWord owned b at a (word_stored owned b at word)
unfolding word_stored
stored owned b at word a = elim (cases_Bool (nat_le (2 ^ 26) (word_start at))) [
  | inl high ↦ rw high tt
  | inr low ↦ elim (cases_Bool (b.mapped (word_start at))) [
    | inr none ↦ rw (low, none) tt
    | inl there ↦ elim (cases_Bool (owned (word_start at))) [
      | inl taken ↦ rw (low, there, taken) tt
      | inr plain ↦ elim (cases_Bool (in_range (word_start at) 4 a)) [
        | inl here ↦ rw (low, there, plain) (inr (here, plain))
        | inr out ↦ rw (low, there, plain) (inl (word_past b.at (word_start at) word a out))
      ]
    ]
  ]
]

word_of : (at a : ℕ) → in_range (word_start at) 4 a ≡ true → word_start a ≡ word_start at
word_of at a here = grind (arith, nat_tests)

-- a poke is a store
PokedIs : MachineState → MachineState → Result Bytes Fault → Type 0
PokedIs s t r = bind r (λ b. let q : Result MachineState Fault = Ok (record s { store = with_memory s.store b }) in q) ≡ Ok t

poked_byte : (s t : MachineState) (at a : ℕ) (r : Result Bytes Fault) → OneWord (owned_in s.store) s.store.bytes at a r → PokedIs s t r
    → (t.store.bytes.at a ≡ s.store.bytes.at a) ⊎ ((in_range (word_start at) 4 a ≡ true) × (owned_in s.store (word_start at) ≡ false))
unfolding PokedIs
poked_byte s t at a (Ok b) one is =
    let same : record s { store = with_memory s.store b } ≡ t = cc in
    subst (λ (u : MachineState). (u.store.bytes.at a ≡ s.store.bytes.at a) ⊎ ((in_range (word_start at) 4 a ≡ true) × (owned_in s.store (word_start at) ≡ false)))
    same one
poked_byte s t at a (Err f) one is = absurd (cc)

own_word : (s : Store) (a at : ℕ) → word_start a ≡ word_start at → owned_in s a ≡ owned_in s (word_start at)
unfolding owned_in
own_word s a at same =
    ap (λ (w : ℕ). list_any (λ h. is_heap_word h.start h.items w) s.heaps || is_flex_word s w) (same ∙ sym (whole_word at))

its_word : (s : Store) (at a : ℕ) (A : Type 0) → A ⊎ ((in_range (word_start at) 4 a ≡ true) × (owned_in s (word_start at) ≡ false))
    → A ⊎ ((in_range (word_start at) 4 a ≡ true) × (owned_in s a ≡ false))
its_word s at a A (inl same) = inl same
its_word s at a A (inr stored) =
    inr (stored.0, own_word s a at (word_of at a stored.0) ∙ stored.1)

pub pokes_change : PokesChangeOneWord
unfolding machine_after_poke PokedIs
pokes_change s t at word a is =
    its_word s.store at a (t.store.bytes.at a ≡ s.store.bytes.at a)
    (poked_byte s t at a (word_stored (owned_in s.store) s.store.bytes at word) (stored (owned_in s.store) s.store.bytes at word a) is)
