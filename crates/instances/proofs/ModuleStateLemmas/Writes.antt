-- What writes to the system pages leave of the module state.
use Rattle.instances_table.specs.MemoryMap.{environment_text_start, system_start}
use Rattle.std.proofs.Common.{◌≡◌, ℕ, ◌+◌, ◌%◌, ◌≤◌, ◌<◌, Ok, true, false, List, [], ◌∷◌, ◌++◌, length, is_some, refl, subst, sym, ap, ◌∙◌, arith, length-append}
use Rattle.std.proofs.lemmas.Bool.Decides.{nat_tests}
use Rattle.rma.specs.AddressMap.{AddressMap}
use Rattle.rma.specs.Bytes.{Bytes, AreMapped, in_range, with_bytes_at, with_word_at, word_at, word_loaded}
use Rattle.rma.specs.Memory.{Layout, byte_at, bytes_of, class_of, free_pages, is_mapped, layout}
use Rattle.rma.proofs.Equations.{same_bytes}
use Rattle.rma.proofs.InRange.{range_inside}
use Rattle.rma.proofs.AddressMapStores.{two_writes}
use Rattle.rma.specs.Store.{Store, store_of}
use Rattle.rma.proofs.Frame.{IsKept}
use Rattle.rma.proofs.Writing.{word_mapped}
use Rattle.rma.specs.Areas.{AreaTable}
use Rattle.rma.specs.Ground.{IsAreaStore, IsRecorded, area_store_of, system_pages_range}
use Rattle.rma.proofs.HeapCalls.{areas_written, system_mapped}
use Rattle.rma.proofs.SystemWrites.{system_kept}
use Rattle.rma.specs.flex_frame.Keeping.{KeepsFlex}
use Rattle.rma.proofs.FlexFrameLemmas.Writes.{system_keeps}
use Rattle.instances_table.specs.plans.Code.{private_of}
use Rattle.instances_table.specs.declared.parts.Image.{Image}
use Rattle.instances_table.specs.Modules.{Module}
use Rattle.instances.specs.module_state.Sound.{HasSystemPages, IsModuleState}
use Rattle.instances.specs.module_state.ModuleState.{private_word, area_store_with_bytes, with_private, with_text, module_state_of}
use Rattle.instances.proofs.ModuleStateLemmas.ModuleStates.{module_state_kept}

mapped_in : (m : AddressMap) (l : AreaTable) → IsAreaStore (area_store_of m l) → AreMapped (is_mapped m) system_start 0x3000
unfolding store_of
mapped_in m l area_store a low high = system_mapped (store_of m) (free_pages m) l area_store a (range_inside system_start 0x3000 a low high)

pub has_system : (m : AddressMap) (l : AreaTable) (modules : List Module) (pending : List Image) → IsModuleState (module_state_of m l modules) pending → HasSystemPages m
has_system m l modules pending module_state = record {
  sound = module_state.area_store.ground.sound;
  recorded = module_state.system;
  mapped = mapped_in m l module_state.area_store;
}

-- the area store, and the module state, after a write that left every heap's list
pub area_store_written : (m n : AddressMap) (l : AreaTable) (bytes : ℕ → ℕ) → IsKept m n → layout n ≡ layout m → ((a : ℕ) → byte_at n a ≡ bytes a)
    → area_store_of n l ≡ area_store_with_bytes (area_store_of m l) bytes
unfolding store_of
area_store_written m n l bytes kept same written =
    let store = kept.store ∙ ap (λ (b : Bytes). let t : Store = record (store_of m) { bytes = b } in t) (same_bytes m n bytes same written) in
    let pool : free_pages n ≡ free_pages m = ap (λ (q : Layout). q.free_pages) same in
    λ i. record { store = store i; pool = pool i; area_table = l }

pub module_state_written : (m n : AddressMap) (l : AreaTable) (modules : List Module) (pending : List Image) → IsKept m n → layout n ≡ layout m
    → IsModuleState (module_state_of m l modules) pending → IsModuleState (module_state_of n l modules) pending
module_state_written m n l modules pending kept same module_state =
    module_state_kept (module_state_of m l modules) (module_state_of n l modules) pending module_state refl (ap (λ (s : Store). s.others) kept.store)
    (areas_written m n l module_state.area_store kept.sound same)

pub pages_kept : (m n : AddressMap) → IsKept m n → layout n ≡ layout m → HasSystemPages m → HasSystemPages n
pages_kept m n kept same pages = record {
  sound = kept.sound;
  recorded = subst (IsRecorded system_pages_range) (sym (ap (λ (s : Store). s.others) kept.store)) pages.recorded;
  mapped = λ a low high. ap (λ (q : Layout). is_some (q.place a)) same ∙ pages.mapped a low high;
}

-- A write to the system pages keeps the flex store.
pages_keep : (m n : AddressMap) → IsKept m n → HasSystemPages m → ((a : ℕ) → in_range system_start 0x3000 a ≡ false → byte_at n a ≡ byte_at m a)
    → KeepsFlex (store_of m) (store_of n)
unfolding store_of
pages_keep m n kept system outside =
    subst (KeepsFlex (store_of m)) (sym kept.store) (system_keeps (store_of m) (bytes_of n) system.sound system.recorded outside)

-- a private word
pub private_loaded : (m : AddressMap) (slot at : ℕ) → at ≡ private_of slot → slot < 64 → AreMapped (is_mapped m) 0x01C02000 256
    → word_loaded (bytes_of m) at ≡ Ok (word_at (byte_at m) (private_of slot))
private_loaded m slot at is below there =
    let aligned : at % 4 ≡ 0 = omega (arith, is) in
    let mapped : is_mapped m at ≡ true = there at (omega (arith, is)) (omega (arith, is, below)) in
    word_mapped m at aligned mapped ∙ ap (λ (p : ℕ). Ok (word_at (byte_at m) p)) is

pub private_is : (m : AddressMap) (l : AreaTable) (slot : ℕ) → word_at (byte_at m) (private_of slot) ≡ private_word (area_store_of m l) slot
unfolding store_of
private_is m l slot = refl

module _ (m n : AddressMap) (slot at value : ℕ) (is : at ≡ private_of slot) (same : layout n ≡ layout m)
    (put : (a : ℕ) → byte_at n a ≡ with_word_at (byte_at m) at value a) where
  word_put : (a : ℕ) → byte_at n a ≡ with_word_at (byte_at m) (private_of slot) value a
  word_put a = put a ∙ ap (λ (p : ℕ). with_word_at (byte_at m) p value a) is

  word_outside : slot < 64 → (a : ℕ) → in_range system_start 0x3000 a ≡ false → byte_at n a ≡ byte_at m a
  word_outside below a out = word_put a ∙ outside (byte_at m) a out where
    outside : (old : ℕ → ℕ) (a : ℕ) → in_range system_start 0x3000 a ≡ false → with_word_at old (private_of slot) value a ≡ old a
    outside old a out = grind (arith, nat_tests, below)

  pub private_kept : HasSystemPages m → slot < 64 → class_of n ≡ class_of m → IsKept m n
  private_kept system below marks = system_kept m n same marks system.sound system.recorded (word_outside below)

  pub private_keeps : HasSystemPages m → slot < 64 → class_of n ≡ class_of m → KeepsFlex (store_of m) (store_of n)
  private_keeps system below marks = pages_keep m n (private_kept system below marks) system (word_outside below)

  pub private_written : IsKept m n → (l : AreaTable) → area_store_of n l ≡ with_private (area_store_of m l) slot value
  unfolding store_of
  private_written kept l = area_store_written m n l (with_word_at (byte_at m) (private_of slot) value) kept same word_put

-- the environment text, and the zero after it
module _ (m k n : AddressMap) (text : List ℕ) (first : layout k ≡ layout m) (second : layout n ≡ layout k)
    (put : (a : ℕ) → byte_at k a ≡ with_bytes_at (byte_at m) environment_text_start text a)
    (end : (a : ℕ) → byte_at n a ≡ with_bytes_at (byte_at k) (environment_text_start + length text) (0 ∷ []) a) where
  text_put : (a : ℕ) → byte_at n a ≡ with_bytes_at (byte_at m) environment_text_start (text ++ 0 ∷ []) a
  text_put a =
      let bytes : byte_at k ≡ with_bytes_at (byte_at m) environment_text_start text = λ i b. put b i in
      end a ∙ ap (λ (f : ℕ → ℕ). with_bytes_at f (environment_text_start + length text) (0 ∷ []) a) bytes ∙ two_writes (byte_at m) environment_text_start text 0 a

  text_outside : length text ≤ 255 → (a : ℕ) → in_range system_start 0x3000 a ≡ false → byte_at n a ≡ byte_at m a
  text_outside short a out = text_put a ∙ outside (byte_at m) (text ++ 0 ∷ []) a whole out where
    whole : length (text ++ 0 ∷ []) ≤ 256
    whole = omega (arith, length-append {A = ℕ}, short)

    outside : (old : ℕ → ℕ) (bytes : List ℕ) (a : ℕ) → length bytes ≤ 256 → in_range system_start 0x3000 a ≡ false → with_bytes_at old environment_text_start bytes a ≡ old a
    outside old bytes a few out = grind (arith, nat_tests)

  pub text_kept : HasSystemPages m → length text ≤ 255 → class_of n ≡ class_of m → IsKept m n
  text_kept system short marks = system_kept m n (second ∙ first) marks system.sound system.recorded (text_outside short)

  pub text_keeps : HasSystemPages m → length text ≤ 255 → class_of n ≡ class_of m → KeepsFlex (store_of m) (store_of n)
  text_keeps system short marks = pages_keep m n (text_kept system short marks) system (text_outside short)

  pub text_written : IsKept m n → (l : AreaTable) → area_store_of n l ≡ with_text (area_store_of m l) text
  unfolding store_of
  text_written kept l = area_store_written m n l (with_bytes_at (byte_at m) environment_text_start (text ++ 0 ∷ [])) kept (second ∙ first) text_put
