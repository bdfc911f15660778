-- Stores that differ in what stands in the system pages after the private words, and in nothing
-- else.
use Rattle.profile.specs.MemoryMap.{environment_text_start, error_block_start}
use Rattle.std.proofs.Common.{ℕ, Bool, true, false, ◌+◌, ◌≡◌, ◌≤◌, ◌∙◌, ◌||◌, List, [], ◌∷◌, ◌++◌, map, length, Some, None, refl, sym, ap, subst, inl, inr, arith, length-append}
use Rattle.std.proofs.lemmas.Bool.{both_ways, cases_Bool}
use Rattle.address_map.proofs.Stores.{in_range-cases}
use Rattle.address_map.specs.Bytes.{Bytes, in_range, with_bytes_at}
use Rattle.rma.specs.Calls.{with_store}
use Rattle.instances.specs.module_state.ModuleState.{ModuleState, private_word, with_text}
use Rattle.instances_table.specs.Changes.{is_slot_held}
use Rattle.instances_table.specs.Modules.{Module, has_instance}
use Rattle.law_machine.proofs.SlidingStoresLemmas.Besides.{behind}
use Rattle.law_machine.specs.sliding_stores.Besides.{IsSame, stores_with_bytes}
use Rattle.law_machine.specs.sliding_stores.Laws.{IsFollowed, module_without_place}
use Rattle.law_machine.specs.sliding_stores.Meaning.{AreStores, Meaning, Stores, Value, area_names, meaning_of, store_in}
use Rattle.law_machine.specs.sliding_stores.Rules.{IsTurned}
use Rattle.law_machine.specs.sliding_stores.Turning.{FlexOrSlide, answer_of_turn, anchor_place_of_turn}
use Rattle.law_machine.specs.sliding.Turns.{StoresAreStill}

-- of module states
pub record IsTexted (w v : ModuleState) : Type 0 where
  pub bytes : Bytes
  pub is : v ≡ record w { area_store = with_store w.area_store (record w.area_store.store { bytes = bytes }) }
  pub mapped : bytes.mapped ≡ w.area_store.store.bytes.mapped
  pub outside : (a : ℕ) → in_range error_block_start 0xF00 a ≡ false → bytes.at a ≡ w.area_store.store.bytes.at a

pub texted_same : (w : ModuleState) → IsTexted w w
texted_same w = record { bytes = w.area_store.store.bytes; is = refl; mapped = refl; outside = λ a out. refl }

pub texted_then : (w v u : ModuleState) → IsTexted w v → IsTexted v u → IsTexted w u
texted_then w v u one two = record {
  bytes = two.bytes;
  is = two.is ∙ ap (λ (z : ModuleState). let y : ModuleState = record z { area_store = with_store z.area_store (record z.area_store.store { bytes = two.bytes }) } in y) one.is;
  mapped = two.mapped ∙ ap (λ (z : ModuleState). z.area_store.store.bytes.mapped) one.is ∙ one.mapped;
  outside = λ a out. two.outside a out ∙ ap (λ (z : ModuleState). z.area_store.store.bytes.at a) one.is ∙ one.outside a out;
}

-- what is written in one piece
pub written_outside : (f : ℕ → ℕ) (at : ℕ) (new : List ℕ) (a : ℕ) → error_block_start ≤ at → at + length new ≤ 0x01C03000
    → in_range error_block_start 0xF00 a ≡ false → with_bytes_at f at new a ≡ f a
written_outside f at new a low high out = elim (in_range-cases at (length new) a) [
  | inr r ↦ rw r.0 refl
  | inl r ↦ elim (in_range-cases error_block_start 0xF00 a) [
    | inl q ↦ absurd (both_ways (in_range error_block_start 0xF00 a) out q.0)
    | inr q ↦ elim q.1 [
      | inl less ↦ absurd (omega (arith, low, r.1, less))
      | inr past ↦ absurd (omega (arith, high, r.2, past))
    ]
  ]
]

pub text_texted : (w : ModuleState) (text : List ℕ) → length text ≤ 255 → IsTexted w (record w { area_store = with_text w.area_store text })
text_texted w text few =
    let size : length (text ++ 0 ∷ []) ≡ length text + 1 = length-append text (0 ∷ []) in
    record {
      bytes = record {
        mapped = w.area_store.store.bytes.mapped;
        at = with_bytes_at w.area_store.store.bytes.at environment_text_start (text ++ 0 ∷ []);
      };
      is = refl;
      mapped = refl;
      outside = λ a out.
          written_outside w.area_store.store.bytes.at environment_text_start (text ++ 0 ∷ []) a (omega arith) (omega (arith, size, few)) out;
    }

-- of stores
pub record IsBehind (x y : Stores) : Type 0 where
  pub bytes : Bytes
  pub is : y ≡ stores_with_bytes x bytes
  pub mapped : bytes.mapped ≡ (store_in x).bytes.mapped
  pub outside : (a : ℕ) → in_range error_block_start 0xF00 a ≡ false → bytes.at a ≡ (store_in x).bytes.at a

pub behind_from : (x y : Stores) → IsTexted x.module_state y.module_state → y.flex ≡ x.flex → y.pending ≡ x.pending → IsBehind x y
behind_from x y texted flex pending = record {
  bytes = texted.bytes;
  is = λ i. record { module_state = texted.is i; flex = flex i; pending = pending i };
  mapped = texted.mapped;
  outside = texted.outside;
}

same : (x y : Stores) → AreStores x → (b : IsBehind x y) → IsSame x (stores_with_bytes x b.bytes)
same x y are b = behind x b.bytes are b.outside

meaning_same : (x y : Stores) → AreStores x → IsBehind x y → meaning_of y ≡ meaning_of x
meaning_same x y are b = ap meaning_of b.is ∙ (same x y are b).meaning

word_same : (x y : Stores) (slot : ℕ) → AreStores x → IsBehind x y → is_slot_held slot x.module_state.modules ≡ true
    → private_word y.module_state.area_store slot ≡ private_word x.module_state.area_store slot
word_same x y slot are b held = ap (λ (z : Stores). private_word z.module_state.area_store slot) b.is ∙ (same x y are b).words slot held

pub still_behind : (x y : Stores) → AreStores x → AreStores y → IsBehind x y → StoresAreStill x y
still_behind x y are new b = record {
  meaning = meaning_same x y are b;
  words = λ slot held. word_same x y slot are b held;
  modules = ap (λ (z : Stores). z.module_state.modules) b.is;
  stores = new;
  mapped = ap (λ (z : Stores). (store_in z).bytes.mapped) b.is ∙ b.mapped;
  pool = ap (λ (z : Stores). z.module_state.area_store.pool) b.is;
  area_table = ap (λ (z : Stores). z.module_state.area_store.area_table) b.is;
  pending = ap (λ (z : Stores). z.pending) b.is;
}

-- a private word with a value is one of an instance that is there
pub held_word : (x : Stores) (slot word : ℕ) → area_names x.module_state slot ≡ Some (Value word) → is_slot_held slot x.module_state.modules ≡ true
held_word x slot word says = elim (cases_Bool (is_slot_held slot x.module_state.modules)) [
  | inl there ↦ there
  | inr none ↦ absurd (let no : None ≡ Some (Value word) = rw none at says in cc)
]

-- the slots of modules, wherever their images stand
held_unplaced : (slot : ℕ) (ms : List Module) → is_slot_held slot (map module_without_place ms) ≡ is_slot_held slot ms
held_unplaced slot [] = refl
held_unplaced slot (m ∷ ms) = ap (λ (b : Bool). has_instance slot m || b) (held_unplaced slot ms)

module _ (turn : FlexOrSlide) (x y z : Stores) (f : IsFollowed turn x y) (b : IsBehind y z) (new : AreStores z) where
  still : StoresAreStill y z
  still = still_behind y z f.stores new b

  held_still : (slot : ℕ) → is_slot_held slot y.module_state.modules ≡ is_slot_held slot x.module_state.modules
  held_still slot =
      sym (held_unplaced slot y.module_state.modules) ∙ ap (is_slot_held slot) f.modules ∙ held_unplaced slot x.module_state.modules

  pub followed_behind : IsFollowed turn x z
  unfolding still meaning_of
  followed_behind = record {
    rule = subst (λ (m : Meaning). IsTurned turn (anchor_place_of_turn turn x) (answer_of_turn turn x) (meaning_of x) m) (sym still.meaning) f.rule;
    words = λ slot word says. still.words slot (held_still slot ∙ held_word x slot word says) ∙ f.words slot word says;
    modules = ap (map module_without_place) still.modules ∙ f.modules;
    stores = new;
    mapped = still.mapped ∙ f.mapped;
    pool = still.pool ∙ f.pool;
    area_table = still.area_table ∙ f.area_table;
    pending = still.pending ∙ f.pending;
  }
