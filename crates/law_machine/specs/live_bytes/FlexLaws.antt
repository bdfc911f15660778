-- Which bytes outside the flex store a flex call changes: those of anchors' words (Acorn C manual,
-- "flex").
use Rattle.std.specs.Prelude.{ℕ, ◌≡◌, ◌⊎◌, true, false}
use Rattle.os_heap.specs.Store.{Store, is_in_flex_store}
use Rattle.flex_store.specs.Runs.{FlexCall}
use Rattle.law_machine.specs.sliding_stores.Meaning.{AreStores, Stores, store_in}
use Rattle.law_machine.specs.sliding_stores.Turning.{Call, Init, stores_after_step}

-- the byte is one of a word that is an anchor in the one store or in the other
abbrev pub IsAnchorByte : Store → Store → ℕ → Type 0
IsAnchorByte s t a = (s.anchor a ≡ true) ⊎ (t.anchor a ≡ true)

-- Calls move blocks, and so write the anchors of other blocks too; init writes nothing.
pub record FlexCallChangesAnchors (x : Stores) (a : ℕ) : Type 0 where
  pub calls : (call : FlexCall) → is_in_flex_store (store_in x).others a ≡ false
      → ((store_in (stores_after_step (Call call) x)).bytes.at a ≡ (store_in x).bytes.at a)
      ⊎ IsAnchorByte (store_in x) (store_in (stores_after_step (Call call) x)) a
  pub init : (start end : ℕ) → (store_in (stores_after_step (Init start end) x)).bytes.at a
      ≡ (store_in x).bytes.at a

abbrev pub FlexCallsChangeAnchors : Type 0
FlexCallsChangeAnchors = (x : Stores) (a : ℕ) → AreStores x → FlexCallChangesAnchors x a
