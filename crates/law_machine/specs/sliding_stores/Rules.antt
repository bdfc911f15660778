-- What a flex call and a slide of the module area do to the meaning of a machine's stores: rules in
-- which no address of a block stands (Acorn C manual, "flex"; RISC OS 3 Programmer's Reference
-- Manual, "OS_Module", reason 8).
use Rattle.std.specs.Prelude.{ℕ, zero, suc, ◌+◌, ◌≡◌, ◌⊎◌, Bool, true, false, List, [], ◌∷◌, Option, Some, None, Result, Ok, Err, if◌then◌else◌}
use Rattle.address_map.specs.Bytes.{in_range}
use Rattle.profile.specs.ErrorNumber.{ErrorNumber}
use Rattle.flex_store.specs.Runs.{Alloc, Extend, FlexCall, MidExtend, Release}
use Rattle.law_machine.specs.flex.Numbered.{Anchor, IsCalledSeen}
use Rattle.law_machine.specs.flex.Padding.{IsCalledPadding}
use Rattle.law_machine.specs.sliding_stores.Meaning.{BlockNumber, Meaning, PayloadPlace, PrivateWord, Value}
use Rattle.law_machine.specs.sliding_stores.Turning.{Call, Init, Slide, FlexOrSlide}

-- The bytes of a block, of which the first is its byte `at`, with each of the four from `offset` on
-- seen as described; and blocks with those of a place.
abbrev pub with_word_seen : Option ℕ → ℕ → ℕ → List (Option ℕ) → List (Option ℕ)
with_word_seen byte offset at [] = []
with_word_seen byte offset at (b ∷ bs) =
    (if in_range offset 4 at then byte else b) ∷ with_word_seen byte offset (at + 1) bs

abbrev pub with_block_seen : Option ℕ → ℕ → ℕ → List (List (Option ℕ)) → List (List (Option ℕ))
with_block_seen byte number offset [] = []
with_block_seen byte zero offset (b ∷ bs) = with_word_seen byte offset 0 b ∷ bs
with_block_seen byte (suc number) offset (b ∷ bs) = b ∷ with_block_seen byte number offset bs

abbrev pub with_place_seen : Option ℕ → Option PayloadPlace → List (List (Option ℕ)) → List (List (Option ℕ))
with_place_seen byte None blocks = blocks
with_place_seen byte (Some p) blocks = with_block_seen byte p.block p.offset blocks

-- An anchor came: the four bytes where it lies now are seen no longer, if it lies in a block; all
-- other bytes and anchors stay.
pub record IsAnchored (anchor : ℕ) (p q : Meaning) : Type 0 where
  pub none : p.places anchor ≡ None
  pub others : (a : ℕ) → (a ≡ anchor → ⊥) → q.places a ≡ p.places a
  pub blocks : q.blocks ≡ with_place_seen None (q.places anchor) p.blocks

-- An anchor went: the four bytes where it lay, which were not seen, are 0 now, if it lay in a
-- block; all other bytes and anchors stay.
pub record IsAnchorGone (anchor : ℕ) (p q : Meaning) : Type 0 where
  pub none : q.places anchor ≡ None
  pub others : (a : ℕ) → (a ≡ anchor → ⊥) → q.places a ≡ p.places a
  pub unseen : p.blocks ≡ with_place_seen None (p.places anchor) p.blocks
  pub blocks : q.blocks ≡ with_place_seen (Some 0) (p.places anchor) p.blocks

-- all anchors and all bytes stay
pub record IsAnchoredAlike (p q : Meaning) : Type 0 where
  pub places : (a : ℕ) → q.places a ≡ p.places a
  pub blocks : q.blocks ≡ p.blocks

-- what a flex call that finds room leaves of anchors, and of the blocks of the module area that
-- they lie in
abbrev pub AreAnchorsLeft : FlexCall → Meaning → Meaning → Type 0
AreAnchorsLeft (Alloc anchor size) p q = IsAnchored anchor p q
AreAnchorsLeft (Release anchor) p q = IsAnchorGone anchor p q
AreAnchorsLeft (Extend anchor size) p q = IsAnchoredAlike p q
AreAnchorsLeft (MidExtend anchor at by) p q = IsAnchoredAlike p q

-- A flex call that finds room, on an anchor at a place, changes the flex blocks by the call's rule;
-- the bytes that fill the last word of each are zeros in a block that is new or changes its size,
-- and else stay. The blocks of the module area hold what they held, but for the word of an anchor
-- that came or went. Images are what they were, and a private word says what it said.
pub record IsCalled (call : FlexCall) (x : Anchor) (p q : Meaning) : Type 0 where
  pub flex : IsCalledSeen call x p.flex q.flex
  pub padding : IsCalledPadding call x p.flex p.padding q.padding
  pub anchors : AreAnchorsLeft call p q
  pub images : q.images ≡ p.images
  pub names : (slot : ℕ) → q.names slot ≡ p.names slot

-- Init makes a store without blocks, where there was none.
pub record IsBegun (p q : Meaning) : Type 0 where
  pub none : p.flex ≡ []
  pub same : q ≡ p

-- A private word that named a block still names that one. One that named none has its value still,
-- so by chance it may name one now; and where there was no such instance there is none.
abbrev pub IsStillNamed : Option PrivateWord → Option PrivateWord → Type 0
IsStillNamed None new = new ≡ None
IsStillNamed (Some (BlockNumber number)) new = new ≡ Some (BlockNumber number)
IsStillNamed (Some (Value word)) new = (new ≡ Some (Value word)) ⊎
    ((number : ℕ) × (new ≡ Some (BlockNumber number)))

-- A slide keeps all that there is.
pub record IsMeaningSlid (p q : Meaning) : Type 0 where
  pub flex : q.flex ≡ p.flex
  pub padding : q.padding ≡ p.padding
  pub places : (a : ℕ) → q.places a ≡ p.places a
  pub blocks : q.blocks ≡ p.blocks
  pub images : q.images ≡ p.images
  pub names : (slot : ℕ) → IsStillNamed (p.names slot) (q.names slot)

-- A turn, and the place of its anchor, if it has one. A call that was refused leaves all as it is,
-- and so does one that finds no room.
abbrev pub IsTurned : FlexOrSlide → Anchor → Result Bool ErrorNumber → Meaning → Meaning → Type 0
IsTurned turn x (Err e) p q = q ≡ p
IsTurned turn x (Ok false) p q = q ≡ p
IsTurned (Init start end) x (Ok true) p q = IsBegun p q
IsTurned (Call call) x (Ok true) p q = IsCalled call x p q
IsTurned (Slide return_address) x (Ok true) p q = IsMeaningSlid p q
