-- Calls one after another, with whatever is done between them, by the names of blocks.
use Rattle.std.specs.Prelude.{ℕ, Bool, true, false, ◌≡◌, ◌<◌, ◌-◌, ◌^◌, ◌⊎◌, ◌||◌, List, [], ◌∷◌, Some, Ok}
use Rattle.address_map.specs.Bytes.{in_range}
use Rattle.os_heap.specs.Store.{Store}
use Rattle.flex_store.specs.Blocks.{FlexStore}
use Rattle.flex_store.specs.Calls.{flex_after_alloc, flex_after_extend, FlexState, is_anchor_byte, mid_extended}
use Rattle.flex_store.specs.Runs.{Alloc, Extend, FlexCall, MidExtend, Release}
use Rattle.law_machine.specs.flex.Laws.{anchor_of_call, IsDoneIn, IsOfWords, IsSpelledState}
use Rattle.law_machine.specs.flex.Numbered.{blocks_seen, anchor_place_of, SeenBlock}
use Rattle.law_machine.specs.flex_names.Laws.{IsCalledNamed}
use Rattle.law_machine.specs.flex_names.Names.{contents_named, Name, place_named}

-- A call answered that there is no room. A release always finds some.
abbrev pub FindsNoRoom : Store → FlexState → FlexCall → FlexState → Type 0
FindsNoRoom places t (Alloc anchor size) u = flex_after_alloc places t anchor size ≡ Ok (u, false)
FindsNoRoom places t (Release anchor) u = ⊥
FindsNoRoom places t (Extend anchor size) u = flex_after_extend t anchor size ≡ Ok (u, false)
FindsNoRoom places t (MidExtend anchor at by) u = mid_extended t anchor at by ≡ Ok (u, false)

-- the bytes of the store's range, and those of its anchors
abbrev pub is_of_store : FlexStore → ℕ → Bool
is_of_store s a = in_range s.start (s.end - s.start) a || is_anchor_byte s a

-- What is done leaves the store where it is, and its bytes and its anchors as they are. All else
-- may be another.
pub record IsLeftAlone (t u : FlexState) (s : FlexStore) : Type 0 where
  pub flex : u.flex ≡ t.flex
  pub low : (a : ℕ) → u.bytes.mapped a ≡ true → a < 2 ^ 26
  pub mapped : (a : ℕ) → is_of_store s a ≡ true → u.bytes.mapped a ≡ t.bytes.mapped a
  pub bytes : (a : ℕ) → is_of_store s a ≡ true → u.bytes.at a ≡ t.bytes.at a

-- One thing that is done, with the state that it leaves: a call, with the heaps and the ranges that
-- there are then, or what leaves the store alone, as a refused call does, or a slide of other
-- memory.
pub data FlexStep : Type 0 where
  Called : Store → FlexCall → FlexState → FlexStep
  Apart : FlexState → FlexStep

abbrev pub flex_after_turn : FlexStep → FlexState
flex_after_turn (Called places call u) = u
flex_after_turn (Apart u) = u

abbrev pub IsFlexTurn : FlexState → FlexStep → Type 0
IsFlexTurn t (Called places call u) = IsOfWords call × ((places.bytes ≡ t.bytes) ×
    (IsDoneIn places t call u ⊎ FindsNoRoom places t call u))
IsFlexTurn t (Apart u) = (s : FlexStore) → t.flex ≡ Some s → IsLeftAlone t u s

-- each of them is done in the state that the one before left
abbrev pub AreTurns : FlexState → List FlexStep → Type 0
AreTurns t [] = Unit {0}
AreTurns t (x ∷ xs) = IsFlexTurn t x × AreTurns (flex_after_turn x) xs

abbrev pub left_at_last : FlexState → List FlexStep → FlexState
left_at_last t [] = t
left_at_last t (x ∷ xs) = left_at_last (flex_after_turn x) xs

-- a name of the word at an address
abbrev pub IsNameOf : Name → FlexState → ℕ → Type 0
IsNameOf name t a = (s : FlexStore) → t.flex ≡ Some s →
    place_named (blocks_seen t.flex) name ≡ Some (anchor_place_of s a)

-- A call that answers that there is room goes by its rule, on the name of its word; one that
-- answers that there is none changes nothing.
pub record GoesByAnswer (places : Store) (t : FlexState) (call : FlexCall) (u : FlexState) : Type 0 where
  pub room : IsDoneIn places t call u
      → (name : Name) × (IsNameOf name t (anchor_of_call call) ×
      IsCalledNamed call name (blocks_seen t.flex) (blocks_seen u.flex))
  pub none : FindsNoRoom places t call u → u ≡ t

-- And what leaves the store alone changes nothing that is seen.
abbrev pub IsTurnNamed : FlexState → FlexStep → Type 0
IsTurnNamed t (Called places call u) = GoesByAnswer places t call u
IsTurnNamed t (Apart u) = blocks_seen u.flex ≡ blocks_seen t.flex

abbrev pub GoByNames : FlexState → List FlexStep → Type 0
GoByNames t [] = Unit {0}
GoByNames t (x ∷ xs) = IsTurnNamed t x × GoByNames (flex_after_turn x) xs

-- memory spells the blocks of the store
abbrev pub IsFlexSpelled : FlexState → Type 0
IsFlexSpelled t = (s : FlexStore) × ((t.flex ≡ Some s) × IsSpelledState t s)

-- Whatever is done, in whatever order: what names show changes by the rules of the calls alone, and
-- memory spells what is left at last.
abbrev pub RunsGoByNames : Type 0
RunsGoByNames = (t : FlexState) (turns : List FlexStep) → IsFlexSpelled t →
    ((a : ℕ) → t.bytes.mapped a ≡ true → a < 2 ^ 26) → AreTurns t turns
    → GoByNames t turns × IsFlexSpelled (left_at_last t turns)

-- the same call on the word at another address
abbrev pub on_anchor : ℕ → FlexCall → FlexCall
on_anchor a (Alloc anchor size) = Alloc a size
on_anchor a (Release anchor) = Release a
on_anchor a (Extend anchor size) = Extend a size
on_anchor a (MidExtend anchor at by) = MidExtend a at by

-- What names show after a call is shown by what they showed before, by the call's name and by what
-- the call is given: wherever its word lies.
abbrev pub NamesGoAlike : Type 0
NamesGoAlike = (p q r z : List SeenBlock) (call : FlexCall) (a : ℕ) (name : Name) →
    ((y : Name) → contents_named r y ≡ contents_named p y)
    → IsCalledNamed call name p q → IsCalledNamed (on_anchor a call) name r z → (y : Name) →
    contents_named z y ≡ contents_named q y
