-- What calls do to the blocks of the flex store, by names.
use Rattle.std.specs.Prelude.{ℕ, ◌≡◌, ◌<◌, ◌≤◌, ◌-◌, ◌^◌, ◌⊎◌, true, List, length, Option, None, Some, replicate, if◌then◌else◌}
use Rattle.std.specs.Option.{option_and_then, option_map}
use Rattle.os_heap.specs.Store.{Store}
use Rattle.flex_store.specs.Blocks.{cut_of, FlexStore, more_of}
use Rattle.flex_store.specs.Calls.{FlexState}
use Rattle.flex_store.specs.Runs.{Alloc, Extend, FlexCall, MidExtend, Release}
use Rattle.law_machine.specs.flex.Laws.{anchor_of_call, IsDoneIn, IsOfWords, IsSpelledState}
use Rattle.law_machine.specs.flex.Numbered.{Anchor, AreNumbered, blocks_seen, IsAddedSeen, IsCalledSeen, IsRemovedSeen, IsSplicedSeen, anchor_place_of, SeenBlock}
use Rattle.law_machine.specs.flex.Seen.{seen_spliced}
use Rattle.law_machine.specs.flex_names.Names.{contents_named, In, Name, name_before, number_named, place_named, same_name, shown_named}

-- Each block has one name, and no other has it.
abbrev pub NamesPrintBlocks : Type 0
NamesPrintBlocks = (p : List SeenBlock) → AreNumbered 0 p → (n : ℕ) → n < length p
    → (y : Name) × ((number_named p y ≡ Some n) × ((z : Name) → number_named p z ≡ Some n → z ≡ y))

-- A block of zeros comes at a name: the word of its anchor is seen no more where it lies in a
-- block, and else each name shows what it did.
abbrev pub IsAddedNamed : Name → ℕ → List SeenBlock → List SeenBlock → Type 0
IsAddedNamed name size p q =
    (y : Name) → contents_named q y ≡ (if same_name y name then Some (replicate size (Some 0))
    else shown_named None name y (contents_named p y))

-- The block of a name goes: the word of its anchor is 0 where it lies in a block, and else each
-- name shows what it did.
abbrev pub IsRemovedNamed : Name → List SeenBlock → List SeenBlock → Type 0
IsRemovedNamed name p q = (y : Name) → contents_named q y
    ≡ (if same_name y name then None else shown_named (Some 0) name y (contents_named p y))

-- The block of a name shows the splice of what it showed, and each other name what that name showed
-- which the block had before.
abbrev pub IsSplicedNamed : Name → ℕ → ℕ → ℕ → List SeenBlock → List SeenBlock → Type 0
IsSplicedNamed name place cut more p q =
    (y : Name) → contents_named q y ≡ (if same_name y name then
    option_map (λ l. seen_spliced l place cut more) (contents_named p name)
    else option_and_then (contents_named p) (name_before name place cut more y))

-- A new size cuts bytes off at the end, or appends zeros. All other names show what they did.
abbrev pub seen_resized : List (Option ℕ) → ℕ → List (Option ℕ)
seen_resized l size = seen_spliced l (length l) (length l - size) (size - length l)

abbrev pub IsResizedNamed : Name → ℕ → List SeenBlock → List SeenBlock → Type 0
IsResizedNamed name size p q =
    (y : Name) → contents_named q y ≡ (if same_name y name then
    option_map (λ l. seen_resized l size) (contents_named p name) else contents_named p y)

-- A block comes at a name that no block had.
abbrev pub AllocGoesByNames : Type 0
AllocGoesByNames = (p q : List SeenBlock) (x : Anchor) (size : ℕ) (name : Name) → AreNumbered 0 p →
    place_named p name ≡ Some x → IsAddedSeen x size p q
    → number_named p name ≡ None → IsAddedNamed name size p q

-- A block goes, in which no anchor lies.
abbrev pub ReleaseGoesByNames : Type 0
ReleaseGoesByNames = (p q : List SeenBlock) (x : Anchor) (name : Name) → AreNumbered 0 p →
    place_named p name ≡ Some x → IsRemovedSeen x p q
    → ((o : ℕ) → number_named p (In name o) ≡ None) → IsRemovedNamed name p q

-- A splice takes no anchor away.
abbrev pub SpliceGoesByNames : Type 0
SpliceGoesByNames = (p q : List SeenBlock) (x : Anchor) (size place cut more : ℕ) (name : Name) →
    AreNumbered 0 p → place_named p name ≡ Some x
    → IsSplicedSeen x size place cut more p q → ((o : ℕ) → place - cut ≤ o → o < place →
    number_named p (In name o) ≡ None)
    → IsSplicedNamed name place cut more p q

-- What a call on the word of a name does.
abbrev pub IsCalledNamed : FlexCall → Name → List SeenBlock → List SeenBlock → Type 0
IsCalledNamed (Alloc anchor size) name p q = IsAddedNamed name size p q
IsCalledNamed (Release anchor) name p q = IsRemovedNamed name p q
IsCalledNamed (Extend anchor size) name p q = IsResizedNamed name size p q
IsCalledNamed (MidExtend anchor at by) name p q = IsSplicedNamed name at (cut_of by) (more_of by) p q

-- The name is free for a block that comes, and no anchor lies in what goes, or after the end of a
-- block that gets a new size.
abbrev pub IsUnbroken : FlexCall → Name → List SeenBlock → Type 0
IsUnbroken (Alloc anchor size) name p = number_named p name ≡ None
IsUnbroken (Release anchor) name p = (o : ℕ) → number_named p (In name o) ≡ None
IsUnbroken (Extend anchor size) name p =
    (l : List (Option ℕ)) → contents_named p name ≡ Some l → (o : ℕ) → (size ≤ o) ⊎ (length l ≤ o) →
    number_named p (In name o) ≡ None
IsUnbroken (MidExtend anchor at by) name p = (o : ℕ) → at - cut_of by ≤ o → o < at →
    number_named p (In name o) ≡ None

-- Each call by names, where its rule by the numbers of blocks is kept.
abbrev pub CallsGoByNames : Type 0
CallsGoByNames = (p q : List SeenBlock) (x : Anchor) (call : FlexCall) (name : Name) → AreNumbered 0 p →
    place_named p name ≡ Some x → IsCalledSeen call x p q
    → IsUnbroken call name p → IsCalledNamed call name p q

-- Each call that was done and found room, on an anchor whose word has a name: it breaks nothing, so
-- the blocks that are seen go by names.
abbrev pub DoneCallsGoByNames : Type 0
DoneCallsGoByNames = (places : Store) (t u : FlexState) (s : FlexStore) (call : FlexCall) (name : Name) →
    IsOfWords call → t.flex ≡ Some s → IsSpelledState t s
    → places.bytes ≡ t.bytes → ((a : ℕ) → t.bytes.mapped a ≡ true → a < 2 ^ 26) → IsDoneIn places t call u
    → place_named (blocks_seen (Some s)) name ≡ Some (anchor_place_of s (anchor_of_call call)) →
    IsCalledNamed call name (blocks_seen (Some s)) (blocks_seen u.flex)

-- Each word has a name for the place where it is.
abbrev pub WordsHaveNames : Type 0
WordsHaveNames = (t : FlexState) (s : FlexStore) → IsSpelledState t s → (a : ℕ) →
    (y : Name) × (place_named (blocks_seen (Some s)) y ≡ Some (anchor_place_of s a))
