-- Blocks of the flex store that differ, replayed by their anchors.
use Rattle.std.proofs.Common.{◌≡◌, ◌≢◌, ◌⊎◌, ℕ, ◌+◌, ◌==◌, ◌&&◌, Bool, true, false, List, [], ◌∷◌, ◌++◌, Option, Some, None, refl, sym, ap, ◌∙◌, inl, inr, subst}
use Rattle.std.specs.Prelude.{All, option_map, unwrap_or, if◌then◌else◌}
use Rattle.std.specs.List.{flat_map, AllByRecursion}
use Rattle.std.proofs.lemmas.Bool.{and_parts, cases_Bool, eq-eqb, eqb-true, false≢true}
use Rattle.std.proofs.lemmas.List.Elements.{All-from_recursion}
use Rattle.address_map.specs.Memory.{is_mapped}
use Rattle.address_map.specs.declared.map.AddressMap.{AddressMap}
use Rattle.flex_store.specs.Blocks.{Block, bytes_taken_by, has_anchor}
use Rattle.flex_store.specs.Listed.{all_listed, blocks_with_places}
use Rattle.flex_store.specs.State.{AreAnchorWords, IsFlex, IsFlexAt, blocks_of, flex_in}
use Rattle.flex_store.specs.declared.blocks.FlexBlock.{FlexBlock}
use Rattle.flex_store.specs.declared.flex.Extent.{Extent}
use Rattle.flex_store.specs.declared.flex.Flex.{Flex}
use Rattle.trace_store_text.specs.flex.Changes.{block_of_anchor, is_same_block}
use Rattle.trace_moments.specs.Flex.{AreFlexChanges, IsFlexChange, flex_block_after, flex_blocks_after, blocks_by_anchor}
use Rattle.trace_moments.specs.declared.flex.FlexChange.{FlexChange}

-- no two blocks have the same anchor
abbrev pub AreDistinct : List FlexBlock → Type 0
AreDistinct [] = Unit {0}
AreDistinct (b ∷ bs) = (block_of_anchor b.anchor bs ≡ None) × AreDistinct bs

-- what is listed of a block that was there, and of one that is there
abbrev pub gone_by : FlexBlock → Option FlexBlock → List FlexChange
gone_by b None = record { anchor = b.anchor; was = Some b; is = None } ∷ []
gone_by b (Some new) = []

abbrev pub gone : List FlexBlock → FlexBlock → List FlexChange
gone news b = gone_by b (block_of_anchor b.anchor news)

abbrev pub was_so : Option FlexBlock → FlexBlock → Bool
was_so o b = unwrap_or (option_map (λ (was : FlexBlock). is_same_block was b) o) false

abbrev pub kept_by : FlexBlock → Option FlexBlock → List FlexChange
kept_by b o = if was_so o b then [] else record { anchor = b.anchor; was = o; is = Some b } ∷ []

abbrev pub kept : List FlexBlock → FlexBlock → List FlexChange
kept olds b = kept_by b (block_of_anchor b.anchor olds)

abbrev pub listed : List FlexBlock → List FlexBlock → List FlexChange
listed olds news = flat_map (gone news) olds ++ flat_map (kept olds) news

option_cases : (o : Option FlexBlock) → (o ≡ None) ⊎ ((b : FlexBlock) × (o ≡ Some b))
option_cases None = inl refl
option_cases (Some b) = inr (b, refl)

some_none : (b : FlexBlock) → Some b ≡ None → ⊥
some_none b e = cc

-- replayed one after another
after_both : (cs ds : List FlexChange) (f : ℕ → Option FlexBlock) → flex_blocks_after (cs ++ ds) f ≡ flex_blocks_after ds (flex_blocks_after cs f)
after_both [] ds f = refl
after_both (c ∷ cs) ds f = after_both cs ds (flex_block_after c f)

then_rest : (cs ds : List FlexChange) (f : ℕ → Option FlexBlock) (a : ℕ) → flex_blocks_after (cs ++ ds) f a ≡ flex_blocks_after ds (flex_blocks_after cs f) a
then_rest cs ds f a = ap (λ (g : ℕ → Option FlexBlock). g a) (after_both cs ds f)

-- what is listed of gone blocks leaves an anchor that has one
gone_one_keeps : (news : List FlexBlock) (b x : FlexBlock) (o : Option FlexBlock) (f : ℕ → Option FlexBlock) (a : ℕ)
    → block_of_anchor a news ≡ Some x → block_of_anchor b.anchor news ≡ o → flex_blocks_after (gone_by b o) f a ≡ f a
gone_one_keeps news b x (Some y) f a there is = refl
gone_one_keeps news b x None f a there is =
    elim (cases_Bool (b.anchor == a)) [
      | inl here ↦
          let anchor : b.anchor ≡ a = eqb-true b.anchor a here in
          absurd (some_none x (sym there ∙ (ap (λ (k : ℕ). block_of_anchor k news) (sym anchor) ∙ is)))
      | inr other ↦ rw other refl
    ]

gone_keeps : (news bs : List FlexBlock) (x : FlexBlock) (f : ℕ → Option FlexBlock) (a : ℕ) → block_of_anchor a news ≡ Some x
    → flex_blocks_after (flat_map (gone news) bs) f a ≡ f a
gone_keeps news [] x f a there = refl
gone_keeps news (b ∷ bs) x f a there =
    then_rest (gone news b) (flat_map (gone news) bs) f a
    ∙ (gone_keeps news bs x (flex_blocks_after (gone news b) f) a there
    ∙ gone_one_keeps news b x (block_of_anchor b.anchor news) f a there refl)

-- and makes none of one that hasn't
gone_one_none : (b : FlexBlock) (o : Option FlexBlock) (f : ℕ → Option FlexBlock) (a : ℕ) → f a ≡ None → flex_blocks_after (gone_by b o) f a ≡ None
gone_one_none b (Some y) f a none = none
gone_one_none b None f a none =
    elim (cases_Bool (b.anchor == a)) [ inl here ↦ rw here refl | inr other ↦ rw other none ]

gone_none : (news bs : List FlexBlock) (f : ℕ → Option FlexBlock) (a : ℕ) → f a ≡ None → flex_blocks_after (flat_map (gone news) bs) f a ≡ None
gone_none news [] f a none = none
gone_none news (b ∷ bs) f a none =
    then_rest (gone news b) (flat_map (gone news) bs) f a
    ∙ gone_none news bs (flex_blocks_after (gone news b) f) a (gone_one_none b (block_of_anchor b.anchor news) f a none)

gone_one_goes : (b : FlexBlock) (o : Option FlexBlock) (f : ℕ → Option FlexBlock) (a : ℕ) → o ≡ None → b.anchor == a ≡ true
    → flex_blocks_after (gone_by b o) f a ≡ None
gone_one_goes b (Some y) f a none here = absurd (some_none y none)
gone_one_goes b None f a none here = rw here refl

gone_goes : (news bs : List FlexBlock) (x : FlexBlock) (f : ℕ → Option FlexBlock) (a : ℕ) → block_of_anchor a news ≡ None
    → block_of_anchor a bs ≡ Some x → flex_blocks_after (flat_map (gone news) bs) f a ≡ None
gone_goes news [] x f a none there = absurd (some_none x (sym there))
gone_goes news (b ∷ bs) x f a none there =
    elim (cases_Bool (b.anchor == a)) [
      | inl here ↦
          let anchor : b.anchor ≡ a = eqb-true b.anchor a here in
          then_rest (gone news b) (flat_map (gone news) bs) f a
          ∙ gone_none news bs (flex_blocks_after (gone news b) f) a
          (gone_one_goes b (block_of_anchor b.anchor news) f a (ap (λ (k : ℕ). block_of_anchor k news) anchor ∙ none) here)
      | inr other ↦
          then_rest (gone news b) (flat_map (gone news) bs) f a
          ∙ gone_goes news bs x (flex_blocks_after (gone news b) f) a none (rw other at there)
    ]

all_gone : (olds news : List FlexBlock) (a : ℕ) → block_of_anchor a news ≡ None
    → flex_blocks_after (flat_map (gone news) olds) (λ k. block_of_anchor k olds) a ≡ None
all_gone olds news a none =
    elim (option_cases (block_of_anchor a olds)) [
      | inl before ↦ gone_none news olds (λ k. block_of_anchor k olds) a before
      | inr there ↦ gone_goes news olds there.0 (λ k. block_of_anchor k olds) a none there.1
    ]

-- what is listed of kept blocks leaves an anchor of none of them
kept_one_leaves : (b : FlexBlock) (o : Option FlexBlock) (f : ℕ → Option FlexBlock) (a : ℕ) → b.anchor == a ≡ false
    → flex_blocks_after (kept_by b o) f a ≡ f a
kept_one_leaves b o f a other =
    elim (cases_Bool (was_so o b)) [ inl same ↦ rw same refl | inr differs ↦ rw (differs, other) refl ]

kept_leaves : (olds bs : List FlexBlock) (f : ℕ → Option FlexBlock) (a : ℕ) → block_of_anchor a bs ≡ None
    → flex_blocks_after (flat_map (kept olds) bs) f a ≡ f a
kept_leaves olds [] f a none = refl
kept_leaves olds (b ∷ bs) f a none =
    elim (cases_Bool (b.anchor == a)) [
      | inl here ↦ absurd (some_none b (rw here at none))
      | inr other ↦
          then_rest (kept olds b) (flat_map (kept olds) bs) f a
          ∙ (kept_leaves olds bs (flex_blocks_after (kept olds b) f) a (rw other at none)
          ∙ kept_one_leaves b (block_of_anchor b.anchor olds) f a other)
    ]

-- and gives each of theirs its block
anchor_found : (a : ℕ) (bs : List FlexBlock) (b : FlexBlock) → block_of_anchor a bs ≡ Some b → b.anchor ≡ a
anchor_found a [] b is = absurd (some_none b (sym is))
anchor_found a (d ∷ bs) b is =
    elim (cases_Bool (d.anchor == a)) [
      | inl here ↦
          let is' = rw here at is in
          let same : d ≡ b = cc in
          subst (λ (x : FlexBlock). x.anchor ≡ a) same (eqb-true d.anchor a here)
      | inr other ↦ anchor_found a bs b (rw other at is)
    ]

same_block : (old b : FlexBlock) → old.anchor ≡ b.anchor → is_same_block old b ≡ true → old ≡ b
same_block old b anchor is =
    let parts = and_parts (old.at == b.at) (old.size == b.size) is in
    let at = eqb-true old.at b.at parts.0 in
    let size = eqb-true old.size b.size parts.1 in
    (λ i. record { anchor = anchor i; at = at i; size = size i })

so_is_same : (o : Option FlexBlock) (b : FlexBlock) → ((old : FlexBlock) → o ≡ Some old → old.anchor ≡ b.anchor) → was_so o b ≡ true → o ≡ Some b
so_is_same None b anchor same = absurd (false≢true same)
so_is_same (Some old) b anchor same = ap (λ (x : FlexBlock). Some x) (same_block old b (anchor old refl) same)

kept_one_makes : (b : FlexBlock) (o : Option FlexBlock) (f : ℕ → Option FlexBlock) (a : ℕ)
    → ((old : FlexBlock) → o ≡ Some old → old.anchor ≡ b.anchor) → b.anchor == a ≡ true → f a ≡ o
    → flex_blocks_after (kept_by b o) f a ≡ Some b
kept_one_makes b o f a anchor here was =
    elim (cases_Bool (was_so o b)) [
      | inl same ↦ rw same (was ∙ so_is_same o b anchor same)
      | inr differs ↦ rw (differs, here) refl
    ]

kept_makes : (olds bs : List FlexBlock) (x : FlexBlock) (f : ℕ → Option FlexBlock) (a : ℕ) → AreDistinct bs → block_of_anchor a bs ≡ Some x
    → f a ≡ block_of_anchor a olds → flex_blocks_after (flat_map (kept olds) bs) f a ≡ Some x
kept_makes olds [] x f a distinct there was = absurd (some_none x (sym there))
kept_makes olds (b ∷ bs) x f a distinct there was =
    elim (cases_Bool (b.anchor == a)) [
      | inl here ↦
          let anchor : b.anchor ≡ a = eqb-true b.anchor a here in
          let is = rw here at there in
          then_rest (kept olds b) (flat_map (kept olds) bs) f a
          ∙ (kept_leaves olds bs (flex_blocks_after (kept olds b) f) a (ap (λ (k : ℕ). block_of_anchor k bs) (sym anchor) ∙ distinct.0)
          ∙ (kept_one_makes b (block_of_anchor b.anchor olds) f a (λ old e. anchor_found b.anchor olds old e) here
          (was ∙ ap (λ (k : ℕ). block_of_anchor k olds) (sym anchor))
          ∙ is))
      | inr other ↦
          then_rest (kept olds b) (flat_map (kept olds) bs) f a
          ∙ kept_makes olds bs x (flex_blocks_after (kept olds b) f) a distinct.1 (rw other at there)
          (kept_one_leaves b (block_of_anchor b.anchor olds) f a other ∙ was)
    ]

replayed : (olds news : List FlexBlock) (a : ℕ) → AreDistinct news
    → flex_blocks_after (listed olds news) (λ k. block_of_anchor k olds) a ≡ block_of_anchor a news
replayed olds news a distinct =
    let middle : ℕ → Option FlexBlock = flex_blocks_after (flat_map (gone news) olds) (λ k. block_of_anchor k olds) in
    then_rest (flat_map (gone news) olds) (flat_map (kept olds) news) (λ k. block_of_anchor k olds) a
    ∙ elim (option_cases (block_of_anchor a news)) [
      | inl none ↦ kept_leaves olds news middle a none ∙ (all_gone olds news a none ∙ sym none)
      | inr there ↦ kept_makes olds news there.0 middle a distinct there.1
          (gone_keeps news olds there.0 (λ k. block_of_anchor k olds) a there.1)
          ∙ sym there.1
    ]

-- each of different blocks is that of its anchor
abbrev IsFound : List FlexBlock → FlexBlock → Type 0
IsFound all b = block_of_anchor b.anchor all ≡ Some b

found_behind : (b : FlexBlock) (bs rest : List FlexBlock) → block_of_anchor b.anchor bs ≡ None → AllByRecursion (IsFound bs) rest
    → AllByRecursion (IsFound (b ∷ bs)) rest
found_behind b bs [] none found = tt
found_behind b bs (d ∷ rest) none found = (
  elim (cases_Bool (b.anchor == d.anchor)) [
    | inl same ↦ absurd (some_none d (sym found.0 ∙ (ap (λ (k : ℕ). block_of_anchor k bs) (sym (eqb-true b.anchor d.anchor same)) ∙ none)))
    | inr other ↦ rw other found.0
  ],
  found_behind b bs rest none found.1,
)

all_found : (bs : List FlexBlock) → AreDistinct bs → AllByRecursion (IsFound bs) bs
all_found [] distinct = tt
all_found (b ∷ bs) distinct =
    (rw (eq-eqb b.anchor b.anchor refl) refl, found_behind b bs bs distinct.0 (all_found bs distinct.1))

-- what is listed is so, and differs
abbrev AreChanges : List FlexBlock → List FlexBlock → List FlexChange → Type 0
AreChanges olds news cs = AllByRecursion (IsFlexChange (λ k. block_of_anchor k olds) (λ k. block_of_anchor k news)) cs

changes_of_both : (olds news : List FlexBlock) (cs ds : List FlexChange) → AreChanges olds news cs → AreChanges olds news ds
    → AreChanges olds news (cs ++ ds)
changes_of_both olds news [] ds one other = other
changes_of_both olds news (c ∷ cs) ds one other = (one.0, changes_of_both olds news cs ds one.1 other)

gone_one_differs : (olds news : List FlexBlock) (b : FlexBlock) (o : Option FlexBlock) → IsFound olds b → block_of_anchor b.anchor news ≡ o
    → AreChanges olds news (gone_by b o)
gone_one_differs olds news b (Some y) found is = tt
gone_one_differs olds news b None found is =
    (record { was = sym found; is = sym is; differs = λ same. some_none b same }, tt)

gone_differ : (olds news bs : List FlexBlock) → AllByRecursion (IsFound olds) bs → AreChanges olds news (flat_map (gone news) bs)
gone_differ olds news [] found = tt
gone_differ olds news (b ∷ bs) found =
    changes_of_both olds news (gone news b) (flat_map (gone news) bs)
    (gone_one_differs olds news b (block_of_anchor b.anchor news) found.0 refl) (gone_differ olds news bs found.1)

same_as_itself : (b : FlexBlock) → is_same_block b b ≡ true
same_as_itself b = rw (eq-eqb b.at b.at refl, eq-eqb b.size b.size refl) refl

kept_one_differs : (olds news : List FlexBlock) (b : FlexBlock) (o : Option FlexBlock) → IsFound news b → block_of_anchor b.anchor olds ≡ o
    → AreChanges olds news (kept_by b o)
kept_one_differs olds news b o found is =
    elim (cases_Bool (was_so o b)) [
      | inl same ↦ rw same tt
      | inr differs ↦ rw differs (
        record {
          was = sym is;
          is = sym found;
          differs = λ (so : o ≡ Some b).
              false≢true (sym differs ∙ (ap (λ (x : Option FlexBlock). was_so x b) so ∙ same_as_itself b));
        },
        tt,
      )
    ]

kept_differ : (olds news bs : List FlexBlock) → AllByRecursion (IsFound news) bs → AreChanges olds news (flat_map (kept olds) bs)
kept_differ olds news [] found = tt
kept_differ olds news (b ∷ bs) found =
    changes_of_both olds news (kept olds b) (flat_map (kept olds) bs)
    (kept_one_differs olds news b (block_of_anchor b.anchor olds) found.0 refl) (kept_differ olds news bs found.1)

changes_listed : (olds news : List FlexBlock) → AreDistinct olds → AreDistinct news
    → AreFlexChanges (λ k. block_of_anchor k olds) (λ k. block_of_anchor k news) (listed olds news)
changes_listed olds news distinct distinct' = record {
  replay = λ a. replayed olds news a distinct';
  differ = All-from_recursion (IsFlexChange (λ k. block_of_anchor k olds) (λ k. block_of_anchor k news)) (listed olds news)
      (changes_of_both olds news (flat_map (gone news) olds) (flat_map (kept olds) news)
      (gone_differ olds news olds (all_found olds distinct)) (kept_differ olds news news (all_found news distinct')));
}

-- the anchors of the blocks that memory spells are different
none_placed : (a at : ℕ) (bs : List Block) → has_anchor bs a ≡ false → block_of_anchor a (blocks_with_places at bs) ≡ None
none_placed a at [] none = refl
none_placed a at (b ∷ bs) none =
    elim (cases_Bool (a == b.anchor)) [
      | inl here ↦ absurd (false≢true (sym (rw here at none)))
      | inr other ↦ elim (cases_Bool (b.anchor == a)) [
        | inl same ↦ absurd (false≢true (sym other ∙ eq-eqb a b.anchor (sym (eqb-true b.anchor a same))))
        | inr differs ↦ rw differs (none_placed a (at + bytes_taken_by b.size) bs (rw other at none))
      ]
    ]

distinct_placed : (mapped : ℕ → Bool) (at end place : ℕ) (bs : List Block) → AreAnchorWords mapped at end bs
    → AreDistinct (blocks_with_places place bs)
distinct_placed mapped at end place [] words = tt
distinct_placed mapped at end place (b ∷ bs) words = (
  none_placed b.anchor (place + bytes_taken_by b.size) bs words.0.1,
  distinct_placed mapped (at + bytes_taken_by b.size) end (place + bytes_taken_by b.size) bs words.1,
)

distinct_in : (m : AddressMap) (o : Option Extent) → IsFlexAt m o → AreDistinct (all_listed (flex_in m o))
distinct_in m None is = tt
distinct_in m (Some e) is = distinct_placed (is_mapped m) e.start e.end e.start (blocks_of m e) is.held.store.words

pub flex_listed : (m n : AddressMap) (f g : Flex) → IsFlex m f → IsFlex n g
    → AreFlexChanges (blocks_by_anchor m f) (blocks_by_anchor n g) (listed (all_listed (flex_in m f.extent)) (all_listed (flex_in n g.extent)))
flex_listed m n f g is is' = changes_listed (all_listed (flex_in m f.extent)) (all_listed (flex_in n g.extent))
    (distinct_in m f.extent is) (distinct_in n g.extent is')
