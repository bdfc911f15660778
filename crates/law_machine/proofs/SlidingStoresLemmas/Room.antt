-- The answers of flex calls, in the numbers of the store.
use Rattle.std.proofs.Common.{ℕ, Bool, true, nat_eq, ◌+◌, ◌-◌, ◌≡◌, ◌≤◌, ◌↔◌, ◌∙◌, List, [], ◌∷◌, ◌++◌, length, take, replicate, Option, Some, None, Ok, option_map, refl, sym, ap, subst, inl, inr, arith}
use Rattle.std.specs.Prelude.{nat_le, nat_lt}
use Rattle.std.proofs.Math.ListN.{length-append}
use Rattle.std.proofs.lemmas.Bool.{cases_Bool, le-leb, leb-true, ltb-false}
use Rattle.std.proofs.lemmas.List.{length-replicate, length-take}
use Rattle.address_map.specs.Bytes.{Bytes}
use Rattle.swi_dispatch_guest.specs.Ground.{flex_state, spelled_store}
use Rattle.flex_store.proofs.Filled.{whole_filled}
use Rattle.flex_store.proofs.LawLemmas.{contents_size, found_filled}
use Rattle.flex_store.proofs.Lists.{used-append}
use Rattle.flex_store.proofs.Room.{answers_are_room}
use Rattle.flex_store.proofs.Splicing.{spliced_length}
use Rattle.flex_store.specs.Blocks.{Block, FlexStore, contents, cut_of, find_block, block_holding, more_of, new_block, bytes_with_size, bytes_after_splice, bytes_taken_by, bytes_taken_by_all, whole_words, with_block}
use Rattle.flex_store.specs.Calls.{FlexState, mid_extended}
use Rattle.flex_store.specs.Laws.{contents_in}
use Rattle.flex_store.specs.Runs.{Alloc, Extend, FlexCall, IsFlexCallDone, MidExtend, blocks_after, blocks_changed}
use Rattle.flex_store.specs.declared.flex.Extent.{Extent}
use Rattle.law_machine.proofs.SlidingStoresLemmas.Spelled.{has_blocks}
use Rattle.law_machine.specs.sliding_stores.FlexStore.{IsFlexRangeSpelled, IsSpelledAt, spelled_blocks}
use Rattle.law_machine.specs.sliding_stores.Meaning.{AreStores, Stores, contents_of, store_in}
use Rattle.law_machine.specs.sliding_stores.Room.{AllocHasRoom, ExtendHasRoom, MidExtendHasRoom}

-- a test, where it holds just where something else does
answer_by : (answer : Bool) (a b c d : ℕ) → answer ≡ nat_le a b → (a ≤ b → c ≤ d) → (c ≤ d → a ≤ b) → (answer ≡ true) ↔ (c ≤ d)
answer_by answer a b c d is there back = (
  λ yes. there (leb-true a b (sym is ∙ yes)),
  λ fits. is ∙ le-leb a b (back fits),
)

block_is : (p q : Block) → (let one : Option Block = Some p in let two : Option Block = Some q in one ≡ two) → p ≡ q
block_is p q e = cc

turned : (a b c : ℕ) → a + b + c ≡ c + b + a
turned a b c = omega arith

onward : (a b c d e : ℕ) → b + c ≡ d + e → a + b + c ≡ a + d + e
onward a b c d e same = omega (arith, same)

-- The store's end after a block got another size, counted from its start, and the room that this
-- takes.
room_by : (start end total before after old new : ℕ) → before ≡ total → start + before ≤ end → 8 + old ≤ before → after + (8 + old) ≡ before + (8 + new)
    → start + after ≤ end → total - old + new ≤ end - start
room_by start end total before after old new same fits own sum low = omega (arith, same, fits, own, sum, low)

room_back : (start end total before after old new : ℕ) → before ≡ total → start + before ≤ end → 8 + old ≤ before → after + (8 + old) ≡ before + (8 + new)
    → total - old + new ≤ end - start → start + after ≤ end
room_back start end total before after old new same fits own sum low = omega (arith, same, fits, own, sum, low)

spliced_size : (old at cut more : ℕ) → cut ≤ at → at ≤ old → at - cut + more + (old - at) ≡ old - cut + more
spliced_size old at cut more inside within = omega (arith, inside, within)

-- the blocks after one of them got another size
used_put : (anchor : ℕ) (b new : Block) (bs : List Block) → find_block anchor bs ≡ Some b
    → bytes_taken_by_all (with_block anchor new bs) + bytes_taken_by b.size ≡ bytes_taken_by_all bs + bytes_taken_by new.size
used_put anchor b new [] found = absurd (let none : None ≡ Some b = found in cc)
used_put anchor b new (x ∷ bs) found = elim (cases_Bool (nat_eq x.anchor anchor)) [
  | inl here ↦
      let same : Some x ≡ Some b = rw here at found in
      let size : x.size ≡ b.size = ap (λ (y : Block). y.size) (block_is x b same) in
      rw here (ap (λ (n : ℕ). bytes_taken_by new.size + bytes_taken_by_all bs + bytes_taken_by n) (sym size) ∙ turned (bytes_taken_by new.size) (bytes_taken_by_all bs) (bytes_taken_by x.size))
  | inr other ↦
      let rest : bytes_taken_by_all (with_block anchor new bs) + bytes_taken_by b.size ≡ bytes_taken_by_all bs + bytes_taken_by new.size = used_put anchor b new bs (rw other at found) in
      rw other (onward (bytes_taken_by x.size) (bytes_taken_by_all (with_block anchor new bs)) (bytes_taken_by b.size) (bytes_taken_by_all bs) (bytes_taken_by new.size) rest)
]

-- what is known of the store
record IsRoomy (x : Stores) (e : Extent) : Type 0 where
  spelled : IsFlexRangeSpelled (store_in x) e
  flex : spelled_store (store_in x).bytes.at x.flex.extent ≡ Some (record { start = e.start; end = e.end; blocks = spelled_blocks (store_in x) e })

roomy : (x : Stores) (e : Extent) → AreStores x → x.flex.extent ≡ Some e → IsRoomy x e
roomy x e are is = record {
  spelled = subst (IsSpelledAt (store_in x)) is are.flex.is;
  flex = ap (λ (o : Option Extent). spelled_store (store_in x).bytes.at o) is;
}

reported : (x : Stores) (e : Extent) (call : FlexCall) (answer : Bool) (u : FlexState) → AreStores x → IsRoomy x e
    → IsFlexCallDone (flex_state (store_in x) x.flex) call answer u
    → answer ≡ nat_le (e.start + bytes_taken_by_all (blocks_after call (spelled_blocks (store_in x) e))) e.end
reported x e call answer u are room done =
    answers_are_room (flex_state (store_in x) x.flex) u (record { start = e.start; end = e.end; blocks = spelled_blocks (store_in x) e }) call answer
    (has_blocks (store_in x) x.flex.extent are.flex.is) room.flex room.spelled.fits done

pub alloc_room : AllocHasRoom
alloc_room x e places u anchor size answer are is done =
    let room : IsRoomy x e = roomy x e are is in
    let bs : List Block = spelled_blocks (store_in x) e in
    let all : bytes_taken_by_all (bs ++ new_block anchor size ∷ []) ≡ bytes_taken_by_all bs + (bytes_taken_by size + 0) = used-append bs (new_block anchor size ∷ []) in
    let total : bytes_taken_by_all bs ≡ e.used = room.spelled.used_is in
    let fits : e.start + bytes_taken_by_all bs ≤ e.end = room.spelled.fits in
    answer_by answer (e.start + bytes_taken_by_all (bs ++ new_block anchor size ∷ [])) e.end (e.used + 8 + whole_words size) (e.end - e.start) (reported x e (Alloc anchor size) answer u are room (places, done))
    (λ low. omega (arith, low, all, total, fits)) (λ low. omega (arith, low, all, total, fits))

-- the block of an anchor that has contents
record IsHeldBlock (anchor : ℕ) (bs : List Block) (old : List ℕ) : Type 0 where
  block : Block
  found : find_block anchor bs ≡ Some block
  holds : contents block ≡ old

record IsFoundBlock (x : Stores) (e : Extent) (anchor : ℕ) (old : List ℕ) : Type 0 where
  block : Block
  found : find_block anchor (spelled_blocks (store_in x) e) ≡ Some block
  holds : contents block ≡ old
  size : length old ≡ block.size
  least : bytes_taken_by block.size ≤ bytes_taken_by_all (spelled_blocks (store_in x) e)

list_is : (p q : List ℕ) → (let one : Option (List ℕ) = Some p in let two : Option (List ℕ) = Some q in one ≡ two) → p ≡ q
list_is p q e = cc

used_least : (anchor : ℕ) (b : Block) (bs : List Block) → find_block anchor bs ≡ Some b → bytes_taken_by b.size ≤ bytes_taken_by_all bs
used_least anchor b [] found = absurd (let none : None ≡ Some b = found in cc)
used_least anchor b (x ∷ bs) found = elim (cases_Bool (nat_eq x.anchor anchor)) [
  | inl here ↦
      let same : Some x ≡ Some b = rw here at found in
      subst (λ (y : Block). bytes_taken_by y.size ≤ bytes_taken_by x.size + bytes_taken_by_all bs) (block_is x b same) (omega arith)
  | inr other ↦ omega (arith, used_least anchor b bs (rw other at found))
]

some_contents : (anchor : ℕ) (bs : List Block) (old : List ℕ) (o : Option Block) → find_block anchor bs ≡ o → option_map contents o ≡ Some old
    → IsHeldBlock anchor bs old
some_contents anchor bs old None none is = absurd (let no : None ≡ Some old = is in cc)
some_contents anchor bs old (Some b) found is = record { block = b; found = found; holds = list_is (contents b) old is }

found_block : (x : Stores) (e : Extent) (anchor : ℕ) (old : List ℕ) → IsRoomy x e → contents_of x anchor ≡ Some old → IsFoundBlock x e anchor old
found_block x e anchor old room is =
    let bs : List Block = spelled_blocks (store_in x) e in
    let there : option_map contents (find_block anchor bs) ≡ Some old = sym (ap (λ (o : Option FlexStore). contents_in o anchor) room.flex) ∙ is in
    let held : IsHeldBlock anchor bs old = some_contents anchor bs old (find_block anchor bs) refl there in
    record {
      block = held.block;
      found = held.found;
      holds = held.holds;
      size = sym (ap length held.holds)
          ∙ contents_size held.block (found_filled anchor bs held.block (whole_filled bs room.spelled.whole) held.found);
      least = used_least anchor held.block bs held.found;
    }

resized_length : (c : List ℕ) (size : ℕ) → length (bytes_with_size c size) ≡ size
resized_length c size =
    omega (arith, length-append (take size c) (replicate {A = ℕ} (size - length c) 0), length-take size c, length-replicate {A = ℕ} (size - length c) 0)

-- the blocks after one of them got other contents
used_changed : (x : Stores) (e : Extent) (anchor : ℕ) (old new : List ℕ) → (f : IsFoundBlock x e anchor old)
    → bytes_taken_by_all (with_block anchor (block_holding f.block new) (spelled_blocks (store_in x) e)) + bytes_taken_by (length old)
    ≡ bytes_taken_by_all (spelled_blocks (store_in x) e) + bytes_taken_by (length new)
used_changed x e anchor old new f =
    ap (λ (n : ℕ). bytes_taken_by_all (with_block anchor (block_holding f.block new) (spelled_blocks (store_in x) e)) + bytes_taken_by n) f.size
    ∙ used_put anchor f.block (block_holding f.block new) (spelled_blocks (store_in x) e) f.found

changed_after : (anchor : ℕ) (change : List ℕ → List ℕ) (o : Option Block) (b : Block) (bs : List Block) → o ≡ Some b
    → blocks_changed anchor change o bs ≡ with_block anchor (block_holding b (change (contents b))) bs
changed_after anchor change o b bs is = ap (λ (p : Option Block). blocks_changed anchor change p bs) is

pub extend_room : ExtendHasRoom
extend_room x e u anchor size old answer are is has done =
    let room : IsRoomy x e = roomy x e are is in
    let f : IsFoundBlock x e anchor old = found_block x e anchor old room has in
    let bs : List Block = spelled_blocks (store_in x) e in
    let change : List ℕ → List ℕ = λ c. bytes_with_size c size in
    let after : blocks_after (Extend anchor size) bs ≡ with_block anchor (block_holding f.block (bytes_with_size old size)) bs =
    changed_after anchor change (find_block anchor bs) f.block bs f.found
    ∙ ap (λ (c : List ℕ). with_block anchor (block_holding f.block (bytes_with_size c size)) bs) f.holds in
    let sum = used_changed x e anchor old (bytes_with_size old size) f in
    let own : bytes_taken_by (length old) ≤ bytes_taken_by_all bs = subst (λ (n : ℕ). bytes_taken_by n ≤ bytes_taken_by_all bs) (sym f.size) f.least in
    let new : length (bytes_with_size old size) ≡ size = resized_length old size in
    let sum' : bytes_taken_by_all (with_block anchor (block_holding f.block (bytes_with_size old size)) bs) + bytes_taken_by (length old) ≡ bytes_taken_by_all bs + bytes_taken_by size =
    sum ∙ ap (λ (n : ℕ). bytes_taken_by_all bs + bytes_taken_by n) new in
    let same : bytes_taken_by_all (blocks_after (Extend anchor size) bs) ≡ bytes_taken_by_all (with_block anchor (block_holding f.block (bytes_with_size old size)) bs) = ap bytes_taken_by_all after in
    answer_by answer (e.start + bytes_taken_by_all (blocks_after (Extend anchor size) bs)) e.end (e.used - whole_words (length old) + whole_words size) (e.end - e.start)
    (reported x e (Extend anchor size) answer u are room done)
    (λ low. room_by e.start e.end e.used (bytes_taken_by_all bs) (bytes_taken_by_all (blocks_after (Extend anchor size) bs))
    (whole_words (length old)) (whole_words size) room.spelled.used_is room.spelled.fits own (ap (λ (n : ℕ). n + bytes_taken_by (length old)) same ∙ sum') low)
    (λ low. room_back e.start e.end e.used (bytes_taken_by_all bs) (bytes_taken_by_all (blocks_after (Extend anchor size) bs))
    (whole_words (length old)) (whole_words size) room.spelled.used_is room.spelled.fits own (ap (λ (n : ℕ). n + bytes_taken_by (length old)) same ∙ sum') low)

-- a middle extend stays inside its block
mid_found : (b : Bytes) (s : FlexStore) (v : FlexState) (anchor at by : ℕ) (answer : Bool) (x : Block) → find_block anchor s.blocks ≡ Some x
    → mid_extended (record { bytes = b; flex = Some s }) anchor at by ≡ Ok (v, answer) → (cut_of by ≤ at) × (at ≤ x.size)
unfolding mid_extended
mid_found b s v anchor at by answer x found is = elim (cases_Bool (nat_lt at (cut_of by))) [
  | inl past ↦ let is' = rw past at is in absurd (cc)
  | inr inside ↦ elim (cases_Bool (nat_lt x.size at)) [
    | inl over ↦ let is' = rw (inside, found, over) at is in absurd (cc)
    | inr within ↦ (ltb-false at (cut_of by) inside, ltb-false x.size at within)
  ]
]

pub mid_room : MidExtendHasRoom
mid_room x e u anchor at by old answer are is has done =
    let room : IsRoomy x e = roomy x e are is in
    let f : IsFoundBlock x e anchor old = found_block x e anchor old room has in
    let bs : List Block = spelled_blocks (store_in x) e in
    let s : FlexStore = record { start = e.start; end = e.end; blocks = bs } in
    let state : flex_state (store_in x) x.flex ≡ record { bytes = (store_in x).bytes; flex = Some s } =
    ap (λ (o : Option FlexStore). record { bytes = (store_in x).bytes; flex = o }) room.flex in
    let inside : (cut_of by ≤ at) × (at ≤ f.block.size) =
    mid_found (store_in x).bytes s u anchor at by answer f.block f.found (subst (λ (t : FlexState). mid_extended t anchor at by ≡ Ok (u, answer)) state done) in
    let change : List ℕ → List ℕ = λ c. bytes_after_splice c at (cut_of by) (more_of by) in
    let after : blocks_after (MidExtend anchor at by) bs ≡ with_block anchor (block_holding f.block (change old)) bs =
    changed_after anchor change (find_block anchor bs) f.block bs f.found
    ∙ ap (λ (c : List ℕ). with_block anchor (block_holding f.block (change c)) bs) f.holds in
    let own : bytes_taken_by (length old) ≤ bytes_taken_by_all bs = subst (λ (n : ℕ). bytes_taken_by n ≤ bytes_taken_by_all bs) (sym f.size) f.least in
    let new : length (change old) ≡ length old - cut_of by + more_of by =
    spliced_length old at (cut_of by) (more_of by) (omega (arith, f.size, inside.1)) ∙ spliced_size (length old) at (cut_of by) (more_of by) inside.0 (omega (arith, f.size, inside.1)) in
    let sum : bytes_taken_by_all (with_block anchor (block_holding f.block (change old)) bs) + bytes_taken_by (length old) ≡ bytes_taken_by_all bs + bytes_taken_by (length old - cut_of by + more_of by) =
    used_changed x e anchor old (change old) f ∙ ap (λ (n : ℕ). bytes_taken_by_all bs + bytes_taken_by n) new in
    let same : bytes_taken_by_all (blocks_after (MidExtend anchor at by) bs) ≡ bytes_taken_by_all (with_block anchor (block_holding f.block (change old)) bs) = ap bytes_taken_by_all after in
    answer_by answer (e.start + bytes_taken_by_all (blocks_after (MidExtend anchor at by) bs)) e.end
    (e.used - whole_words (length old) + whole_words (length old - cut_of by + more_of by)) (e.end - e.start) (reported x e (MidExtend anchor at by) answer u are room done)
    (λ low. room_by e.start e.end e.used (bytes_taken_by_all bs) (bytes_taken_by_all (blocks_after (MidExtend anchor at by) bs))
    (whole_words (length old)) (whole_words (length old - cut_of by + more_of by)) room.spelled.used_is room.spelled.fits own (ap (λ (n : ℕ). n + bytes_taken_by (length old)) same ∙ sum) low)
    (λ low. room_back e.start e.end e.used (bytes_taken_by_all bs) (bytes_taken_by_all (blocks_after (MidExtend anchor at by) bs))
    (whole_words (length old)) (whole_words (length old - cut_of by + more_of by)) room.spelled.used_is room.spelled.fits own (ap (λ (n : ℕ). n + bytes_taken_by (length old)) same ∙ sum) low)
