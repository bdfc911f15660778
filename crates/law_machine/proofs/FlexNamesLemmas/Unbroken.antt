-- A call that is done takes no anchor away, and a block comes at a new name.
use Rattle.std.proofs.Common.{◌≡◌, ℕ, Bool, suc, ◌+◌, ◌-◌, ◌%◌, ◌<◌, ◌≤◌, true, false, nat_eq, List, [], ◌∷◌, ◌++◌, length, Option, None, Some, Result, Ok, Err, ok_or, arith, refl, sym, ◌∙◌, ap, inl, inr, subst}
use Rattle.std.specs.Prelude.{nat_lt, if◌then◌else◌}
use Rattle.std.specs.Option.{option_and_then}
use Rattle.std.proofs.lemmas.Bool.{cases_Bool, cases_lt, eq-eqb, eqb-true, false≢true, ltb-false, or_left, or_parts, or_right}
use Rattle.profile.specs.Outcome.{bind}
use Rattle.profile.specs.ErrorNumber.{ErrorNumber}
use Rattle.profile.specs.ErrorNumber.TheVariants.{FlexBadAnchor, FlexBadRange, FlexHoldsAnchor, FlexNotReady}
use Rattle.address_map.specs.Bytes.{word_start}
use Rattle.address_map.specs.Records.{anchor_among}
use Rattle.address_map.proofs.Anchors.{none_among}
use Rattle.flex_store.specs.Blocks.{Block, contents, cut_of, find_block, FlexStore, has_anchor, is_held_word, more_of, bytes_taken_by, bytes_taken_by_all}
use Rattle.flex_store.specs.Calls.{breaks_anchor, flex_after_extend, FlexState, header_place_in, is_anchor_byte, mid_extended, flex_after_release, spliced_at}
use Rattle.flex_store.specs.Places.{IsSplit, Split}
use Rattle.flex_store.specs.State.{AreAnchorWords, AreWhole}
use Rattle.flex_store.proofs.LawLemmas.{contents_size}
use Rattle.flex_store.proofs.Lists.{split, whole_right}
use Rattle.flex_store.proofs.Words.{held_word}
use Rattle.law_machine.specs.flex.Laws.{IsSpelledState}
use Rattle.law_machine.specs.flex.Numbered.{Anchor, anchor_from, AreNumbered, Inside, list_seen, anchor_place_of, SeenBlock}
use Rattle.law_machine.specs.flex.Seen.{seen_bytes}
use Rattle.law_machine.proofs.FlexLemmas.Apart.{anchors_are_apart, fixed_inside, inside_number, inside_offset, place_same}
use Rattle.law_machine.proofs.FlexLemmas.Lists.{list_append, list_length, seen_length}
use Rattle.law_machine.proofs.FlexLemmas.Numbers.{AtWord, found, InBlock, IsFound}
use Rattle.law_machine.proofs.FlexLemmas.OneBlock.{found_has, same_block}
use Rattle.law_machine.specs.flex_names.Names.{shown_bytes_of, contents_named, In, Name, number_from, number_named, place_named}
use Rattle.law_machine.proofs.FlexNamesLemmas.Found.{place_not, some_same}
use Rattle.law_machine.proofs.FlexNamesLemmas.Moving.{bytes_own, found_at, named_by_place}

-- no block has its anchor where no anchor is
number_apart : (A : ℕ → Bool) (P : ℕ → Anchor) (y : Anchor) (n h : ℕ) (bs : List Block) → ((a : ℕ) → has_anchor bs a ≡ true → P a ≡ y → ⊥)
    → number_from n y (list_seen A P h bs) ≡ None
number_apart A P y n h [] apart = refl
number_apart A P y n h (b ∷ bs) apart =
    rw (place_not (P b.anchor) y (apart b.anchor (or_left (nat_eq b.anchor b.anchor) (has_anchor bs b.anchor) (eq-eqb b.anchor b.anchor refl))))
    (number_apart A P y (suc n) (h + bytes_taken_by b.size) bs (λ a has. apart a (or_right (nat_eq a b.anchor) (has_anchor bs a) has)))

-- the address of a place in a block
found_later : (n m o end a : ℕ) (x : Anchor) → m < n → IsFound n end a x → x ≡ Inside m o → ⊥
found_later n m o end a x low (AtWord is) e = fixed_inside a m o (sym is ∙ e)
found_later n m o end a x low (InBlock k p is from to) e = let same : k ≡ m = inside_number k p m o (sym is ∙ e) in omega (arith, same, low, from)

in_place : (n h : ℕ) (front : List Block) (b : Block) (after : List Block) (a m o : ℕ) → m ≡ n + length front → anchor_from n h (front ++ b ∷ after) a ≡ Inside m o
    → (a ≡ h + bytes_taken_by_all front + 8 + o) × (o + 4 ≤ b.size)
in_place n h [] b after a m o number e = elim (cases_Bool (is_held_word h b a)) [
  | inl here ↦
      let at = held_word h b a here in
      let same : a - (h + 8) ≡ o = inside_offset n (a - (h + 8)) m o (rw here at e) in
      (omega (arith, at.0, same), omega (arith, at.0, at.1, same))
  | inr other ↦ absurd (found_later (suc n) m o (suc n + length after) a (anchor_from (suc n) (h + bytes_taken_by b.size) after a) (omega (arith, number))
      (found (suc n) (h + bytes_taken_by b.size) after a) (rw other at e))
]
in_place n h (c ∷ front) b after a m o number e = elim (cases_Bool (is_held_word h c a)) [
  | inl here ↦ let same : n ≡ m = inside_number n (a - (h + 8)) m o (rw here at e) in absurd (omega (arith, number, same))
  | inr other ↦
      let r = in_place (suc n) (h + bytes_taken_by c.size) front b after a m o (omega (arith, number)) (rw other at e) in
      (omega (arith, r.0), r.1)
]

word_aligned : (mapped : ℕ → Bool) (h end : ℕ) (bs : List Block) (a : ℕ) → AreAnchorWords mapped h end bs → has_anchor bs a ≡ true → a % 4 ≡ 0
word_aligned mapped h end [] a words has = absurd (false≢true has)
word_aligned mapped h end (b ∷ bs) a words has = elim (cases_Bool (nat_eq a b.anchor)) [
  | inl here ↦ let e : a ≡ b.anchor = eqb-true a b.anchor here in omega (arith, e, words.0.0.aligned)
  | inr other ↦ word_aligned mapped (h + bytes_taken_by b.size) end bs a words.1 (rw other at has)
]

abbrev pub seen : FlexStore → List SeenBlock
seen s = list_seen (is_anchor_byte s) (anchor_place_of s) s.start s.blocks

module _ (t : FlexState) (s : FlexStore) (anchor : ℕ) (b : Block) (name : Name) (sp : IsSpelledState t s) (has : find_block anchor s.blocks ≡ Some b)
    (named : place_named (seen s) name ≡ Some (anchor_place_of s anchor)) where
  at_split : (front after : List Block) → IsSplit anchor s.blocks front b after → number_named (seen s) name ≡ Some (length front)
  at_split front after p =
      let A : ℕ → Bool = is_anchor_byte s in
      let own : SeenBlock = record { anchor = anchor_place_of s b.anchor; bytes = seen_bytes A (s.start + bytes_taken_by_all front + 8) (contents b) } in
      let rest : List SeenBlock = list_seen A (anchor_place_of s) (s.start + bytes_taken_by_all front + bytes_taken_by b.size) after in
      let list : seen s ≡ list_seen A (anchor_place_of s) s.start front ++ own ∷ rest =
      ap (list_seen A (anchor_place_of s) s.start) p.list ∙ list_append A (anchor_place_of s) s.start front (b ∷ after) in
      let numbered : AreNumbered 0 (list_seen A (anchor_place_of s) s.start front ++ own ∷ rest) = subst (AreNumbered 0) list (anchors_are_apart t s sp) in
      let e : 0 + length (list_seen A (anchor_place_of s) s.start front) ≡ length front = omega (arith, list_length A (anchor_place_of s) s.start front) in
      named_by_place (seen s) name (anchor_place_of s anchor) named
      ∙ (ap (λ (w : ℕ). number_from 0 (anchor_place_of s w) (seen s)) (sym p.anchor)
      ∙ (ap (number_from 0 (anchor_place_of s b.anchor)) list
      ∙ (found_at 0 (list_seen A (anchor_place_of s) s.start front) own rest numbered ∙ ap (λ (n : ℕ). let o : Option ℕ = Some n in o) e)))

  none_by : (front after : List Block) → IsSplit anchor s.blocks front b after → (o : ℕ)
      → (o + 4 ≤ b.size → is_anchor_byte s (header_place_in s anchor + 8 + o) ≡ false) → number_named (seen s) (In name o) ≡ None
  none_by front after p o none =
      ap (option_and_then (λ n. number_from 0 (Inside n o) (seen s))) (at_split front after p)
      ∙ number_apart (is_anchor_byte s) (anchor_place_of s) (Inside (length front) o) 0 s.start s.blocks apart where
        apart : (a : ℕ) → has_anchor s.blocks a ≡ true → anchor_place_of s a ≡ Inside (length front) o → ⊥
        apart a there e =
            let r = in_place 0 s.start front b after a (length front) o (omega arith) (ap (λ (l : List Block). anchor_from 0 s.start l a) (sym p.list) ∙ e) in
            let header : header_place_in s anchor ≡ s.start + bytes_taken_by_all front = ap (λ (l : List Block). s.start + bytes_taken_by_all l) p.front_is in
            let same : header_place_in s anchor + 8 + o ≡ a = omega (arith, header, r.0) in
            let aligned : a % 4 ≡ 0 = word_aligned t.bytes.mapped s.start s.end s.blocks a sp.words there in
            let start : word_start a ≡ a = omega (arith, aligned) in
            false≢true (sym (none r.1) ∙ (ap (is_anchor_byte s) same ∙ (ap (has_anchor s.blocks) start ∙ there)))

  none_at : (o : ℕ) → (o + 4 ≤ b.size → is_anchor_byte s (header_place_in s anchor + 8 + o) ≡ false) → number_named (seen s) (In name o) ≡ None
  none_at o none =
      let p : Split anchor s.blocks = split anchor s.blocks (found_has anchor s.blocks b has) in
      let is : IsSplit anchor s.blocks p.before b p.after =
      subst (λ (x : Block). IsSplit anchor s.blocks p.before x p.after) (same_block p.block b (sym p.is.found ∙ has)) p.is in
      none_by p.before p.after is o none

  -- what the block shows has the block's size
  size_by : (front after : List Block) → IsSplit anchor s.blocks front b after → (l : List (Option ℕ)) → contents_named (seen s) name ≡ Some l → length l ≡ b.size
  size_by front after p l is =
      let A : ℕ → Bool = is_anchor_byte s in
      let shows : List (Option ℕ) = seen_bytes A (s.start + bytes_taken_by_all front + 8) (contents b) in
      let own : SeenBlock = record { anchor = anchor_place_of s b.anchor; bytes = shows } in
      let first : List SeenBlock = list_seen A (anchor_place_of s) s.start front in
      let rest : List SeenBlock = list_seen A (anchor_place_of s) (s.start + bytes_taken_by_all front + bytes_taken_by b.size) after in
      let list : seen s ≡ first ++ own ∷ rest =
      ap (list_seen A (anchor_place_of s) s.start) p.list ∙ list_append A (anchor_place_of s) s.start front (b ∷ after) in
      let there : shown_bytes_of (length front) (seen s) ≡ Some shows =
      ap (λ (n : ℕ). shown_bytes_of n (seen s)) (sym (list_length A (anchor_place_of s) s.start front)) ∙ (ap (shown_bytes_of (length first)) list ∙ bytes_own first own rest) in
      let same : shows ≡ l =
      some_same shows l (sym there ∙ (sym (ap (option_and_then (λ n. shown_bytes_of n (seen s))) (at_split front after p)) ∙ is)) in
      let whole = whole_right front (b ∷ after) (subst AreWhole p.list sp.whole) in
      ap (λ (x : List (Option ℕ)). length x) (sym same) ∙ (seen_length A (s.start + bytes_taken_by_all front + 8) (contents b) ∙ contents_size b whole.0.0)

  -- by what a call tests
  none_among_bytes : (from len o : ℕ) → anchor_among (is_anchor_byte s) (header_place_in s anchor + 8 + from) len ≡ false → from ≤ o → o < from + len
      → number_named (seen s) (In name o) ≡ None
  none_among_bytes from len o clear low high = none_at o (λ fits.
      none_among (is_anchor_byte s) (header_place_in s anchor + 8 + from) len (header_place_in s anchor + 8 + o) clear (omega (arith, low)) (omega (arith, high)))

-- no anchor lies after what a block shows
pub none_behind : (t : FlexState) (s : FlexStore) (anchor : ℕ) (name : Name) → IsSpelledState t s → place_named (seen s) name ≡ Some (anchor_place_of s anchor)
    → has_anchor s.blocks anchor ≡ true → (l : List (Option ℕ)) → contents_named (seen s) name ≡ Some l → (o : ℕ) → length l ≤ o
    → number_named (seen s) (In name o) ≡ None
none_behind t s anchor name sp named has l is o past =
    let p : Split anchor s.blocks = split anchor s.blocks has in
    let size : length l ≡ p.block.size = size_by t s anchor p.block name sp p.is.found named p.before p.after p.is l is in
    none_at t s anchor p.block name sp p.is.found named o (λ fits. absurd (omega (arith, fits, size, past)))

-- what calls test
refused : {A : Type 0} (e : ErrorNumber) (y : A) → (let r : Result A ErrorNumber = Err e in r ≡ Ok y) → ⊥
refused e y same = cc

unbroken_by : {A : Type 0} (broken : Bool) (q u : A) → (let r : Result A ErrorNumber = if broken then Err FlexHoldsAnchor else Ok q in r ≡ Ok u) → broken ≡ false
unbroken_by true q u is = absurd (refused FlexHoldsAnchor u is)
unbroken_by false q u is = refl

cut_clear : (s : FlexStore) (t u : FlexState) (anchor : ℕ) (b : Block) (place cut more : ℕ) → cut ≤ place → spliced_at t s anchor b place cut more ≡ Ok (u, true)
    → anchor_among (is_anchor_byte s) (header_place_in s anchor + 8 + (place - cut)) cut ≡ false
cut_clear s t u anchor b place cut more fits done =
    let broken = unbroken_by (breaks_anchor (is_anchor_byte s) (header_place_in s anchor + 8) b.size place cut more) _ (u, true) done in
    let e : header_place_in s anchor + 8 + place - cut ≡ header_place_in s anchor + 8 + (place - cut) = omega (arith, fits) in
    ap (λ (a : ℕ). anchor_among (is_anchor_byte s) a cut) (sym e)
    ∙ (or_parts (anchor_among (is_anchor_byte s) (header_place_in s anchor + 8 + place - cut) cut) _ broken).0

abbrev pub IsNamed : FlexStore → Name → ℕ → Type 0
IsNamed s name anchor = place_named (seen s) name ≡ Some (anchor_place_of s anchor)

release_by : (t u : FlexState) (s : FlexStore) (anchor : ℕ) (name : Name) (f : Option Block) → find_block anchor s.blocks ≡ f → t.flex ≡ Some s → IsSpelledState t s
    → IsNamed s name anchor → flex_after_release t anchor ≡ Ok (u, tt) → (o : ℕ) → number_named (seen s) (In name o) ≡ None
unfolding flex_after_release
release_by t u s anchor name None none own sp named done o = let done' = rw (own, none) at done in absurd (refused FlexBadAnchor (u, tt) done')
release_by t u s anchor name (Some b) has own sp named done o =
    let clear : anchor_among (is_anchor_byte s) (header_place_in s anchor + 8) b.size ≡ false =
    unbroken_by (anchor_among (is_anchor_byte s) (header_place_in s anchor + 8) b.size) _ (u, tt) (rw (own, has) at done) in
    none_at t s anchor b name sp has named o (λ fits.
    none_among (is_anchor_byte s) (header_place_in s anchor + 8) b.size (header_place_in s anchor + 8 + o) clear (omega arith) (omega (arith, fits)))

pub release_unbroken : (t u : FlexState) (s : FlexStore) (anchor : ℕ) (name : Name) → t.flex ≡ Some s → IsSpelledState t s → IsNamed s name anchor
    → flex_after_release t anchor ≡ Ok (u, tt) → (o : ℕ) → number_named (seen s) (In name o) ≡ None
release_unbroken t u s anchor name own sp named done o = release_by t u s anchor name (find_block anchor s.blocks) refl own sp named done o

-- a block that is found is changed, or nothing is
abbrev changed : FlexState → FlexStore → ℕ → Block → ℕ → ℕ → ℕ → Bool → Result (FlexState × Bool) ErrorNumber
changed t s anchor b place cut more same = if same then Ok (t, true) else spliced_at t s anchor b place cut more

module _ (t u : FlexState) (s : FlexStore) (anchor : ℕ) (name : Name) (sp : IsSpelledState t s) (named : IsNamed s name anchor) where
  changed_clear : (b : Block) (place cut more : ℕ) (same : Bool) → find_block anchor s.blocks ≡ Some b → cut ≤ place → (same ≡ true → cut ≡ 0)
      → changed t s anchor b place cut more same ≡ Ok (u, true) → (o : ℕ) → place - cut ≤ o → o < place → number_named (seen s) (In name o) ≡ None
  changed_clear b place cut more true has fits none done o low high = absurd (let e : cut ≡ 0 = none refl in omega (arith, e, low, high))
  changed_clear b place cut more false has fits none done o low high =
      none_among_bytes t s anchor b name sp has named (place - cut) cut o (cut_clear s t u anchor b place cut more fits done) low (omega (arith, high, fits))

  extend_found : (size : ℕ) (f : Option Block) → find_block anchor s.blocks ≡ f
      → bind (ok_or f FlexBadAnchor) (λ b. changed t s anchor b b.size (b.size - size) (size - b.size) (nat_eq size b.size)) ≡ Ok (u, true)
      → (o : ℕ) → size ≤ o → number_named (seen s) (In name o) ≡ None
  extend_found size None none done o low = absurd (refused FlexBadAnchor (u, true) done)
  extend_found size (Some b) has done o low = elim (cases_lt o b.size) [
    | inl within ↦ changed_clear b b.size (b.size - size) (size - b.size) (nat_eq size b.size) has (omega arith)
        (λ same. let e : size ≡ b.size = eqb-true size b.size same in omega (arith, e)) done o (omega (arith, low, within)) within
    | inr past ↦ none_at t s anchor b name sp has named o (λ fits. absurd (omega (arith, fits, past)))
  ]

  mid_by : (b : Block) (at by : ℕ) (past : Bool) → find_block anchor s.blocks ≡ Some b → cut_of by ≤ at
      → (let r : Result (FlexState × Bool) ErrorNumber = if past then Err FlexBadRange else changed t s anchor b at (cut_of by) (more_of by) (nat_eq by 0) in r ≡ Ok (u, true))
      → (o : ℕ) → at - cut_of by ≤ o → o < at → number_named (seen s) (In name o) ≡ None
  mid_by b at by true has fits done = absurd (refused FlexBadRange (u, true) done)
  mid_by b at by false has fits done = changed_clear b at (cut_of by) (more_of by) (nat_eq by 0) has fits (λ none. ap cut_of (eqb-true by 0 none)) done

  mid_found : (at by : ℕ) (f : Option Block) → find_block anchor s.blocks ≡ f → cut_of by ≤ at
      → bind (ok_or f FlexBadAnchor) (λ b. if nat_lt b.size at then Err FlexBadRange else changed t s anchor b at (cut_of by) (more_of by) (nat_eq by 0)) ≡ Ok (u, true)
      → (o : ℕ) → at - cut_of by ≤ o → o < at → number_named (seen s) (In name o) ≡ None
  mid_found at by None none fits done = absurd (refused FlexBadAnchor (u, true) done)
  mid_found at by (Some b) has fits done = mid_by b at by (nat_lt b.size at) has fits done

  mid_range : (at by : ℕ) (before : Bool) → nat_lt at (cut_of by) ≡ before
      → (let r : Result (FlexState × Bool) ErrorNumber = if before then Err FlexBadRange else
      bind (ok_or (find_block anchor s.blocks) FlexBadAnchor) (λ b. if nat_lt b.size at then Err FlexBadRange else changed t s anchor b at (cut_of by) (more_of by) (nat_eq by 0)) in r ≡ Ok (u, true))
      → (o : ℕ) → at - cut_of by ≤ o → o < at → number_named (seen s) (In name o) ≡ None
  mid_range at by true before done = absurd (refused FlexBadRange (u, true) done)
  mid_range at by false before done = mid_found at by (find_block anchor s.blocks) refl (ltb-false at (cut_of by) before) done

pub extend_unbroken : (t u : FlexState) (s : FlexStore) (anchor size : ℕ) (name : Name) → t.flex ≡ Some s → IsSpelledState t s → IsNamed s name anchor
    → flex_after_extend t anchor size ≡ Ok (u, true) → (o : ℕ) → size ≤ o → number_named (seen s) (In name o) ≡ None
unfolding flex_after_extend
extend_unbroken t u s anchor size name own sp named done =
    let next : FlexStore → Result (FlexState × Bool) ErrorNumber = λ x. bind (ok_or (find_block anchor x.blocks) FlexBadAnchor) (λ b. changed t x anchor b b.size (b.size - size) (size - b.size) (nat_eq size b.size)) in
    extend_found t u s anchor name sp named size (find_block anchor s.blocks) refl (subst (λ (f : Option FlexStore). bind (ok_or f FlexNotReady) next ≡ Ok (u, true)) own done)

pub mid_unbroken : (t u : FlexState) (s : FlexStore) (anchor at by : ℕ) (name : Name) → t.flex ≡ Some s → IsSpelledState t s → IsNamed s name anchor
    → mid_extended t anchor at by ≡ Ok (u, true) → (o : ℕ) → at - cut_of by ≤ o → o < at → number_named (seen s) (In name o) ≡ None
unfolding mid_extended
mid_unbroken t u s anchor at by name own sp named done =
    let next : FlexStore → Result (FlexState × Bool) ErrorNumber = λ x. if nat_lt at (cut_of by) then Err FlexBadRange else
    bind (ok_or (find_block anchor x.blocks) FlexBadAnchor) (λ b. if nat_lt b.size at then Err FlexBadRange else changed t x anchor b at (cut_of by) (more_of by) (nat_eq by 0)) in
    mid_range t u s anchor name sp named at by (nat_lt at (cut_of by)) refl (subst (λ (f : Option FlexStore). bind (ok_or f FlexNotReady) next ≡ Ok (u, true)) own done)

-- a word that is no anchor has a name that no block has
pub alloc_unbroken : (s : FlexStore) (anchor : ℕ) (name : Name) → IsNamed s name anchor → has_anchor s.blocks anchor ≡ false → number_named (seen s) name ≡ None
alloc_unbroken s anchor name named none =
    named_by_place (seen s) name (anchor_place_of s anchor) named
    ∙ number_apart (is_anchor_byte s) (anchor_place_of s) (anchor_place_of s anchor) 0 s.start s.blocks
    (λ a has same. false≢true (sym none ∙ (ap (has_anchor s.blocks) (sym (place_same 0 s.start s.blocks a anchor same)) ∙ has)))
