-- Lists of blocks as they are seen, by what memory holds: those before a change and those after it,
-- and blocks of which one word is seen otherwise.
use Rattle.std.proofs.Common.{◌≡◌, ℕ, Bool, ◌+◌, ◌-◌, ◌%◌, ◌<◌, ◌≤◌, true, false, nat_eq, zero, suc, List, [], ◌∷◌, ◌++◌, length, map, take, Option, None, Some, arith, refl, sym, ◌∙◌, ap, inl, inr, ◌⊎◌}
use Rattle.std.specs.Prelude.{if◌then◌else◌}
use Rattle.std.specs.List.{range_with_len}
use Rattle.std.proofs.lemmas.Bool.{cases_Bool, cases_lt, false_from_ne_true, false≢true, eq-eqb, le-leb, lt-leb, lt-ltb, le-ltb, or_left, or_right}
use Rattle.address_map.specs.Bytes.{bytes_between, in_range, word_start}
use Rattle.flex_store.specs.Blocks.{Block, contents, has_anchor, is_held_word, is_in_contents, bytes_taken_by, bytes_taken_by_all, whole_words}
use Rattle.flex_store.specs.Memory.{Holds, standing, blocks_text_of}
use Rattle.flex_store.specs.Shifts.{following, gone_to, Shifts}
use Rattle.flex_store.specs.State.{AreWhole}
use Rattle.flex_store.proofs.Laying.{contents_between}
use Rattle.flex_store.proofs.Reading.{IsSpelled, spelled}
use Rattle.flex_store.proofs.Words.{contents_within, held_word, IsHeld}
use Rattle.law_machine.specs.flex.Numbered.{Anchor, anchor_from, Fixed, Inside, list_seen, place_shown, SeenBlock, with_places, word_shown}
use Rattle.law_machine.specs.flex.Seen.{seen_bytes}
use Rattle.law_machine.proofs.FlexLemmas.Numbers.{from_further, from_none, further}
use Rattle.law_machine.proofs.FlexLemmas.Seeing.{block_seen, own_between}
use Rattle.os_heap.proofs.Apart.{range_parts}

pub list_append : (A : ℕ → Bool) (P : ℕ → Anchor) (h : ℕ) (xs ys : List Block) → list_seen A P h (xs ++ ys) ≡ list_seen A P h xs ++ list_seen A P (h + bytes_taken_by_all xs) ys
list_append A P h [] ys = let e : h ≡ h + 0 = omega arith in ap (λ (p : ℕ). list_seen A P p ys) e
list_append A P h (b ∷ xs) ys =
    let e : h + bytes_taken_by b.size + bytes_taken_by_all xs ≡ h + (bytes_taken_by b.size + bytes_taken_by_all xs) = omega arith in
    ap (λ (l : List SeenBlock). record { anchor = P b.anchor; bytes = seen_bytes A (h + 8) (contents b) } ∷ l)
    (list_append A P (h + bytes_taken_by b.size) xs ys ∙ ap (λ (p : ℕ). list_seen A P (h + bytes_taken_by b.size) xs ++ list_seen A P p ys) e)

pub list_length : (A : ℕ → Bool) (P : ℕ → Anchor) (h : ℕ) (xs : List Block) → length (list_seen A P h xs) ≡ length xs
list_length A P h [] = refl
list_length A P h (b ∷ xs) = ap suc (list_length A P (h + bytes_taken_by b.size) xs)

pub seen_length : (A : ℕ → Bool) (q : ℕ) (xs : List ℕ) → length (seen_bytes A q xs) ≡ length xs
seen_length A q [] = refl
seen_length A q (x ∷ xs) = ap suc (seen_length A (q + 1) xs)

-- a byte of memory, and blocks by it
abbrev pub byte_seen : (ℕ → Bool) → (ℕ → ℕ) → ℕ → Option ℕ
byte_seen A f a = if A a then None else Some (f a)

abbrev pub list_held : (ℕ → Option ℕ) → (ℕ → Anchor) → ℕ → List Block → List SeenBlock
list_held s P h [] = []
list_held s P h (b ∷ bs) = record { anchor = P b.anchor; bytes = map s (range_with_len (h + 8) b.size) } ∷ list_held s P (h + bytes_taken_by b.size) bs

between_seen : (A : ℕ → Bool) (f : ℕ → ℕ) (q n : ℕ) → seen_bytes A q (bytes_between f q n) ≡ map (byte_seen A f) (range_with_len q n)
between_seen A f q zero = refl
between_seen A f q (suc n) = ap (λ (l : List (Option ℕ)). byte_seen A f q ∷ l) (between_seen A f (q + 1) n)

pub held_text : (A : ℕ → Bool) (P : ℕ → Anchor) (f : ℕ → ℕ) (h : ℕ) (bs : List Block) → AreWhole bs → Holds f h (blocks_text_of bs)
    → list_seen A P h bs ≡ list_held (byte_seen A f) P h bs
held_text A P f h [] whole text = refl
held_text A P f h (b ∷ bs) whole text =
    let s : IsSpelled f h b bs = spelled f h b bs whole.0.0 text in
    let bytes : seen_bytes A (h + 8) (contents b) ≡ map (byte_seen A f) (range_with_len (h + 8) b.size) =
    ap (seen_bytes A (h + 8)) (own_between f h b whole.0.0 s.bytes) ∙ between_seen A f (h + 8) b.size in
    let rest = held_text A P f (h + bytes_taken_by b.size) bs whole.1 s.rest in
    λ i. record { anchor = P b.anchor; bytes = bytes i } ∷ rest i

pub held_standing : (A : ℕ → Bool) (P : ℕ → Anchor) (g : ℕ → ℕ) (h : ℕ) (bs : List Block)
    → list_seen A P h (standing g h bs) ≡ list_held (byte_seen A g) P h bs
held_standing A P g h [] = refl
held_standing A P g h (b ∷ bs) =
    let bytes : seen_bytes A (h + 8) (take b.size (bytes_between g (h + 8) (whole_words b.size))) ≡ map (byte_seen A g) (range_with_len (h + 8) b.size) =
    ap (seen_bytes A (h + 8)) (contents_between g (h + 8) b.size) ∙ between_seen A g (h + 8) b.size in
    let rest = held_standing A P g (h + bytes_taken_by b.size) bs in
    λ i. record { anchor = P b.anchor; bytes = bytes i } ∷ rest i

-- as bytes are seen that are the same
map_alike : (s t : ℕ → Option ℕ) (q n : ℕ) → ((a : ℕ) → q ≤ a → a < q + n → t a ≡ s a) → map t (range_with_len q n) ≡ map s (range_with_len q n)
map_alike s t q zero same = refl
map_alike s t q (suc n) same =
    let one : t q ≡ s q = same q (omega arith) (omega arith) in
    let rest = map_alike s t (q + 1) n (λ a low high. same a (omega (arith, low)) (omega (arith, high))) in
    λ i. one i ∷ rest i

pub held_alike : (s t : ℕ → Option ℕ) (P Q : ℕ → Anchor) (h : ℕ) (bs : List Block) → ((a : ℕ) → h ≤ a → a < h + bytes_taken_by_all bs → t a ≡ s a)
    → ((a : ℕ) → has_anchor bs a ≡ true → Q a ≡ P a) → list_held t Q h bs ≡ list_held s P h bs
held_alike s t P Q h [] same places = refl
held_alike s t P Q h (b ∷ bs) same places =
    let bytes = map_alike s t (h + 8) b.size (λ a low high. same a (omega (arith, low)) (omega (arith, high))) in
    let own : Q b.anchor ≡ P b.anchor = places b.anchor (or_left (nat_eq b.anchor b.anchor) (has_anchor bs b.anchor) (eq-eqb b.anchor b.anchor refl)) in
    let rest = held_alike s t P Q (h + bytes_taken_by b.size) bs (λ a low high. same a (omega (arith, low)) (omega (arith, high)))
    (λ a has. places a (or_right (nat_eq a b.anchor) (has_anchor bs a) has)) in
    λ i. record { anchor = own i; bytes = bytes i } ∷ rest i

-- A byte that is of an anchor before and after, or of none and the same.
pub byte_alike : (A B : ℕ → Bool) (f g : ℕ → ℕ) (a : ℕ) → B a ≡ A a → (B a ≡ false → g a ≡ f a) → byte_seen B g a ≡ byte_seen A f a
byte_alike A B f g a mark same = by (A a) (B a) (f a) (g a) mark same where
  by : (old new : Bool) (x y : ℕ) → new ≡ old → (new ≡ false → y ≡ x) → (if new then None else Some y) ≡ (if old then None else Some x)
  by true true x y mark same = refl
  by false false x y mark same = ap (λ (n : ℕ). let o : Option ℕ = Some n in o) (same refl)
  by true false x y mark same = absurd (false≢true mark)
  by false true x y mark same = absurd (false≢true (sym mark))

-- The blocks after a change, where they are then.
pub list_rest : (go : Anchor → Anchor) (ss : Shifts) (A B : ℕ → Bool) (P Q : ℕ → Anchor) (f f1 g : ℕ → ℕ) (h to : ℕ) (ys : List Block) → AreWhole ys
    → Holds f h (blocks_text_of ys) → Holds f1 to (blocks_text_of (following ss ys)) → ((i : ℕ) → i < bytes_taken_by_all ys → B (to + i) ≡ A (h + i))
    → ((i : ℕ) → i < bytes_taken_by_all ys → B (to + i) ≡ false → g (to + i) ≡ f1 (to + i)) → ((a : ℕ) → has_anchor ys a ≡ true → Q (gone_to ss a) ≡ go (P a))
    → list_seen B Q to (standing g to (following ss ys)) ≡ with_places go (list_seen A P h ys)
list_rest go ss A B P Q f f1 g h to [] whole old new marks same places = refl
list_rest go ss A B P Q f f1 g h to (b ∷ ys) whole old new marks same places =
    let moved : Block = record { anchor = gone_to ss b.anchor; size = b.size; bytes = b.bytes } in
    let s : IsSpelled f h b ys = spelled f h b ys whole.0.0 old in
    let s' : IsSpelled f1 to moved (following ss ys) = spelled f1 to moved (following ss ys) whole.0.0 new in
    let bytes = block_seen A B f f1 g h to b whole.0.0 s.bytes s'.bytes
    (λ i below.
    let one : to + 8 + i ≡ to + (8 + i) = omega arith in
    let two : h + 8 + i ≡ h + (8 + i) = omega arith in
    ap B one ∙ (marks (8 + i) (omega (arith, below)) ∙ ap A (sym two)))
    (λ i below none.
    let one : to + 8 + i ≡ to + (8 + i) = omega arith in
    ap g one ∙ (same (8 + i) (omega (arith, below)) (ap B (sym one) ∙ none) ∙ ap f1 (sym one))) in
    let own : Q (gone_to ss b.anchor) ≡ go (P b.anchor) = places b.anchor (or_left (nat_eq b.anchor b.anchor) (has_anchor ys b.anchor) (eq-eqb b.anchor b.anchor refl)) in
    let rest = list_rest go ss A B P Q f f1 g (h + bytes_taken_by b.size) (to + bytes_taken_by b.size) ys whole.1 s.rest s'.rest
    (λ i below.
    let one : to + bytes_taken_by b.size + i ≡ to + (bytes_taken_by b.size + i) = omega arith in
    let two : h + bytes_taken_by b.size + i ≡ h + (bytes_taken_by b.size + i) = omega arith in
    ap B one ∙ (marks (bytes_taken_by b.size + i) (omega (arith, below)) ∙ ap A (sym two)))
    (λ i below none.
    let one : to + bytes_taken_by b.size + i ≡ to + (bytes_taken_by b.size + i) = omega arith in
    ap g one ∙ (same (bytes_taken_by b.size + i) (omega (arith, below)) (ap B (sym one) ∙ none) ∙ ap f1 (sym one)))
    (λ a has. places a (or_right (nat_eq a b.anchor) (has_anchor ys a) has)) in
    λ i. record { anchor = own i; bytes = bytes i } ∷ rest i

-- A word of blocks that is seen otherwise.
pub out_of_word : (w a : ℕ) → (a < w) ⊎ (w + 4 ≤ a) → in_range w 4 a ≡ false
out_of_word w a out = false_from_ne_true (in_range w 4 a) (λ is.
    let p = range_parts w 4 a is in
    elim out [ inl low ↦ omega (arith, p.0, low) | inr high ↦ omega (arith, p.1, high) ])

pub in_word : (w a : ℕ) → word_start a ≡ w → in_range w 4 a ≡ true
in_word w a here = rw (le-leb w a (omega (arith, here)), lt-ltb a (w + 4) (omega (arith, here))) refl

pub word_in : (w a : ℕ) → w % 4 ≡ 0 → in_range w 4 a ≡ true → word_start a ≡ w
word_in w a aligned inside = let p = range_parts w 4 a inside in omega (arith, aligned, p.0, p.1)

pub shifted : (w offset at i : ℕ) → at + offset ≡ w + i → in_range offset 4 i ≡ in_range w 4 at
shifted w offset at i e = elim (cases_lt at w) [
  | inl low ↦ rw (lt-leb offset i (omega (arith, e, low)), lt-leb w at low) refl
  | inr up ↦ elim (cases_lt at (w + 4)) [
    | inl below ↦ rw (le-leb offset i (omega (arith, e, up)), lt-ltb i (offset + 4) (omega (arith, e, below)), le-leb w at up, lt-ltb at (w + 4) below) refl
    | inr past ↦ rw (le-leb offset i (omega (arith, e, up)), le-ltb i (offset + 4) (omega (arith, e, past)), le-leb w at up, le-ltb at (w + 4) past) refl
  ]
]

shown_word : (s t : ℕ → Option ℕ) (byte : Option ℕ) (w at n offset i : ℕ) → at + offset ≡ w + i
    → ((a : ℕ) → at ≤ a → a < at + n → t a ≡ (if in_range w 4 a then byte else s a))
    → map t (range_with_len at n) ≡ word_shown byte offset i (map s (range_with_len at n))
shown_word s t byte w at zero offset i e left = refl
shown_word s t byte w at (suc n) offset i e left =
    let rest = shown_word s t byte w (at + 1) n offset (i + 1) (omega (arith, e)) (λ a low high. left a (omega (arith, low)) (omega (arith, high))) in
    let here : t at ≡ (if in_range offset 4 i then byte else s at) =
    left at (omega arith) (omega arith) ∙ ap (λ (b : Bool). if b then byte else s at) (sym (shifted w offset at i e)) in
    λ k. here k ∷ rest k

shown_further : (byte : Option ℕ) (x : Anchor) (b : SeenBlock) (bs : List SeenBlock) → place_shown byte (further 1 x) (b ∷ bs) ≡ b ∷ place_shown byte x bs
shown_further byte (Fixed a) b bs = refl
shown_further byte (Inside n o) b bs = let e : 1 + n ≡ suc n = omega arith in ap (λ (k : ℕ). place_shown byte (Inside k o) (b ∷ bs)) e

-- where the word may be: in contents of one of the blocks, or elsewhere
abbrev pub IsWordPlace : ℕ → List Block → ℕ → Type 0
IsWordPlace h bs w = (is_in_contents h bs w ≡ true) ⊎ ((w + 4 ≤ h) ⊎ (h + bytes_taken_by_all bs ≤ w))

module _ (byte : Option ℕ) (w : ℕ) (aligned : w % 4 ≡ 0) (s t : ℕ → Option ℕ) (P Q : ℕ → Anchor) where
  beside : (h n : ℕ) → ((a : ℕ) → h ≤ a → a < h + n → t a ≡ (if in_range w 4 a then byte else s a)) → ((w + 4 ≤ h) ⊎ (h + n ≤ w))
      → (a : ℕ) → h ≤ a → a < h + n → t a ≡ s a
  beside h n left out a low high = left a low high ∙ ap (λ (q : Bool). if q then byte else s a)
      (out_of_word w a (elim out [ inl before ↦ inr (omega (arith, before, low)) | inr past ↦ inl (omega (arith, past, high)) ]))

  pub held_shown : (h : ℕ) (bs : List Block) → h % 4 ≡ 0 → ((a : ℕ) → h ≤ a → a < h + bytes_taken_by_all bs → t a ≡ (if in_range w 4 a then byte else s a))
      → ((a : ℕ) → has_anchor bs a ≡ true → Q a ≡ P a) → IsWordPlace h bs w → list_held t Q h bs ≡ place_shown byte (anchor_from 0 h bs w) (list_held s P h bs)
  held_shown h bs word left places (inr out) =
      held_alike s t P Q h bs (beside h (bytes_taken_by_all bs) left out) places
      ∙ ap (λ (x : Anchor). place_shown byte x (list_held s P h bs))
      (sym (from_none 0 h bs w (elim out [ inl before ↦ inl (omega (arith, before)) | inr past ↦ inr (omega (arith, past)) ])))
  held_shown h [] word left places (inl held) = absurd (false≢true held)
  held_shown h (b ∷ bs) word left places (inl held) =
      let own : Q b.anchor ≡ P b.anchor = places b.anchor (or_left (nat_eq b.anchor b.anchor) (has_anchor bs b.anchor) (eq-eqb b.anchor b.anchor refl)) in
      let later : (a : ℕ) → has_anchor bs a ≡ true → Q a ≡ P a = λ a has. places a (or_right (nat_eq a b.anchor) (has_anchor bs a) has) in
      let behind : (a : ℕ) → h + bytes_taken_by b.size ≤ a → a < h + bytes_taken_by b.size + bytes_taken_by_all bs → t a ≡ (if in_range w 4 a then byte else s a) =
      λ a low high. left a (omega (arith, low)) (omega (arith, high)) in
      elim (cases_Bool (is_held_word h b w)) [
        | inl here ↦
            let at = held_word h b w here in
            let bytes = shown_word s t byte w (h + 8) b.size (w - (h + 8)) 0 (omega (arith, at.0)) (λ a low high. left a (omega (arith, low)) (omega (arith, high))) in
            let rest = held_alike s t P Q (h + bytes_taken_by b.size) bs (beside (h + bytes_taken_by b.size) (bytes_taken_by_all bs) behind (inl (omega (arith, at.1)))) later in
            rw here (λ i. record { anchor = own i; bytes = bytes i } ∷ rest i)
        | inr other ↦
            let more : is_in_contents (h + bytes_taken_by b.size) bs w ≡ true = rw other at held in
            let in_rest : IsHeld (h + bytes_taken_by b.size) (bytes_taken_by_all bs) w = contents_within (h + bytes_taken_by b.size) bs w more in
            let bytes = map_alike s t (h + 8) b.size
            (beside (h + 8) b.size (λ a low high. left a (omega (arith, low)) (omega (arith, high))) (inr (omega (arith, in_rest.from)))) in
            let rest = held_shown (h + bytes_taken_by b.size) bs (omega (arith, word)) behind later (inl more) in
            let first : SeenBlock = record { anchor = P b.anchor; bytes = map s (range_with_len (h + 8) b.size) } in
            rw other ((λ i. record { anchor = own i; bytes = bytes i } ∷ rest i)
            ∙ (sym (shown_further byte (anchor_from 0 (h + bytes_taken_by b.size) bs w) first (list_held s P (h + bytes_taken_by b.size) bs))
            ∙ ap (λ (x : Anchor). place_shown byte x (first ∷ list_held s P (h + bytes_taken_by b.size) bs)) (sym (from_further 1 0 (h + bytes_taken_by b.size) bs w))))
      ]
