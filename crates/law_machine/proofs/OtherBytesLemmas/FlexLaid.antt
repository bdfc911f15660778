-- What a flex call writes where blocks are laid out anew.
use Rattle.std.proofs.Common.{ℕ, ◌+◌, ◌-◌, ◌%◌, ◌≡◌, ◌≤◌, ◌<◌, ◌∙◌, ◌⊎◌, nat_eq, Bool, true, false, List, [], ◌∷◌, ◌++◌, length, Some, refl, sym, ap, subst, inl, inr, arith}
use Rattle.std.specs.Prelude.{if◌then◌else◌, nat_le}
use Rattle.std.proofs.lemmas.Bool.{cases_Bool, eq-eqb, or_left, or_right}
use Rattle.std.proofs.Math.ListN.{length-append}
use Rattle.address_map.proofs.Stores.{in_range-cases}
use Rattle.address_map.specs.Bytes.{in_range, with_bytes_at, with_word_at, word_start}
use Rattle.os_heap.proofs.Apart.{range_parts}
use Rattle.swi_dispatch_guest.specs.Ground.{anchors_in}
use Rattle.flex_store.proofs.Filled.{AreFilled}
use Rattle.flex_store.proofs.Holding.{bytes_beside}
use Rattle.flex_store.proofs.LawLemmas.{Answers, same_answer}
use Rattle.flex_store.proofs.Lists.{anchor-append, used-append}
use Rattle.flex_store.proofs.Standing.{standing_has, standing_used}
use Rattle.flex_store.specs.Blocks.{Block, FlexStore, behind_of, bytes_taken_by, bytes_taken_by_all, has_anchor, whole_words}
use Rattle.flex_store.specs.Calls.{FlexState, end_in, flex_if_room, with_blocks}
use Rattle.flex_store.specs.Memory.{blocks_text_of, laid_out, standing, with_anchors}
use Rattle.flex_store.specs.Shifts.{Shifts, following, gone_to}
use Rattle.law_machine.proofs.HeapAloneLemmas.Storing.{word_past}
use Rattle.law_machine.proofs.HeapFrameLemmas.FlexBesides.{HasAligned}

-- the byte is of the word of one of these blocks' anchors
record IsOfAnchor (bs : List Block) (a : ℕ) : Type 0 where
  anchor : ℕ
  has : has_anchor bs anchor ≡ true
  byte : in_range anchor 4 a ≡ true

anchors_written : (at : ℕ) (bs : List Block) (f : ℕ → ℕ) (a : ℕ) → (with_anchors at bs f a ≡ f a) ⊎ IsOfAnchor bs a
anchors_written at [] f a = inl refl
anchors_written at (b ∷ bs) f a = elim (anchors_written (at + bytes_taken_by b.size) bs (with_word_at f b.anchor (at + 8)) a) [
  | inr later ↦ inr (record { anchor = later.anchor; has = or_right (nat_eq later.anchor b.anchor) (has_anchor bs later.anchor) later.has; byte = later.byte })
  | inl kept ↦ elim (cases_Bool (in_range b.anchor 4 a)) [
    | inl own ↦ inr (record {
      anchor = b.anchor;
      has = or_left (nat_eq b.anchor b.anchor) (has_anchor bs b.anchor) (eq-eqb b.anchor b.anchor refl);
      byte = own;
    })
    | inr out ↦ inl (kept ∙ word_past f b.anchor (at + 8) a out)
  ]
]

-- blocks that take up no more bytes than their sizes say
abbrev pub Fits : List Block → Type 0
Fits bs = length (blocks_text_of bs) ≤ bytes_taken_by_all bs

pub first_fits : (b : Block) (bs : List Block) → length b.bytes ≡ whole_words b.size → Fits bs → Fits (b ∷ bs)
first_fits b bs size fits = omega (arith, length-append b.bytes (blocks_text_of bs), size, fits)

pub none_fit : Fits []
none_fit = omega arith

-- those after a block, wherever their anchors went
all_follow : (shifts : Shifts) (bs : List Block) → AreFilled bs → Fits (following shifts bs)
all_follow shifts [] filled = none_fit
all_follow shifts (b ∷ bs) filled =
    first_fits (record { anchor = gone_to shifts b.anchor; size = b.size; bytes = b.bytes }) (following shifts bs) filled.0 (all_follow shifts bs filled.1)

pub rest_follows : (shifts : Shifts) (anchor : ℕ) (bs : List Block) → AreFilled bs → Fits (following shifts (behind_of anchor bs))
rest_follows shifts anchor [] filled = none_fit
rest_follows shifts anchor (b ∷ bs) filled = elim (cases_Bool (nat_eq b.anchor anchor)) [
  | inl here ↦ rw here (all_follow shifts bs filled.1)
  | inr other ↦ rw other (rest_follows shifts anchor bs filled.1)
]

-- A byte stays, or it is of an anchor then, or it lies from some place on, before the end of the
-- last block then.
pub record IsLaidFrom (v : FlexState) (from a : ℕ) : Type 0 where
  pub new : FlexStore
  pub left : v.flex ≡ Some new
  pub byte : in_range from (end_in new - from) a ≡ true

abbrev pub Lays : (ℕ → ℕ) → FlexState → ℕ → ℕ → Type 0
Lays bytes v from a = (v.bytes.at a ≡ bytes a) ⊎ ((anchors_in v.flex a ≡ true) ⊎ IsLaidFrom v from a)

module _ (t : FlexState) (s : FlexStore) (olds news : List Block) (a : ℕ) (fits : Fits news) where
  abbrev after : FlexState
  after = with_blocks t s olds news

  abbrev from : ℕ
  from = s.start + bytes_taken_by_all olds

  abbrev bytes_then : ℕ → ℕ
  bytes_then = laid_out from news t.bytes.at

  abbrev made : FlexStore
  made = record { start = s.start; end = s.end; blocks = standing bytes_then s.start (olds ++ news) }

  -- where the last block ends then
  made_end : end_in made ≡ from + bytes_taken_by_all news
  made_end =
      let size : bytes_taken_by_all (standing bytes_then s.start (olds ++ news)) ≡ bytes_taken_by_all (olds ++ news) =
      standing_used bytes_then s.start (olds ++ news) in
      omega (arith, size, used-append olds news)

  -- an anchor of theirs is one of the store's then
  is_anchor : HasAligned after.flex → IsOfAnchor news a → anchors_in after.flex a ≡ true
  is_anchor aligned one =
      let has : has_anchor made.blocks one.anchor ≡ true = standing_has bytes_then s.start (olds ++ news) one.anchor
      ∙ (anchor-append olds news one.anchor ∙ or_right (has_anchor olds one.anchor) (has_anchor news one.anchor) one.has) in
      let even : one.anchor % 4 ≡ 0 = aligned one.anchor has in
      let parts : (one.anchor ≤ a) × (a < one.anchor + 4) = range_parts one.anchor 4 a one.byte in
      let word : word_start a ≡ one.anchor = omega (arith, parts.0, parts.1, even) in
      ap (has_anchor made.blocks) word ∙ has

  out_of : (a < from) ⊎ (from + (end_in made - from) ≤ a) → (a < from) ⊎ (from + bytes_taken_by_all news ≤ a)
  out_of (inl low) = inl low
  out_of (inr high) = inr (omega (arith, high, made_end))

  beside_text : (a < from) ⊎ (from + bytes_taken_by_all news ≤ a) → with_bytes_at t.bytes.at from (blocks_text_of news) a ≡ t.bytes.at a
  beside_text out = bytes_beside t.bytes.at from (blocks_text_of news) a (elim out [ inl low ↦ inl low | inr high ↦ inr (omega (arith, high, fits)) ])

  pub laid_written : HasAligned after.flex → Lays t.bytes.at after from a
  unfolding laid_out
  laid_written aligned = elim (anchors_written from news (with_bytes_at t.bytes.at from (blocks_text_of news)) a) [
    | inr one ↦ inr (inl (is_anchor aligned one))
    | inl kept ↦ elim (in_range-cases from (end_in made - from) a) [
      | inl r ↦ inr (inr (record { new = made; left = refl; byte = r.0 }))
      | inr r ↦ inl (kept ∙ beside_text (out_of r.1))
    ]
  ]

  fit_lays : (room : Bool) (q : FlexState × Bool) → (if room then (after, true) else (t, false)) ≡ q → HasAligned q.0.flex → Lays t.bytes.at q.0 from a
  fit_lays true q is aligned =
      let same : after ≡ q.0 = ap (λ (r : FlexState × Bool). r.0) is in
      subst (λ (w : FlexState). Lays t.bytes.at w from a) same (laid_written (subst (λ (w : FlexState). HasAligned w.flex) (sym same) aligned))
  fit_lays false q is aligned = inl (sym (ap (λ (r : FlexState × Bool). r.0.bytes.at a) is))

  pub room_lays : (v : FlexState) (answer : Bool) → (let given : FlexState × Bool = (v, answer) in Answers (flex_if_room t s olds news) given) → HasAligned v.flex
      → Lays t.bytes.at v from a
  room_lays v answer done aligned =
      let given : FlexState × Bool = (v, answer) in
      fit_lays (nat_le (s.start + bytes_taken_by_all (olds ++ news)) s.end) given (same_answer (flex_if_room t s olds news) given done) aligned
