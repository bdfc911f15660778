-- Blocks with the bytes that stand in memory: their anchors and sizes are as they were, and memory
-- spells them where the words of headers stay.
use Rattle.std.proofs.Common.{◌≡◌, ℕ, Bool, ◌+◌, ◌%◌, ◌<◌, ◌≤◌, ◌||◌, true, nat_eq, List, [], ◌∷◌, ◌++◌, length, refl, ap, ◌∙◌, arith}
use Rattle.std.proofs.lemmas.Bool.{eq-eqb, or_left, or_right}
use Rattle.os_heap_words.proofs.Viewing.{bytes_counted}
use Rattle.os_heap_words.specs.RawStoreRegion.{word_bytes}
use Rattle.os_heap.specs.Bytes.{bytes_between, word_start}
use Rattle.flex_store.specs.Blocks.{Block, has_anchor, is_header, is_in_contents, is_held_word, bytes_taken_by, bytes_taken_by_all, whole_words}
use Rattle.flex_store.specs.Memory.{AreAnchored, Holds, standing, blocks_text_of}
use Rattle.flex_store.specs.State.{AreAnchorWords, AreWhole}
use Rattle.flex_store.proofs.Holding.{holds_append, holds_kept}
use Rattle.flex_store.proofs.Reading.{IsSpelled, bytes_read, spelled}
use Rattle.flex_store.proofs.Splicing.{between_held}

pub standing_used : (f : ℕ → ℕ) (at : ℕ) (bs : List Block) → bytes_taken_by_all (standing f at bs) ≡ bytes_taken_by_all bs
standing_used f at [] = refl
standing_used f at (b ∷ bs) = ap (λ (n : ℕ). bytes_taken_by b.size + n) (standing_used f (at + bytes_taken_by b.size) bs)

pub standing_has : (f : ℕ → ℕ) (at : ℕ) (bs : List Block) (a : ℕ) → has_anchor (standing f at bs) a ≡ has_anchor bs a
standing_has f at [] a = refl
standing_has f at (b ∷ bs) a = ap (λ (t : Bool). nat_eq a b.anchor || t) (standing_has f (at + bytes_taken_by b.size) bs a)

pub standing_header : (f : ℕ → ℕ) (at : ℕ) (bs : List Block) (a : ℕ) → is_header at (standing f at bs) a ≡ is_header at bs a
standing_header f at [] a = refl
standing_header f at (b ∷ bs) a =
    ap (λ (t : Bool). (nat_eq a at || nat_eq a (at + 4)) || t) (standing_header f (at + bytes_taken_by b.size) bs a)

pub standing_whole : (f : ℕ → ℕ) (at : ℕ) (bs : List Block) → AreWhole bs → AreWhole (standing f at bs)
standing_whole f at [] whole = tt
standing_whole f at (b ∷ bs) whole = ((bytes_counted f (at + 8) (whole_words b.size), whole.0.1), standing_whole f (at + bytes_taken_by b.size) bs whole.1)

-- anchors that are mapped still
abbrev pub AreThere : (ℕ → Bool) → List Block → Type 0
AreThere mapped [] = Unit {0}
AreThere mapped (b ∷ bs) = (mapped b.anchor ≡ true) × AreThere mapped bs

pub standing_words : (mapped now : ℕ → Bool) (start end : ℕ) (f : ℕ → ℕ) (at : ℕ) (bs : List Block) → AreThere now bs → AreAnchorWords mapped start end bs
    → AreAnchorWords now start end (standing f at bs)
standing_words mapped now start end f at [] there words = tt
standing_words mapped now start end f at (b ∷ bs) there words = (
  (
    record { aligned = words.0.0.aligned; there = there.0; low = words.0.0.low; outside = words.0.0.outside },
    standing_has f (at + bytes_taken_by b.size) bs b.anchor ∙ words.0.1,
  ),
  standing_words mapped now (start + bytes_taken_by b.size) end f (at + bytes_taken_by b.size) bs there.1 words.1,
)

-- words of headers that stay
abbrev pub KeepsHeaders : (ℕ → ℕ) → (ℕ → ℕ) → ℕ → List Block → Type 0
KeepsHeaders f g at bs = (a : ℕ) → is_header at bs (word_start a) ≡ true → g a ≡ f a

pub first_word : (at a : ℕ) → at % 4 ≡ 0 → at ≤ a → a < at + 4 → word_start a ≡ at
first_word at a aligned low high = omega arith

pub standing_text : (f g : ℕ → ℕ) (at : ℕ) (bs : List Block) → at % 4 ≡ 0 → AreWhole bs → KeepsHeaders f g at bs → Holds f at (blocks_text_of bs)
    → Holds g at (blocks_text_of (standing g at bs))
standing_text f g at [] aligned whole same text = λ k below. absurd (omega arith)
standing_text f g at (b ∷ bs) aligned whole same text =
    let n : ℕ = whole_words b.size in
    let next : ℕ = at + bytes_taken_by b.size in
    let s : IsSpelled f at b bs = spelled f at b bs whole.0.0 text in
    let tail : List Block = standing g next bs in
    let held : List ℕ = bytes_between g (at + 8) n in
    let size : length held ≡ n = bytes_counted g (at + 8) n in
    let rest : Holds g next (blocks_text_of tail) =
    standing_text f g next bs (omega arith) whole.1
    (λ a is. same a (or_right (nat_eq (word_start a) at || nat_eq (word_start a) (at + 4)) (is_header next bs (word_start a)) is)) s.rest in
    let behind : Holds g (at + 8) (held ++ blocks_text_of tail) =
    holds_append g (at + 8) held (blocks_text_of tail) (between_held g (at + 8) n)
    (let e : at + 8 + length held ≡ next = omega arith in rw e rest) in
    let anchor : Holds g at (word_bytes b.anchor) =
    holds_kept f g at (word_bytes b.anchor) (λ a low high.
    let here : word_start a ≡ at = first_word at a aligned low high in
    same a (rw here (or_left (nat_eq at at || nat_eq at (at + 4)) (is_header next bs at) (or_left (nat_eq at at) (nat_eq at (at + 4)) (eq-eqb at at refl)))))
    s.anchor in
    let size_word : Holds g (at + 4) (word_bytes b.size) =
    holds_kept f g (at + 4) (word_bytes b.size) (λ a low high.
    let here : word_start a ≡ at + 4 = first_word (at + 4) a (omega arith) low high in
    same a (rw here (or_left (nat_eq (at + 4) at || nat_eq (at + 4) (at + 4)) (is_header next bs (at + 4))
    (or_right (nat_eq (at + 4) at) (nat_eq (at + 4) (at + 4)) (eq-eqb (at + 4) (at + 4) refl)))))
    s.size in
    holds_append g at (word_bytes b.anchor) (word_bytes b.size ++ (held ++ blocks_text_of tail)) anchor
    (holds_append g (at + 4) (word_bytes b.size) (held ++ blocks_text_of tail) size_word
    (let e : at + 4 + 4 ≡ at + 8 = omega arith in rw e behind))

abbrev pub KeepsAnchors : (ℕ → ℕ) → (ℕ → ℕ) → List Block → Type 0
KeepsAnchors f g bs = (a : ℕ) → has_anchor bs (word_start a) ≡ true → g a ≡ f a

pub standing_anchored : (mapped : ℕ → Bool) (start end : ℕ) (f g h : ℕ → ℕ) (at : ℕ) (bs : List Block) → AreAnchorWords mapped start end bs → KeepsAnchors f g bs
    → AreAnchored f at bs → AreAnchored g at (standing h at bs)
standing_anchored mapped start end f g h at [] words same anchored = tt
standing_anchored mapped start end f g h at (b ∷ bs) words same anchored = (
  holds_kept f g b.anchor (word_bytes (at + 8)) (λ a low high.
      let here : word_start a ≡ b.anchor = first_word b.anchor a words.0.0.aligned low high in
      same a (rw here (or_left (nat_eq b.anchor b.anchor) (has_anchor bs b.anchor) (eq-eqb b.anchor b.anchor refl))))
      anchored.0,
  standing_anchored mapped (start + bytes_taken_by b.size) end f g h (at + bytes_taken_by b.size) bs words.1
      (λ a is. same a (or_right (nat_eq (word_start a) b.anchor) (has_anchor bs (word_start a)) is)) anchored.1,
)

pub all_there : (now : ℕ → Bool) (bs : List Block) → ((a : ℕ) → has_anchor bs a ≡ true → now a ≡ true) → AreThere now bs
all_there now [] there = tt
all_there now (b ∷ bs) there = (
  there b.anchor (or_left (nat_eq b.anchor b.anchor) (has_anchor bs b.anchor) (eq-eqb b.anchor b.anchor refl)),
  all_there now bs (λ a is. there a (or_right (nat_eq a b.anchor) (has_anchor bs a) is)),
)

-- where memory spells them they are what they were
pub standing_same : (f : ℕ → ℕ) (at : ℕ) (bs : List Block) → AreWhole bs → Holds f at (blocks_text_of bs) → standing f at bs ≡ bs
standing_same f at [] whole text = refl
standing_same f at (b ∷ bs) whole text =
    let s : IsSpelled f at b bs = spelled f at b bs whole.0.0 text in
    let bytes : bytes_between f (at + 8) (whole_words b.size) ≡ b.bytes = bytes_read f (at + 8) (whole_words b.size) b.bytes whole.0.0 s.bytes in
    let rest : standing f (at + bytes_taken_by b.size) bs ≡ bs = standing_same f (at + bytes_taken_by b.size) bs whole.1 s.rest in
    λ i. record { anchor = b.anchor; size = b.size; bytes = bytes i } ∷ rest i

pub standing_contents : (f : ℕ → ℕ) (at to : ℕ) (bs : List Block) (a : ℕ) → is_in_contents to (standing f at bs) a ≡ is_in_contents to bs a
standing_contents f at to [] a = refl
standing_contents f at to (b ∷ bs) a =
    ap (λ (t : Bool). is_held_word to b a || t) (standing_contents f (at + bytes_taken_by b.size) (to + bytes_taken_by b.size) bs a)

-- blocks that stand, read again
pub standing_again : (f g : ℕ → ℕ) (at : ℕ) (xs ys : List Block) → standing g at (standing f at xs ++ ys) ≡ standing g at (xs ++ ys)
standing_again f g at [] ys = refl
standing_again f g at (b ∷ xs) ys =
    ap (λ (l : List Block). record { anchor = b.anchor; size = b.size; bytes = bytes_between g (at + 8) (whole_words b.size) } ∷ l)
    (standing_again f g (at + bytes_taken_by b.size) xs ys)
