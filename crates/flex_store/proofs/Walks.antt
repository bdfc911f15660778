-- A walk over the blocks of a text, which takes the marks off their headers and anchors; what one
-- that settles them holds on to.
use Rattle.std.proofs.Common.{◌≡◌, ℕ, Bool, ◌+◌, ◌-◌, ◌%◌, ◌^◌, ◌<◌, ◌≤◌, true, List, [], ◌∷◌, arith, refl, sym, ◌∙◌, ap, subst}
use Rattle.os_heap.proofs.Bytes.{is_mapped-layout}
use Rattle.os_heap_words.proofs.Spans.{mapped_below}
use Rattle.os_heap.specs.Bytes.{Bytes, word_at}
use Rattle.os_heap.specs.Records.{is_word_kind, with_region}
use Rattle.os_heap.specs.Class.{Class}
use Rattle.os_heap.specs.Class.TheVariants as class
use Rattle.os_heap.specs.AddressMap.{AddressMap}
use Rattle.os_heap.specs.Kind.{Kind}
use Rattle.os_heap.specs.Region.{Region}
use Rattle.os_heap.specs.Memory.{byte_at, bytes_of, class_of, is_mapped, layout}
use Rattle.flex_store.specs.declared.shift.Shift.{Shift}
use Rattle.flex_store.specs.Blocks.{Block, bytes_taken_by, bytes_taken_by_all}
use Rattle.flex_store.specs.Marks.{with_block_marks, with_marks}
use Rattle.flex_store.specs.Memory.{blocks_in, laid_out}
use Rattle.flex_store.specs.Shifts.{following}
use Rattle.flex_store.specs.State.{AreAnchorWords, IsMappedWord, IsText}
use Rattle.flex_store.proofs.Texts.{IsFirst, text_first, text_kept, text_next}
use Rattle.flex_store.proofs.Words.{mapped_word}

-- what is left to mark: with these marks all are made
pub record IsMarking (mark : Class) (m : AddressMap) (at : ℕ) (n : AddressMap) (to end : ℕ) : Type 0 where
  pub rest : List Block
  pub text : IsText (bytes_of n) to end rest
  pub words : AreAnchorWords (is_mapped n) to end rest
  pub bytes : byte_at n ≡ byte_at m
  pub same : layout n ≡ layout m
  pub marks : (a : ℕ) → with_marks mark mark to rest (class_of n) a ≡ with_marks mark mark at (blocks_in (byte_at m) at end) (class_of m) a

-- What is left to settle, with the anchors' old names in its headers: with it settled all is.
pub record IsSettling (shifts : List Shift) (m : AddressMap) (at : ℕ) (n : AddressMap) (to end : ℕ) : Type 0 where
  pub rest : List Block
  pub text : IsText (bytes_of n) to end rest
  pub words : AreAnchorWords (is_mapped n) to end (following shifts rest)
  pub same : layout n ≡ layout m
  pub bytes : (a : ℕ) → laid_out to (following shifts rest) (byte_at n) a ≡ laid_out at (following shifts (blocks_in (byte_at m) at end)) (byte_at m) a
  pub marks : (a : ℕ) → with_marks class.FlexHeader class.Anchor to (following shifts rest) (class_of n) a
      ≡ with_marks class.FlexHeader class.Anchor at (following shifts (blocks_in (byte_at m) at end)) (class_of m) a

-- a word is no record
pub with_word_region : (rs : List Region) (k : Kind) (at : ℕ) → is_word_kind k ≡ true → with_region rs (record { kind = k; at = at; len = 4 }) ≡ rs
with_word_region rs k at word = rw word refl

-- a text lies below 2^26
pub text_low : (m : AddressMap) (at end : ℕ) (bs : List Block) → IsText (bytes_of m) at end bs → at < end → end ≤ 2 ^ 26
text_low m at end bs is some =
    let length_is : end ≡ at + bytes_taken_by_all bs = is.length in
    let last : is_mapped m (end - 1) ≡ true = is.mapped (end - 1) (omega arith) (omega arith) in
    omega (arith, mapped_below m (end - 1) last)

-- the header at a walk's place
pub record IsAhead (m : AddressMap) (at end : ℕ) : Type 0 where
  pub aligned : at % 4 ≡ 0
  pub here : is_mapped m at ≡ true
  pub second : is_mapped m (at + 4) ≡ true
  pub fits : at + bytes_taken_by (word_at (byte_at m) (at + 4)) ≤ end
  pub low : end ≤ 2 ^ 26

pub ahead : (m : AddressMap) (at end : ℕ) (bs : List Block) → IsText (bytes_of m) at end bs → at < end → IsAhead m at end
ahead m at end [] is some = absurd (let length_is : end ≡ at + 0 = is.length in omega arith)
ahead m at end (x ∷ bs) is some =
    let f : IsFirst (bytes_of m) at end x bs = text_first (bytes_of m) at end x bs is in
    let e : word_at (byte_at m) (at + 4) ≡ x.size = f.size in
    record {
      aligned = f.aligned;
      here = f.here;
      second = f.second;
      fits = rw e f.fits;
      low = text_low m at end (x ∷ bs) is some;
    }

-- and the anchor that it names
pub anchor_ahead : (m : AddressMap) (at end : ℕ) (bs : List Block) → IsText (bytes_of m) at end bs → AreAnchorWords (is_mapped m) at end bs → at < end
    → IsMappedWord (is_mapped m) (word_at (byte_at m) at)
anchor_ahead m at end [] is words some = absurd (let length_is : end ≡ at + 0 = is.length in omega arith)
anchor_ahead m at end (x ∷ bs) is words some =
    let f : IsFirst (bytes_of m) at end x bs = text_first (bytes_of m) at end x bs is in
    rw f.anchor (mapped_word (is_mapped m) at end x.anchor words.0.0)

pub words_mapped : (n n' : AddressMap) (at end : ℕ) (bs : List Block) → layout n' ≡ layout n → AreAnchorWords (is_mapped n) at end bs → AreAnchorWords (is_mapped n') at end bs
words_mapped n n' at end bs same words = subst (λ (p : ℕ → Bool). AreAnchorWords p at end bs) (sym (is_mapped-layout n n' same)) words

-- one block more is marked
marking_by : (mark : Class) (m : AddressMap) (at : ℕ) (n n' : AddressMap) (to end : ℕ) (rest : List Block) → to < end
    → IsText (bytes_of n) to end rest → AreAnchorWords (is_mapped n) to end rest → byte_at n ≡ byte_at m → layout n ≡ layout m
    → ((a : ℕ) → with_marks mark mark to rest (class_of n) a ≡ with_marks mark mark at (blocks_in (byte_at m) at end) (class_of m) a)
    → layout n' ≡ layout n → byte_at n' ≡ byte_at n
    → ((a : ℕ) → class_of n' a ≡ with_block_marks mark mark to (word_at (byte_at n) to) (class_of n) a)
    → IsMarking mark m at n' (to + bytes_taken_by (word_at (byte_at n) (to + 4))) end
marking_by mark m at n n' to end [] some is words bytes same marks same' bytes' marked =
    absurd (let length_is : end ≡ to + 0 = is.length in omega arith)
marking_by mark m at n n' to end (x ∷ bs) some is words bytes same marks same' bytes' marked =
    let f : IsFirst (bytes_of n) to end x bs = text_first (bytes_of n) to end x bs is in
    let e : word_at (byte_at n) (to + 4) ≡ x.size = f.size in
    let e' : word_at (byte_at n) to ≡ x.anchor = f.anchor in
    let made : (a : ℕ) → class_of n' a ≡ with_block_marks mark mark to x.anchor (class_of n) a = rw e' at marked in
    rw e (record {
      rest = bs;
      text = text_kept (bytes_of n) (bytes_of n') (to + bytes_taken_by x.size) end bs (is_mapped-layout n n' same') (λ a low high. ap (λ (g : ℕ → ℕ). g a) bytes')
          (text_next (bytes_of n) to end x bs is);
      words = words_mapped n n' (to + bytes_taken_by x.size) end bs same' words.1;
      bytes = bytes' ∙ bytes;
      same = same' ∙ same;
      marks = λ a. ap (λ (c : ℕ → Class). with_marks mark mark (to + bytes_taken_by x.size) bs c a) (λ i p. made p i) ∙ marks a;
    })

pub marking_more : (mark : Class) (m : AddressMap) (at : ℕ) (n n' : AddressMap) (to end : ℕ) → to < end → IsMarking mark m at n to end
    → layout n' ≡ layout n → byte_at n' ≡ byte_at n
    → ((a : ℕ) → class_of n' a ≡ with_block_marks mark mark to (word_at (byte_at n) to) (class_of n) a)
    → IsMarking mark m at n' (to + bytes_taken_by (word_at (byte_at n) (to + 4))) end
marking_more mark m at n n' to end some h same' bytes' marked =
    marking_by mark m at n n' to end h.rest some h.text h.words h.bytes h.same h.marks same' bytes' marked

-- at the end nothing is left
pub ended : (at end : ℕ) (b : Bytes) (rest : List Block) → end ≤ at → IsText b at end rest → rest ≡ []
ended at end b [] past is = refl
ended at end b (x ∷ bs) past is = absurd (let length_is : end ≡ at + (bytes_taken_by x.size + bytes_taken_by_all bs) = is.length in omega arith)

pub marking_all : (mark : Class) (m : AddressMap) (at : ℕ) (n : AddressMap) (to end : ℕ) → end ≤ to → IsMarking mark m at n to end
    → (a : ℕ) → class_of n a ≡ with_marks mark mark at (blocks_in (byte_at m) at end) (class_of m) a
marking_all mark m at n to end past h a =
    ap (λ (l : List Block). with_marks mark mark to l (class_of n) a) (sym (ended to end (bytes_of n) h.rest past h.text)) ∙ h.marks a
