-- Texts in memory that are laid out anew: what the walk that settles them needs, and what it
-- leaves.
use Rattle.std.proofs.Common.{◌≡◌, ℕ, Bool, ◌+◌, ◌-◌, ◌%◌, ◌^◌, ◌<◌, ◌≤◌, true, List, [], ◌∷◌, ◌++◌, length, arith, sym, ◌∙◌, ap, inl, inr, subst}
use Rattle.std.proofs.lemmas.List.{length-replicate}
use Rattle.os_heap.proofs.Bytes.{is_mapped-layout}
use Rattle.os_heap_words.proofs.Spans.{mapped_below}
use Rattle.os_heap_words.proofs.Viewing.{bytes_counted}
use Rattle.os_heap.specs.Bytes.{AreMapped, Bytes, bytes_between, with_bytes_at, with_moved_at, with_word_at, with_zeros_at}
use Rattle.os_heap.specs.Memory.{byte_at, bytes_of, class_of, is_mapped, layout}
use Rattle.os_heap.specs.Class.{Class}
use Rattle.os_heap.specs.Class.TheVariants as class
use Rattle.os_heap.specs.AddressMap.{AddressMap}
use Rattle.flex_store.specs.Blocks.{Block, contents, whole_words_of_bytes, block_holding, new_block, bytes_after_splice, bytes_taken_by, bytes_taken_by_all, whole_words}
use Rattle.flex_store.specs.declared.shift.Shift.{Shift}
use Rattle.flex_store.specs.Marks.{with_marks}
use Rattle.flex_store.specs.Memory.{Holds, blocks_in, laid_out, blocks_text_of, with_anchors}
use Rattle.flex_store.specs.Relaid.{blocks_behind_first, blocks_after_removal, first_at, MayLie, Relaid, blocks_after_splice}
use Rattle.flex_store.specs.Shifts.{AreShort, following, gone_to, removal_shifts, splice_shifts}
use Rattle.flex_store.specs.Splices.{HasBytesForSizes, CanBytesMove}
use Rattle.flex_store.specs.State.{AreAnchorWords, AreLow, AreWhole, IsText}
use Rattle.flex_store.proofs.Holding.{bytes_beside, bytes_held, bytes_written}
use Rattle.flex_store.proofs.Laying.{appended, closed as closed_bytes, contents_between, replaced as replaced_bytes}
use Rattle.flex_store.proofs.Following.{following_used, following_whole}
use Rattle.flex_store.proofs.Lists.{text_used}
use Rattle.flex_store.proofs.Placing.{gone_past}
use Rattle.flex_store.proofs.Reading.{bytes_read}
use Rattle.flex_store.proofs.Splicing.{filled_length, spliced_length}
use Rattle.flex_store.proofs.Texts.{IsFirst, text_first, text_read}

-- what lies there lies below 2^26
pub lie_low : (m : AddressMap) (h : ℕ) (bs : List Block) → MayLie m h bs → 0 < bytes_taken_by_all bs → h + bytes_taken_by_all bs ≤ 2 ^ 26
lie_low m h bs may some =
    let last : is_mapped m (h + bytes_taken_by_all bs - 1) ≡ true = may.there (h + bytes_taken_by_all bs - 1) (omega arith) (omega arith) in
    omega (arith, mapped_below m (h + bytes_taken_by_all bs - 1) last)

pub as_read : (b : Bytes) (at end : ℕ) (bs : List Block) → IsText b at end bs → IsText b at end (blocks_in b.at at end)
as_read b at end bs is = subst (λ (l : List Block). IsText b at end l) (sym (text_read b at end bs is)) is

-- the words of anchors, by what memory spells
pub words_read : (m n : AddressMap) (at end : ℕ) (bs : List Block) → layout n ≡ layout m → IsText (bytes_of n) at end bs → AreAnchorWords (is_mapped m) at end bs
    → AreAnchorWords (is_mapped n) at end (blocks_in (byte_at n) at end)
words_read m n at end bs same is words =
    subst (λ (l : List Block). AreAnchorWords (is_mapped n) at end l) (sym (text_read (bytes_of n) at end bs is))
    (subst (λ (p : ℕ → Bool). AreAnchorWords p at end bs) (sym (is_mapped-layout m n same)) words)

-- the text is there once its bytes are
pub settled_text : (m n : AddressMap) (h end : ℕ) (texts : List Block) → AreWhole texts → AreLow texts → AreMapped (is_mapped m) h (bytes_taken_by_all texts) → h % 4 ≡ 0
    → layout n ≡ layout m → ((a : ℕ) → byte_at n a ≡ with_bytes_at (byte_at m) h (blocks_text_of texts) a) → end ≡ h + bytes_taken_by_all texts → IsText (bytes_of n) h end texts
settled_text m n h end texts whole low there aligned same bytes length_is = record {
  whole = whole;
  low = low;
  text = λ k below. bytes (h + k) ∙ bytes_held (byte_at m) h (blocks_text_of texts) k below;
  length = length_is;
  aligned = aligned;
  mapped = subst (λ (p : ℕ → Bool). AreMapped p h (bytes_taken_by_all texts)) (sym (is_mapped-layout m n same)) there;
}

-- what is laid out over a text of the same length, and over what stood there
laid_over : (at : ℕ) (news : List Block) (f g : ℕ → ℕ) (xs : List ℕ) (a : ℕ) → length xs ≡ length (blocks_text_of news) → ((p : ℕ) → g p ≡ with_bytes_at f at xs p)
    → laid_out at news g a ≡ laid_out at news f a
unfolding laid_out
laid_over at news f g xs a same is =
    ap (λ (k : ℕ → ℕ). with_anchors at news k a) (λ i p. bytes_written f (with_bytes_at g at (blocks_text_of news)) at (blocks_text_of news) (bytes_held g at (blocks_text_of news))
    (λ q out. bytes_beside g at (blocks_text_of news) q out ∙ (is q ∙ bytes_beside f at xs q (elim out [ inl low ↦ inl low | inr high ↦ inr (omega arith) ]))) p i)

-- The walk that settles a text, whose anchors went where the shifts say, leaves it laid out with
-- their new names.
pub relaid_from : (shifts : List Shift) (m m3 n : AddressMap) (h end : ℕ) (olds texts : List Block) → IsText (bytes_of m3) h end texts
    → ((a : ℕ) → class_of m3 a ≡ with_marks class.Plain class.Plain h olds (class_of m) a) → layout n ≡ layout m
    → ((a : ℕ) → byte_at m3 a ≡ with_bytes_at (byte_at m) h (blocks_text_of texts) a)
    → ((a : ℕ) → byte_at n a ≡ laid_out h (following shifts (blocks_in (byte_at m3) h end)) (byte_at m3) a)
    → ((a : ℕ) → class_of n a ≡ with_marks class.FlexHeader class.Anchor h (following shifts (blocks_in (byte_at m3) h end)) (class_of m3) a)
    → Relaid m n h olds (following shifts texts)
relaid_from shifts m m3 n h end olds texts is marks3 same bytes3 bytes marks =
    let read : blocks_in (byte_at m3) h end ≡ texts = text_read (bytes_of m3) h end texts is in
    let news : List Block = following shifts texts in
    let size : length (blocks_text_of texts) ≡ length (blocks_text_of news) =
    text_used texts is.whole ∙ (sym (following_used shifts texts) ∙ sym (text_used news (following_whole shifts texts is.whole))) in
    record {
      bytes = λ a. bytes a ∙ (ap (λ (l : List Block). laid_out h (following shifts l) (byte_at m3) a) read
          ∙ laid_over h news (byte_at m) (byte_at m3) (blocks_text_of texts) a size bytes3);
      same = same;
      marks = λ a. marks a ∙ (ap (λ (l : List Block). with_marks class.FlexHeader class.Anchor h (following shifts l) (class_of m3) a) read
          ∙ ap (λ (c : ℕ → Class). with_marks class.FlexHeader class.Anchor h news c a) (λ i x. marks3 x i));
    }

-- the marks that a walk took away, by what memory spelled
pub unmarked : (m n : AddressMap) (h end : ℕ) (olds : List Block) → IsText (bytes_of m) h end olds
    → ((a : ℕ) → class_of n a ≡ with_marks class.Plain class.Plain h (blocks_in (byte_at m) h end) (class_of m) a)
    → (a : ℕ) → class_of n a ≡ with_marks class.Plain class.Plain h olds (class_of m) a
unmarked m n h end olds is marks a =
    marks a ∙ ap (λ (l : List Block). with_marks class.Plain class.Plain h l (class_of m) a) (text_read (bytes_of m) h end olds is)

-- a block that holds other bytes, with those after it
pub record AreNumbers (m : AddressMap) (h end at cut more : ℕ) : Type 0 where
  pub new : length (bytes_after_splice (contents (first_at m h)) at cut more) ≡ at - cut + more + ((first_at m h).size - at)
  pub old_fits : h + bytes_taken_by (first_at m h).size ≤ end
  pub used_is : bytes_taken_by_all (blocks_behind_first m h end) ≡ end - (h + bytes_taken_by (first_at m h).size)
  pub old_low : end ≤ 2 ^ 26
  pub new_low : h + (bytes_taken_by (at - cut + more + ((first_at m h).size - at)) + bytes_taken_by_all (blocks_behind_first m h end)) ≤ 2 ^ 26

pub contents_length : (m : AddressMap) (h : ℕ) → length (contents (first_at m h)) ≡ (first_at m h).size
contents_length m h =
    ap length (contents_between (byte_at m) (h + 8) (first_at m h).size) ∙ bytes_counted (byte_at m) (h + 8) (first_at m h).size

pub new_length : (m : AddressMap) (h at cut more : ℕ) → at ≤ (first_at m h).size
    → length (bytes_after_splice (contents (first_at m h)) at cut more) ≡ at - cut + more + ((first_at m h).size - at)
new_length m h at cut more inside =
    let size : length (contents (first_at m h)) ≡ (first_at m h).size = contents_length m h in
    spliced_length (contents (first_at m h)) at cut more (omega arith) ∙ ap (λ (n : ℕ). at - cut + more + (n - at)) size

pub numbers : (m : AddressMap) (h end at cut more : ℕ) → IsText (bytes_of m) h end (first_at m h ∷ blocks_behind_first m h end) → at ≤ (first_at m h).size
    → MayLie m h (blocks_after_splice m h end (record { at = at; cut = cut; more = more })) → AreNumbers m h end at cut more
numbers m h end at cut more is inside may =
    let news : List Block = blocks_after_splice m h end (record { at = at; cut = cut; more = more }) in
    let rest : bytes_taken_by_all (following (splice_shifts h end (first_at m h).size at cut more) (blocks_behind_first m h end)) ≡ bytes_taken_by_all (blocks_behind_first m h end) =
    following_used (splice_shifts h end (first_at m h).size at cut more) (blocks_behind_first m h end) in
    let new : length (bytes_after_splice (contents (first_at m h)) at cut more) ≡ at - cut + more + ((first_at m h).size - at) = new_length m h at cut more inside in
    let length_is : end ≡ h + (bytes_taken_by (first_at m h).size + bytes_taken_by_all (blocks_behind_first m h end)) = is.length in
    let low : h + bytes_taken_by_all news ≤ 2 ^ 26 = lie_low m h news may (omega arith) in
    let last : is_mapped m (end - 1) ≡ true = is.mapped (end - 1) (omega arith) (omega arith) in
    record {
      new = new;
      old_fits = omega arith;
      used_is = omega arith;
      old_low = omega (arith, mapped_below m (end - 1) last);
      new_low = rw (← new, ← rest) low;
    }

pub replaced_text : (m : AddressMap) (f1 f2 g : ℕ → ℕ) (h end size new at cut more : ℕ)
    → IsText (bytes_of m) h end (first_at m h ∷ blocks_behind_first m h end) → at ≤ (first_at m h).size → size ≡ (first_at m h).size
    → new ≡ at - cut + more + (size - at) → f1 ≡ byte_at m
    → ((a : ℕ) → f2 a ≡ with_bytes_at f1 (h + 8) (whole_words_of_bytes (bytes_after_splice (bytes_between f1 (h + 8) size) at cut more)
    ++ bytes_between f1 (h + 8 + whole_words size) (end - (h + 8 + whole_words size))) a)
    → ((a : ℕ) → g a ≡ with_word_at f2 (h + 4) new a)
    → (a : ℕ) → g a ≡ with_bytes_at (byte_at m) h (blocks_text_of (block_holding (first_at m h) (bytes_after_splice (contents (first_at m h)) at cut more) ∷ blocks_behind_first m h end)) a
replaced_text m f1 f2 g h end size new at cut more is inside size_is new_is same h2 h3 =
    let f : ℕ → ℕ = byte_at m in
    let b : Block = first_at m h in
    let after : List Block = blocks_behind_first m h end in
    let xs : List ℕ = bytes_after_splice (contents b) at cut more in
    let first : IsFirst (bytes_of m) h end b after = text_first (bytes_of m) h end b after is in
    let length_is : end ≡ h + (bytes_taken_by b.size + bytes_taken_by_all after) = is.length in
    let e : h + bytes_taken_by b.size ≡ h + 8 + whole_words b.size = omega arith in
    let e1 : bytes_between f (h + 8) b.size ≡ contents b = sym (contents_between f (h + 8) b.size) in
    let held : Holds f (h + 8 + whole_words b.size) (blocks_text_of after) = subst (λ (p : ℕ). Holds f p (blocks_text_of after)) e first.spelled.rest in
    let e2 : bytes_between f (h + 8 + whole_words b.size) (end - (h + 8 + whole_words b.size)) ≡ blocks_text_of after =
    bytes_read f (h + 8 + whole_words b.size) (end - (h + 8 + whole_words b.size)) (blocks_text_of after) (omega (arith, text_used after is.whole.1)) held in
    let count : length xs ≡ at - cut + more + (b.size - at) = new_length m h at cut more inside in
    let new' : new ≡ length xs = new_is ∙ ap (λ (n : ℕ). at - cut + more + (n - at)) size_is ∙ sym count in
    replaced_bytes f f2 g h b xs (blocks_text_of after) first.spelled.anchor
    (λ a. h2 a
    ∙ (ap (λ (k : ℕ → ℕ). with_bytes_at k (h + 8) (whole_words_of_bytes (bytes_after_splice (bytes_between k (h + 8) size) at cut more) ++ bytes_between k (h + 8 + whole_words size) (end - (h + 8 + whole_words size))) a) same
    ∙ (ap (λ (n : ℕ). with_bytes_at f (h + 8) (whole_words_of_bytes (bytes_after_splice (bytes_between f (h + 8) n) at cut more) ++ bytes_between f (h + 8 + whole_words n) (end - (h + 8 + whole_words n))) a) size_is
    ∙ (ap (λ (l : List ℕ). with_bytes_at f (h + 8) (whole_words_of_bytes (bytes_after_splice l at cut more) ++ bytes_between f (h + 8 + whole_words b.size) (end - (h + 8 + whole_words b.size))) a) e1
    ∙ ap (λ (t : List ℕ). with_bytes_at f (h + 8) (whole_words_of_bytes xs ++ t) a) e2))))
    (λ a. h3 a ∙ ap (λ (n : ℕ). with_word_at f2 (h + 4) n a) new')

pub replaced_whole : (m : AddressMap) (h end at cut more : ℕ) → IsText (bytes_of m) h end (first_at m h ∷ blocks_behind_first m h end) → AreNumbers m h end at cut more
    → AreWhole (block_holding (first_at m h) (bytes_after_splice (contents (first_at m h)) at cut more) ∷ blocks_behind_first m h end)
replaced_whole m h end at cut more is n =
    let new : length (bytes_after_splice (contents (first_at m h)) at cut more) ≡ at - cut + more + ((first_at m h).size - at) = n.new in
    ((filled_length (bytes_after_splice (contents (first_at m h)) at cut more), omega (arith, n.new_low)), is.whole.1)

pub room_for : (m n : AddressMap) (h end size new at cut more : ℕ) → layout n ≡ layout m → size ≡ (first_at m h).size → new ≡ at - cut + more + (size - at)
    → IsText (bytes_of m) h end (first_at m h ∷ blocks_behind_first m h end) → AreNumbers m h end at cut more
    → MayLie m h (blocks_after_splice m h end (record { at = at; cut = cut; more = more }))
    → HasBytesForSizes (is_mapped n) (h + 8) size new
room_for m n h end size new at cut more same size_is new_is is k may =
    let count : length (bytes_after_splice (contents (first_at m h)) at cut more) ≡ at - cut + more + ((first_at m h).size - at) = k.new in
    let mapped : is_mapped n ≡ is_mapped m = is_mapped-layout m n same in
    let length_is : end ≡ h + (bytes_taken_by (first_at m h).size + bytes_taken_by_all (blocks_behind_first m h end)) = is.length in
    let new' : new ≡ length (bytes_after_splice (contents (first_at m h)) at cut more) = new_is ∙ ap (λ (x : ℕ). at - cut + more + (x - at)) size_is ∙ sym count in
    subst (λ (p : ℕ → Bool). HasBytesForSizes p (h + 8) size new) (sym mapped) (record {
      old = λ a low high. is.mapped a (omega arith) (omega arith);
      new_bytes = λ a low high. may.there a (omega arith) (omega arith);
      old_low = omega (arith, k.old_low, k.old_fits);
      new_low = omega (arith, k.new_low);
    })

-- the room of those after it
pub rest_for : (m n : AddressMap) (h end size new at cut more : ℕ) → layout n ≡ layout m → size ≡ (first_at m h).size → new ≡ at - cut + more + (size - at)
    → IsText (bytes_of m) h end (first_at m h ∷ blocks_behind_first m h end) → AreNumbers m h end at cut more
    → MayLie m h (blocks_after_splice m h end (record { at = at; cut = cut; more = more }))
    → CanBytesMove (is_mapped n) (h + 8 + whole_words size) (h + 8 + whole_words new) end
rest_for m n h end size new at cut more same size_is new_is is k may =
    let count : length (bytes_after_splice (contents (first_at m h)) at cut more) ≡ at - cut + more + ((first_at m h).size - at) = k.new in
    let mapped : is_mapped n ≡ is_mapped m = is_mapped-layout m n same in
    let length_is : end ≡ h + (bytes_taken_by (first_at m h).size + bytes_taken_by_all (blocks_behind_first m h end)) = is.length in
    let rest : bytes_taken_by_all (following (splice_shifts h end (first_at m h).size at cut more) (blocks_behind_first m h end)) ≡ bytes_taken_by_all (blocks_behind_first m h end) =
    following_used (splice_shifts h end (first_at m h).size at cut more) (blocks_behind_first m h end) in
    let new' : new ≡ length (bytes_after_splice (contents (first_at m h)) at cut more) = new_is ∙ ap (λ (x : ℕ). at - cut + more + (x - at)) size_is ∙ sym count in
    subst (λ (p : ℕ → Bool). CanBytesMove p (h + 8 + whole_words size) (h + 8 + whole_words new) end) (sym mapped) (record {
      inside = omega (arith, k.old_fits);
      old = λ a low high. is.mapped a (omega arith) (omega (arith, high));
      moved = λ a low high. may.there a (omega arith) (omega (arith, high));
    })

pub short_splice : (m : AddressMap) (h end at cut more : ℕ) → at ≤ (first_at m h).size → AreNumbers m h end at cut more
    → AreShort (splice_shifts h end (first_at m h).size at cut more)
short_splice m h end at cut more inside k = (omega (arith, k.new_low), (omega (arith, k.new_low, k.used_is), tt))

-- a block that went, with those after it in its place
pub record AreClosed (m : AddressMap) (h end : ℕ) : Type 0 where
  pub whole : AreWhole (blocks_behind_first m h end)
  pub fits : h + bytes_taken_by (first_at m h).size ≤ end
  pub low : end ≤ 2 ^ 26
  pub used_is : bytes_taken_by_all (blocks_behind_first m h end) ≡ end - (h + bytes_taken_by (first_at m h).size)
  pub aligned : h % 4 ≡ 0
  pub held : Holds (byte_at m) (h + bytes_taken_by (first_at m h).size) (blocks_text_of (blocks_behind_first m h end))
  pub text_is : length (blocks_text_of (blocks_behind_first m h end)) ≡ bytes_taken_by_all (blocks_behind_first m h end)

pub closing : (m : AddressMap) (h end : ℕ) → IsText (bytes_of m) h end (first_at m h ∷ blocks_behind_first m h end) → AreClosed m h end
closing m h end is =
    let length_is : end ≡ h + (bytes_taken_by (first_at m h).size + bytes_taken_by_all (blocks_behind_first m h end)) = is.length in
    let last : is_mapped m (end - 1) ≡ true = is.mapped (end - 1) (omega arith) (omega arith) in
    let first : IsFirst (bytes_of m) h end (first_at m h) (blocks_behind_first m h end) = text_first (bytes_of m) h end (first_at m h) (blocks_behind_first m h end) is in
    record {
      whole = is.whole.1;
      fits = omega arith;
      low = omega (arith, mapped_below m (end - 1) last);
      used_is = omega arith;
      aligned = is.aligned;
      held = first.spelled.rest;
      text_is = text_used (blocks_behind_first m h end) is.whole.1;
    }

pub closed_text : (m m1 m3 : AddressMap) (h end next : ℕ) → AreClosed m h end → next ≡ h + bytes_taken_by (first_at m h).size → byte_at m1 ≡ byte_at m
    → ((a : ℕ) → byte_at m3 a ≡ with_moved_at (byte_at m1) next h (end - next) a)
    → (a : ℕ) → byte_at m3 a ≡ with_bytes_at (byte_at m) h (blocks_text_of (blocks_behind_first m h end)) a
closed_text m m1 m3 h end next c next_is same moved =
    let size : length (blocks_text_of (blocks_behind_first m h end)) ≡ end - next = c.text_is ∙ c.used_is ∙ ap (λ (n : ℕ). end - n) (sym next_is) in
    closed_bytes (byte_at m) (byte_at m3) h next (end - next) (blocks_text_of (blocks_behind_first m h end)) size (rw next_is c.held)
    (λ a. moved a ∙ ap (λ (f : ℕ → ℕ). with_moved_at f next h (end - next) a) same)

-- A text's bytes were written, with the old names of its anchors, and it can be settled.
pub record IsWrittenText (shifts : List Shift) (m n : AddressMap) (h end : ℕ) (texts : List Block) : Type 0 where
  pub bytes : (a : ℕ) → byte_at n a ≡ with_bytes_at (byte_at m) h (blocks_text_of texts) a
  pub text : IsText (bytes_of n) h end texts
  pub words : AreAnchorWords (is_mapped n) h end (following shifts (blocks_in (byte_at n) h end))

written_text : (shifts : List Shift) (m n : AddressMap) (h end : ℕ) (texts : List Block) → AreWhole texts → AreLow texts → MayLie m h (following shifts texts) → h % 4 ≡ 0
    → layout n ≡ layout m → ((a : ℕ) → byte_at n a ≡ with_bytes_at (byte_at m) h (blocks_text_of texts) a) → end ≡ h + bytes_taken_by_all texts → IsWrittenText shifts m n h end texts
written_text shifts m n h end texts whole low may aligned same bytes length_is =
    let size : bytes_taken_by_all (following shifts texts) ≡ bytes_taken_by_all texts = following_used shifts texts in
    let text : IsText (bytes_of n) h end texts = settled_text m n h end texts whole low (rw (← size) may.there) aligned same bytes length_is in
    let end_is : end ≡ h + bytes_taken_by_all (following shifts texts) = length_is ∙ ap (λ (k : ℕ). h + k) (sym size) in
    record {
      bytes = bytes;
      text = text;
      words = subst (λ (l : List Block). AreAnchorWords (is_mapped n) h end (following shifts l)) (sym (text_read (bytes_of n) h end texts text))
          (subst (λ (p : ℕ → Bool). AreAnchorWords p h end (following shifts texts)) (sym (is_mapped-layout m n same)) (rw end_is may.words));
    }

-- The block that changes keeps its anchor, which lies outside what moves.
own_stays : (m : AddressMap) (h end at cut more : ℕ) → IsText (bytes_of m) h end (first_at m h ∷ blocks_behind_first m h end)
    → AreAnchorWords (is_mapped m) h end (first_at m h ∷ blocks_behind_first m h end)
    → gone_to (splice_shifts h end (first_at m h).size at cut more) (first_at m h).anchor ≡ (first_at m h).anchor
own_stays m h end at cut more is words =
    let size : ℕ = (first_at m h).size in
    let anchor : ℕ = (first_at m h).anchor in
    let length_is : end ≡ h + (bytes_taken_by size + bytes_taken_by_all (blocks_behind_first m h end)) = is.length in
    let one : Shift = record { from = h + 8 + at; end = h + 8 + size; to = h + 8 + (at - cut + more) } in
    let two : Shift = record { from = h + bytes_taken_by size; end = end; to = h + bytes_taken_by (at - cut + more + (size - at)) } in
    gone_past one (two ∷ []) anchor (elim words.0.0.outside [ inl low ↦ inl (omega arith) | inr high ↦ inr (omega arith) ])
    ∙ gone_past two [] anchor (elim words.0.0.outside [ inl low ↦ inl (omega arith) | inr high ↦ inr high ])

pub replaced_is : (m : AddressMap) (h end at cut more : ℕ) → IsText (bytes_of m) h end (first_at m h ∷ blocks_behind_first m h end)
    → AreAnchorWords (is_mapped m) h end (first_at m h ∷ blocks_behind_first m h end)
    → following (splice_shifts h end (first_at m h).size at cut more) (block_holding (first_at m h) (bytes_after_splice (contents (first_at m h)) at cut more) ∷ blocks_behind_first m h end)
    ≡ blocks_after_splice m h end (record { at = at; cut = cut; more = more })
replaced_is m h end at cut more is words =
    let xs : List ℕ = bytes_after_splice (contents (first_at m h)) at cut more in
    λ i. record { anchor = own_stays m h end at cut more is words i; size = length xs; bytes = whole_words_of_bytes xs }
    ∷ following (splice_shifts h end (first_at m h).size at cut more) (blocks_behind_first m h end)

pub closed_step : (m m1 m3 : AddressMap) (h end total : ℕ) → IsText (bytes_of m) h end (first_at m h ∷ blocks_behind_first m h end) → MayLie m h (blocks_after_removal m h end)
    → total ≡ bytes_taken_by (first_at m h).size → byte_at m1 ≡ byte_at m → layout m3 ≡ layout m
    → ((a : ℕ) → byte_at m3 a ≡ with_moved_at (byte_at m1) (h + total) h (end - (h + total)) a)
    → IsWrittenText (removal_shifts h end (first_at m h).size) m m3 h (h + (end - (h + total))) (blocks_behind_first m h end)
closed_step m m1 m3 h end total is may size same kept moved =
    let k : AreClosed m h end = closing m h end is in
    let next_is : h + total ≡ h + bytes_taken_by (first_at m h).size = ap (λ (n : ℕ). h + n) size in
    let bytes : (a : ℕ) → byte_at m3 a ≡ with_bytes_at (byte_at m) h (blocks_text_of (blocks_behind_first m h end)) a = closed_text m m1 m3 h end (h + total) k next_is same moved in
    let end_is : h + (end - (h + total)) ≡ h + bytes_taken_by_all (blocks_behind_first m h end) = ap (λ (n : ℕ). h + (end - n)) next_is ∙ ap (λ (n : ℕ). h + n) (sym k.used_is) in
    written_text (removal_shifts h end (first_at m h).size) m m3 h (h + (end - (h + total))) (blocks_behind_first m h end) k.whole is.low.1 may k.aligned kept bytes end_is

pub replaced_step : (m m1 m2 m3 : AddressMap) (h end size new old_total new_total at cut more : ℕ)
    → IsText (bytes_of m) h end (first_at m h ∷ blocks_behind_first m h end) → at ≤ (first_at m h).size
    → AreAnchorWords (is_mapped m) h end (first_at m h ∷ blocks_behind_first m h end)
    → MayLie m h (blocks_after_splice m h end (record { at = at; cut = cut; more = more }))
    → size ≡ (first_at m h).size → new ≡ at - cut + more + (size - at) → old_total ≡ bytes_taken_by size → new_total ≡ bytes_taken_by new
    → byte_at m1 ≡ byte_at m → layout m3 ≡ layout m
    → ((a : ℕ) → byte_at m2 a ≡ with_bytes_at (byte_at m1) (h + 8) (whole_words_of_bytes (bytes_after_splice (bytes_between (byte_at m1) (h + 8) size) at cut more)
    ++ bytes_between (byte_at m1) (h + 8 + whole_words size) (end - (h + 8 + whole_words size))) a)
    → ((a : ℕ) → byte_at m3 a ≡ with_word_at (byte_at m2) (h + 4) new a)
    → IsWrittenText (splice_shifts h end (first_at m h).size at cut more) m m3 h (h + new_total + (end - (h + old_total))) (block_holding (first_at m h) (bytes_after_splice (contents (first_at m h)) at cut more) ∷ blocks_behind_first m h end)
replaced_step m m1 m2 m3 h end size new old_total new_total at cut more is inside words may size_is new_is old_is total_is same kept h2 h3 =
    let b : Block = first_at m h in
    let xs : List ℕ = bytes_after_splice (contents b) at cut more in
    let k : AreNumbers m h end at cut more = numbers m h end at cut more is inside may in
    let bytes : (a : ℕ) → byte_at m3 a ≡ with_bytes_at (byte_at m) h (blocks_text_of (block_holding b xs ∷ blocks_behind_first m h end)) a =
    replaced_text m (byte_at m1) (byte_at m2) (byte_at m3) h end size new at cut more is inside size_is new_is same h2 h3 in
    let count : new ≡ length xs = new_is ∙ ap (λ (n : ℕ). at - cut + more + (n - at)) size_is ∙ sym k.new in
    let total : new_total ≡ bytes_taken_by (length xs) = total_is ∙ ap bytes_taken_by count in
    let old : old_total ≡ bytes_taken_by b.size = old_is ∙ ap bytes_taken_by size_is in
    let behind_is : bytes_taken_by_all (blocks_behind_first m h end) ≡ end - (h + bytes_taken_by b.size) = k.used_is in
    let end_is : h + new_total + (end - (h + old_total)) ≡ h + (bytes_taken_by (length xs) + bytes_taken_by_all (blocks_behind_first m h end)) =
    rw (total, old, ← behind_is) (omega arith) in
    written_text (splice_shifts h end b.size at cut more) m m3 h (h + new_total + (end - (h + old_total))) (block_holding b xs ∷ blocks_behind_first m h end)
    (replaced_whole m h end at cut more is k) is.low (subst (λ (l : List Block). MayLie m h l) (sym (replaced_is m h end at cut more is words)) may) is.aligned kept bytes end_is

-- a block of zeros after all others
pub new_whole : (m : AddressMap) (h anchor size : ℕ) → size < 2 ^ 32 → AreWhole (new_block anchor size ∷ [])
new_whole m h anchor size fits = ((length-replicate {A = ℕ} (whole_words size) 0, fits), tt)

pub appended_step : (m m1 m2 m3 : AddressMap) (h anchor size words total : ℕ) → size < 2 ^ 32 → h % 4 ≡ 0 → MayLie m h (new_block anchor size ∷ [])
    → words ≡ whole_words size → total ≡ bytes_taken_by size → layout m3 ≡ layout m
    → ((a : ℕ) → byte_at m1 a ≡ with_word_at (byte_at m) h anchor a) → ((a : ℕ) → byte_at m2 a ≡ with_word_at (byte_at m1) (h + 4) size a)
    → ((a : ℕ) → byte_at m3 a ≡ with_zeros_at (byte_at m2) (h + 8) words a)
    → IsWrittenText [] m m3 h (h + total) (new_block anchor size ∷ [])
appended_step m m1 m2 m3 h anchor size words total fits aligned may words_is total_is kept h1 h2 h3 =
    let bytes : (a : ℕ) → byte_at m3 a ≡ with_bytes_at (byte_at m) h (blocks_text_of (new_block anchor size ∷ [])) a =
    appended (byte_at m) (byte_at m1) (byte_at m2) (byte_at m3) h anchor size (whole_words size) h1 h2
    (λ a. h3 a ∙ ap (λ (n : ℕ). with_zeros_at (byte_at m2) (h + 8) n a) words_is) in
    let end_is : h + total ≡ h + (bytes_taken_by size + 0) = omega arith in
    written_text [] m m3 h (h + total) (new_block anchor size ∷ []) (new_whole m h anchor size fits) (may.words.0.0.low, tt) may aligned kept bytes end_is
