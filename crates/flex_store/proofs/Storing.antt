-- The store once the blocks after a place were laid out anew.
use Rattle.std.proofs.Common.{◌≡◌, ℕ, Bool, ◌+◌, ◌%◌, ◌<◌, ◌≤◌, true, false, ◌||◌, List, [], ◌∷◌, ◌++◌, length, arith, refl, sym, ◌∙◌, ap, inl, inr, ◌⊎◌, subst}
use Rattle.std.proofs.lemmas.Bool.{both_ways, false_from_ne_true, false≢true, or_parts, or_right}
use Rattle.std.proofs.Math.ListN.{length-append}
use Rattle.os_heap_words.specs.RawStoreRegion.{word_bytes}
use Rattle.os_heap.proofs.Bytes.{is_mapped-layout}
use Rattle.os_heap.specs.Bytes.{with_bytes_at, word_start}
use Rattle.os_heap.specs.Classes.{is_anchor, is_flex_header}
use Rattle.os_heap.specs.Memory.{byte_at, bytes_of, class_of, is_mapped, layout}
use Rattle.os_heap.specs.Class.{Class}
use Rattle.os_heap.specs.Class.TheVariants as class
use Rattle.os_heap.specs.AddressMap.{AddressMap}
use Rattle.flex_store.specs.Blocks.{Block, has_anchor, is_header, bytes_taken_by, bytes_taken_by_all}
use Rattle.flex_store.specs.Marks.{class_with_mark, with_marks}
use Rattle.flex_store.specs.Memory.{AreAnchored, Holds, laid_out, standing, blocks_text_of, with_anchors}
use Rattle.flex_store.specs.Relaid.{Relaid}
use Rattle.flex_store.specs.State.{AreAnchorWords, AreInner, AreWhole, IsFlexRange, IsFlexStore, IsText}
use Rattle.flex_store.proofs.Anchoring.{anchors-append, anchors_again, anchors_beside, anchors_hold}
use Rattle.flex_store.proofs.Headers.{anchor_by, header_by, IsWithin, header_within, marks_made}
use Rattle.flex_store.proofs.Holding.{bytes_beside, bytes_held, bytes_written, holds_append, holds_kept, holds_right}
use Rattle.flex_store.proofs.Lists.{anchor-append, header-append, text-append, text_used, used-append, used_aligned, whole_left, whole_right}
use Rattle.flex_store.proofs.Standing.{all_there, standing_anchored, standing_contents, standing_has, standing_header, standing_text, standing_used, standing_whole, standing_words}
use Rattle.flex_store.proofs.Words.{anchor_no_header, words_left, words_low, words_right, word_of}

-- anchors keep what they hold where only bytes after their blocks change, up to the end
pub anchored_kept : (mapped : ℕ → Bool) (start end place : ℕ) (f g : ℕ → ℕ) (at : ℕ) (bs : List Block) → AreAnchorWords mapped start end bs → start + bytes_taken_by_all bs ≤ place
    → ((a : ℕ) → (a < place) ⊎ (end ≤ a) → g a ≡ f a) → AreAnchored f at bs → AreAnchored g at bs
anchored_kept mapped start end place f g at [] words room same anchored = tt
anchored_kept mapped start end place f g at (b ∷ bs) words room same anchored = (
  holds_kept f g b.anchor (word_bytes (at + 8))
      (λ a low high. same a (elim words.0.0.outside [ inl before ↦ inl (omega arith) | inr behind ↦ inr (omega arith) ])) anchored.0,
  anchored_kept mapped (start + bytes_taken_by b.size) end place f g (at + bytes_taken_by b.size) bs words.1 (omega arith) same anchored.1,
)

-- What stands before a place stays where the blocks after it are laid out.
pub laid_behind : (mapped : ℕ → Bool) (start end : ℕ) (f : ℕ → ℕ) (xs ys : List Block) → AreWhole (xs ++ ys) → AreAnchorWords mapped start end (xs ++ ys)
    → start + bytes_taken_by_all (xs ++ ys) ≤ end → Holds f start (blocks_text_of xs) → AreAnchored f start xs
    → (a : ℕ) → laid_out (start + bytes_taken_by_all xs) ys f a ≡ laid_out start (xs ++ ys) f a
unfolding laid_out
laid_behind mapped start end f xs ys whole words fits held anchored a =
    let at : ℕ = start + bytes_taken_by_all xs in
    let g : ℕ → ℕ = with_bytes_at f at (blocks_text_of ys) in
    let size : length (blocks_text_of xs) ≡ bytes_taken_by_all xs = text_used xs (whole_left xs ys whole) in
    let size' : length (blocks_text_of ys) ≡ bytes_taken_by_all ys = text_used ys (whole_right xs ys whole) in
    let e : start + length (blocks_text_of xs) ≡ at = omega arith in
    let fits' : at + bytes_taken_by_all ys ≤ end = omega (arith, used-append xs ys) in
    let one : (x : ℕ) → g x ≡ with_bytes_at f start (blocks_text_of xs ++ blocks_text_of ys) x =
    bytes_written f g start (blocks_text_of xs ++ blocks_text_of ys)
    (holds_append g start (blocks_text_of xs) (blocks_text_of ys)
    (holds_kept f g start (blocks_text_of xs) (λ x low high. bytes_beside f at (blocks_text_of ys) x (inl (omega arith))) held)
    (rw e (bytes_held f at (blocks_text_of ys))))
    (λ x out. bytes_beside f at (blocks_text_of ys) x (elim out [ inl low ↦ inl (omega arith) | inr high ↦ inr (omega (arith, length-append (blocks_text_of xs) (blocks_text_of ys))) ])) in
    let two : AreAnchored g start xs = anchored_kept mapped start end at f g start xs (words_left mapped start end xs ys words) (omega arith)
    (λ x out. bytes_beside f at (blocks_text_of ys) x (elim out [ inl low ↦ inl (omega arith) | inr high ↦ inr (omega arith) ])) anchored in
    ap (λ (h : ℕ → ℕ). with_anchors at ys h a) (λ i x. sym (anchors_again start xs g x two) i)
    ∙ (sym (anchors-append start xs ys g a)
    ∙ (ap (λ (h : ℕ → ℕ). with_anchors start (xs ++ ys) h a) (λ i x. one x i)
    ∙ ap (λ (t : List ℕ). with_anchors start (xs ++ ys) (with_bytes_at f start t) a) (sym (text-append xs ys))))

-- Blocks that were laid out are there, with the anchors that lie in their contents, and each anchor
-- holds its block's address.
pub record IsLaid (f : ℕ → ℕ) (start : ℕ) (bs : List Block) : Type 0 where
  pub text : Holds f start (blocks_text_of (standing f start bs))
  pub anchored : AreAnchored f start bs

pub laid : (mapped : ℕ → Bool) (start end : ℕ) (f g : ℕ → ℕ) (bs : List Block) → start % 4 ≡ 0 → AreWhole bs → AreAnchorWords mapped start end bs
    → AreInner start end bs → start + bytes_taken_by_all bs ≤ end → ((a : ℕ) → g a ≡ laid_out start bs f a) → IsLaid g start bs
unfolding laid_out
laid mapped start end f g bs aligned whole words inner fits h =
    let same : g ≡ with_anchors start bs (with_bytes_at f start (blocks_text_of bs)) = λ i a. h a i in
    let written : ℕ → ℕ = with_bytes_at f start (blocks_text_of bs) in
    record {
      text = standing_text written g start bs aligned whole
          (λ a header. h a ∙ anchors_beside mapped start end start bs written a words (false_from_ne_true (has_anchor bs (word_start a)) (λ has.
          both_ways (is_header start bs (word_start a)) (anchor_no_header start end bs (word_start a) fits inner has) header)))
          (bytes_held f start (blocks_text_of bs));
      anchored = subst (λ (k : ℕ → ℕ). AreAnchored k start bs) (sym same) (anchors_hold mapped start end start bs written words);
    }

-- what holds of the part of the store that stays, and of the words that are marked, before the
-- blocks after it are laid out
pub record IsBefore (m : AddressMap) (start end : ℕ) (xs olds news : List Block) : Type 0 where
  pub range : IsFlexRange (is_mapped m) start end
  pub fits : start + bytes_taken_by_all (xs ++ news) ≤ end
  pub fitted : start + bytes_taken_by_all xs + bytes_taken_by_all olds ≤ end
  pub whole : AreWhole (xs ++ news)
  pub words : AreAnchorWords (is_mapped m) start end (xs ++ news)
  pub inner : AreInner start end (xs ++ news)
  pub text : Holds (byte_at m) start (blocks_text_of xs)
  pub anchored : AreAnchored (byte_at m) start xs
  pub headers : (a : ℕ) → is_flex_header (class_of m a) ≡ (is_header start xs (word_start a) || is_header (start + bytes_taken_by_all xs) olds (word_start a))
  pub anchors : (a : ℕ) → is_anchor (class_of m a) ≡ (has_anchor xs (word_start a) || has_anchor olds (word_start a))
  pub apart : (p : ℕ) → has_anchor olds p ≡ true → has_anchor xs p ≡ false

-- an anchor is no header: of the blocks that are to be there, and of those that were
header_no_anchor : (own : Class) → is_anchor own ≡ true → is_flex_header own ≡ false
header_no_anchor class.Anchor is = refl
header_no_anchor class.FlexHeader is = absurd (false≢true is)
header_no_anchor class.Heap is = absurd (false≢true is)
header_no_anchor class.Plain is = absurd (false≢true is)

new_apart : (m : AddressMap) (start end : ℕ) (xs olds news : List Block) → IsBefore m start end xs olds news → (p : ℕ) → (has_anchor xs p || has_anchor news p) ≡ true
    → (is_header start xs p || is_header (start + bytes_taken_by_all xs) news p) ≡ false
new_apart m start end xs olds news b p has =
    sym (header-append start xs news p) ∙ anchor_no_header start end (xs ++ news) p b.fits b.inner (anchor-append xs news p ∙ has)

old_apart : (m : AddressMap) (start end : ℕ) (xs olds news : List Block) → IsBefore m start end xs olds news → (a : ℕ)
    → (has_anchor xs (word_start a) || has_anchor olds (word_start a)) ≡ true
    → (is_header start xs (word_start a) || is_header (start + bytes_taken_by_all xs) olds (word_start a)) ≡ false
old_apart m start end xs olds news b a has = sym (b.headers a) ∙ header_no_anchor (class_of m a) (b.anchors a ∙ has)

-- the marks then
abbrev pub class_then : Class → ℕ → List Block → List Block → ℕ → Class
class_then own at olds news p =
    class_with_mark class.FlexHeader (is_header at news p) (class_with_mark class.Anchor (has_anchor news p) (class_with_mark class.Plain (is_header at olds p) (class_with_mark class.Plain (has_anchor olds p) own)))

pub relaid_marks : (m n : AddressMap) (start end : ℕ) (xs olds news : List Block) → IsBefore m start end xs olds news
    → Relaid m n (start + bytes_taken_by_all xs) olds news → (a : ℕ) → class_of n a ≡ class_then (class_of m a) (start + bytes_taken_by_all xs) olds news (word_start a)
relaid_marks m n start end xs olds news b r a =
    let at : ℕ = start + bytes_taken_by_all xs in
    let p : ℕ = word_start a in
    r.marks a
    ∙ (marks_made class.FlexHeader class.Anchor at news (with_marks class.Plain class.Plain at olds (class_of m)) a
    (λ is. (or_parts (is_header start xs p) (is_header at news p) (new_apart m start end xs olds news b p (or_right (has_anchor xs p) (has_anchor news p) is))).1)
    ∙ ap (λ (c : Class). class_with_mark class.FlexHeader (is_header at news p) (class_with_mark class.Anchor (has_anchor news p) c))
    (marks_made class.Plain class.Plain at olds (class_of m) a
    (λ is. (or_parts (is_header start xs p) (is_header at olds p) (old_apart m start end xs olds news b a (or_right (has_anchor xs p) (has_anchor olds p) is))).1)))

headers_then : (m n : AddressMap) (start end : ℕ) (xs olds news : List Block) → IsBefore m start end xs olds news
    → Relaid m n (start + bytes_taken_by_all xs) olds news → (a : ℕ) → is_flex_header (class_of n a) ≡ is_header start (xs ++ news) (word_start a)
headers_then m n start end xs olds news b r a =
    let at : ℕ = start + bytes_taken_by_all xs in
    let p : ℕ = word_start a in
    ap is_flex_header (relaid_marks m n start end xs olds news b r a)
    ∙ (header_by (class_of m a) (is_header at news p) (has_anchor news p) (is_header at olds p) (has_anchor olds p) (is_header start xs p)
    (λ is. new_apart m start end xs olds news b p (or_right (has_anchor xs p) (has_anchor news p) is))
    (λ old. false_from_ne_true (is_header start xs p) (λ before.
    let o : IsWithin at (bytes_taken_by_all olds) p = header_within at olds p old in
    let x : IsWithin start (bytes_taken_by_all xs) p = header_within start xs p before in
    omega (arith, o.from, x.below)))
    (λ is. old_apart m start end xs olds news b a (or_right (has_anchor xs p) (has_anchor olds p) is)) (b.headers a)
    ∙ sym (header-append start xs news p))

anchors_then : (m n : AddressMap) (start end : ℕ) (xs olds news : List Block) → IsBefore m start end xs olds news
    → Relaid m n (start + bytes_taken_by_all xs) olds news → (a : ℕ) → is_anchor (class_of n a) ≡ has_anchor (xs ++ news) (word_start a)
anchors_then m n start end xs olds news b r a =
    let at : ℕ = start + bytes_taken_by_all xs in
    let p : ℕ = word_start a in
    ap is_anchor (relaid_marks m n start end xs olds news b r a)
    ∙ (anchor_by (class_of m a) (is_header at news p) (has_anchor news p) (is_header at olds p) (has_anchor olds p) (has_anchor xs p)
    (λ new. false_from_ne_true (has_anchor xs p || has_anchor news p) (λ is.
    both_ways (is_header start xs p || is_header at news p) (new_apart m start end xs olds news b p is) (or_right (is_header start xs p) (is_header at news p) new)))
    (λ old. false_from_ne_true (has_anchor xs p || has_anchor olds p) (λ is.
    both_ways (is_header start xs p || is_header at olds p) (old_apart m start end xs olds news b a is) (or_right (is_header start xs p) (is_header at olds p) old)))
    (b.apart p) (b.anchors a)
    ∙ sym (anchor-append xs news p))

-- The store then has the blocks with the bytes that stand there.
pub record IsRelaid (m n : AddressMap) (start end : ℕ) (news : List Block) : Type 0 where
  pub words : AreAnchorWords (is_mapped n) start end news
  pub bytes : (a : ℕ) → byte_at n a ≡ laid_out start news (byte_at m) a
  pub there : IsLaid (byte_at n) start news
  pub same : layout n ≡ layout m

pub relaid : (m n : AddressMap) (start end : ℕ) (xs olds news : List Block) → IsBefore m start end xs olds news
    → Relaid m n (start + bytes_taken_by_all xs) olds news → IsRelaid m n start end (xs ++ news)
relaid m n start end xs olds news b r =
    let bytes : (a : ℕ) → byte_at n a ≡ laid_out start (xs ++ news) (byte_at m) a =
    λ a. r.bytes a ∙ laid_behind (is_mapped m) start end (byte_at m) xs news b.whole b.words b.fits b.text b.anchored a in
    record {
      words = subst (λ (p : ℕ → Bool). AreAnchorWords p start end (xs ++ news)) (sym (is_mapped-layout m n r.same)) b.words;
      bytes = bytes;
      there = laid (is_mapped m) start end (byte_at m) (byte_at n) (xs ++ news) b.range.start_aligned b.whole b.words b.inner b.fits bytes;
      same = r.same;
    }

pub relaid_store : (m n : AddressMap) (start end : ℕ) (xs olds news : List Block) → IsBefore m start end xs olds news
    → Relaid m n (start + bytes_taken_by_all xs) olds news → IsFlexStore n start end (standing (byte_at n) start (xs ++ news))
relaid_store m n start end xs olds news b r =
    let bs : List Block = xs ++ news in
    let g : ℕ → ℕ = byte_at n in
    let k : IsRelaid m n start end bs = relaid m n start end xs olds news b r in
    let size : bytes_taken_by_all (standing g start bs) ≡ bytes_taken_by_all bs = standing_used g start bs in
    record {
      range = subst (λ (p : ℕ → Bool). IsFlexRange p start end) (sym (is_mapped-layout m n r.same)) b.range;
      fits = omega (arith, b.fits);
      whole = standing_whole g start bs b.whole;
      words = standing_words (is_mapped n) (is_mapped n) start end g start bs (all_there (is_mapped n) bs (λ a has. (word_of (is_mapped n) start end bs a k.words has).there)) k.words;
      inner = λ a has low high. standing_contents g start start bs a ∙ b.inner a (sym (standing_has g start bs a) ∙ has) low high;
      text = k.there.text;
      anchored = standing_anchored (is_mapped n) start end g g g start bs k.words (λ a has. refl) k.there.anchored;
      headers = λ a. headers_then m n start end xs olds news b r a ∙ sym (standing_header g start bs (word_start a));
      anchors = λ a. anchors_then m n start end xs olds news b r a ∙ sym (standing_has g start bs (word_start a));
    }

-- the text from a block on
pub tail_text : (m : AddressMap) (start end : ℕ) (xs ys : List Block) → IsFlexStore m start end (xs ++ ys)
    → IsText (bytes_of m) (start + bytes_taken_by_all xs) (start + bytes_taken_by_all (xs ++ ys)) ys
tail_text m start end xs ys s =
    let size : length (blocks_text_of xs) ≡ bytes_taken_by_all xs = text_used xs (whole_left xs ys s.whole) in
    let all : bytes_taken_by_all (xs ++ ys) ≡ bytes_taken_by_all xs + bytes_taken_by_all ys = used-append xs ys in
    let aligned : start % 4 ≡ 0 = s.range.start_aligned in
    let multiple : bytes_taken_by_all xs % 4 ≡ 0 = used_aligned xs in
    let fits : start + bytes_taken_by_all (xs ++ ys) ≤ end = s.fits in
    let held : Holds (byte_at m) (start + length (blocks_text_of xs)) (blocks_text_of ys) =
    holds_right (byte_at m) start (blocks_text_of xs) (blocks_text_of ys) (rw text-append at s.text) in
    record {
      whole = whole_right xs ys s.whole;
      low = words_low (is_mapped m) (start + bytes_taken_by_all xs) end ys (words_right (is_mapped m) start end xs ys s.words);
      text = rw size at held;
      length = omega arith;
      aligned = omega arith;
      mapped = λ a low high. s.range.there a (omega arith) (omega arith);
    }
