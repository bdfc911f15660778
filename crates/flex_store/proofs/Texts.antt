-- A text of blocks in memory: its first block, what is after that, and what of it stays.
use Rattle.std.proofs.Common.{◌≡◌, ℕ, Bool, ◌+◌, ◌%◌, ◌^◌, ◌<◌, ◌≤◌, true, List, ◌∷◌, length, arith, sym, subst}
use Rattle.os_heap.specs.Bytes.{AreMapped, Bytes, word_at}
use Rattle.flex_store.specs.Blocks.{Block, bytes_taken_by_all, bytes_taken_by, whole_words}
use Rattle.flex_store.specs.Memory.{blocks_text_of, blocks_in}
use Rattle.flex_store.specs.State.{IsText}
use Rattle.flex_store.proofs.Holding.{holds_kept, word_read}
use Rattle.flex_store.proofs.Lists.{text_used}
use Rattle.flex_store.proofs.Reading.{IsSpelled, spelled, reads}

pub text_read : (b : Bytes) (at end : ℕ) (bs : List Block) → IsText b at end bs → blocks_in b.at at end ≡ bs
text_read b at end bs is = rw is.length (reads b.at at bs is.whole is.low is.text)

-- the text after the first block
pub text_next : (b : Bytes) (at end : ℕ) (x : Block) (bs : List Block) → IsText b at end (x ∷ bs) → IsText b (at + bytes_taken_by x.size) end bs
text_next b at end x bs is =
    let length_is : end ≡ at + (bytes_taken_by x.size + bytes_taken_by_all bs) = is.length in
    let aligned : at % 4 ≡ 0 = is.aligned in
    record {
      whole = is.whole.1;
      low = is.low.1;
      text = (spelled b.at at x bs is.whole.0.0 is.text).rest;
      length = omega arith;
      aligned = omega arith;
      mapped = λ a low high. is.mapped a (omega arith) (omega arith);
    }

-- a text is there as long as its bytes are
pub text_kept : (b c : Bytes) (at end : ℕ) (bs : List Block) → c.mapped ≡ b.mapped → ((a : ℕ) → at ≤ a → a < end → c.at a ≡ b.at a)
    → IsText b at end bs → IsText c at end bs
text_kept b c at end bs mapping same is =
    let size : length (blocks_text_of bs) ≡ bytes_taken_by_all bs = text_used bs is.whole in
    let length_is : end ≡ at + bytes_taken_by_all bs = is.length in
    record {
      whole = is.whole;
      low = is.low;
      text = holds_kept b.at c.at at (blocks_text_of bs) (λ a low high. same a low (omega arith)) is.text;
      length = is.length;
      aligned = is.aligned;
      mapped = subst (λ (mapped : ℕ → Bool). AreMapped mapped at (bytes_taken_by_all bs)) (sym mapping) is.mapped;
    }

-- the words of the first block's header
pub record IsFirst (b : Bytes) (at end : ℕ) (x : Block) (bs : List Block) : Type 0 where
  pub anchor : word_at b.at at ≡ x.anchor
  pub size : word_at b.at (at + 4) ≡ x.size
  pub aligned : at % 4 ≡ 0
  pub here : b.mapped at ≡ true
  pub second : b.mapped (at + 4) ≡ true
  pub whole : length x.bytes ≡ whole_words x.size
  pub spelled : IsSpelled b.at at x bs
  pub low : x.anchor < 2 ^ 26
  pub fits : at + bytes_taken_by x.size ≤ end

pub text_first : (b : Bytes) (at end : ℕ) (x : Block) (bs : List Block) → IsText b at end (x ∷ bs) → IsFirst b at end x bs
text_first b at end x bs is =
    let s : IsSpelled b.at at x bs = spelled b.at at x bs is.whole.0.0 is.text in
    let low : x.anchor < 2 ^ 26 = is.low.0 in
    let length_is : end ≡ at + (bytes_taken_by x.size + bytes_taken_by_all bs) = is.length in
    record {
      anchor = word_read b.at at x.anchor (omega arith) s.anchor;
      size = word_read b.at (at + 4) x.size is.whole.0.1 s.size;
      aligned = is.aligned;
      here = is.mapped at (omega arith) (omega arith);
      second = is.mapped (at + 4) (omega arith) (omega arith);
      whole = is.whole.0.0;
      spelled = s;
      low = is.low.0;
      fits = omega arith;
    }
