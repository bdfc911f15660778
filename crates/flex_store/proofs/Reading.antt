-- Memory that spells blocks is read as just these blocks.
use Rattle.std.proofs.Common.{◌≡◌, ℕ, ◌+◌, ◌-◌, ◌^◌, ◌<◌, ◌≤◌, List, [], ◌∷◌, ◌++◌, length, map, arith, refl, sym, ◌∙◌, suc, zero}
use Rattle.std.proofs.lemmas.Bool.{le-leb, lt-leb}
use Rattle.std.proofs.lemmas.Grind.{same_number_lists}
use Rattle.std.proofs.lemmas.List.FromFn.{get_or-map-range_with_len, length-map-range_with_len}
use Rattle.std.specs.List.{range_with_len}
use Rattle.os_heap_words.specs.RawStoreRegion.{word_bytes}
use Rattle.os_heap.specs.Bytes.{bytes_between, word_at}
use Rattle.flex_store.specs.Blocks.{Block, bytes_taken_by_all, bytes_taken_by, whole_words}
use Rattle.flex_store.specs.Memory.{Holds, blocks_text_of, block_at, blocks_from, blocks_in}
use Rattle.flex_store.specs.State.{AreLow, AreWhole}
use Rattle.flex_store.proofs.Holding.{holds_left, holds_right, word_read}

-- what memory holds of a block, and of those after it
pub record IsSpelled (f : ℕ → ℕ) (at : ℕ) (b : Block) (bs : List Block) : Type 0 where
  pub anchor : Holds f at (word_bytes b.anchor)
  pub size : Holds f (at + 4) (word_bytes b.size)
  pub bytes : Holds f (at + 8) b.bytes
  pub rest : Holds f (at + bytes_taken_by b.size) (blocks_text_of bs)

pub spelled : (f : ℕ → ℕ) (at : ℕ) (b : Block) (bs : List Block) → length b.bytes ≡ whole_words b.size → Holds f at (blocks_text_of (b ∷ bs))
    → IsSpelled f at b bs
spelled f at b bs whole h =
    let tail : Holds f (at + 4) (word_bytes b.size ++ (b.bytes ++ blocks_text_of bs)) = holds_right f at (word_bytes b.anchor) (word_bytes b.size ++ (b.bytes ++ blocks_text_of bs)) h in
    let inner : Holds f (at + 4 + 4) (b.bytes ++ blocks_text_of bs) = holds_right f (at + 4) (word_bytes b.size) (b.bytes ++ blocks_text_of bs) tail in
    let e8 : at + 4 + 4 ≡ at + 8 = omega arith in
    let after : at + 4 + 4 + length b.bytes ≡ at + bytes_taken_by b.size = omega arith in
    record {
      anchor = holds_left f at (word_bytes b.anchor) (word_bytes b.size ++ (b.bytes ++ blocks_text_of bs)) h;
      size = holds_left f (at + 4) (word_bytes b.size) (b.bytes ++ blocks_text_of bs) tail;
      bytes = rw e8 at (holds_left f (at + 4 + 4) b.bytes (blocks_text_of bs) inner);
      rest = rw after at (holds_right f (at + 4 + 4) b.bytes (blocks_text_of bs) inner);
    }

pub bytes_read : (f : ℕ → ℕ) (at n : ℕ) (xs : List ℕ) → length xs ≡ n → Holds f at xs → bytes_between f at n ≡ xs
bytes_read f at n xs len h =
    same_number_lists (map f (range_with_len at n)) xs (length-map-range_with_len f at n ∙ sym len)
    (λ k below.
    let low : k < n = omega (arith, length-map-range_with_len f at n) in
    get_or-map-range_with_len f at n k (at + k) 0 low refl ∙ h k (omega arith))

pub block_read : (f : ℕ → ℕ) (at : ℕ) (b : Block) (bs : List Block) → length b.bytes ≡ whole_words b.size → b.anchor < 2 ^ 32 → b.size < 2 ^ 32
    → IsSpelled f at b bs → block_at f at ≡ b
block_read f at b bs whole anchor_fits size_fits is =
    let anchor : word_at f at ≡ b.anchor = word_read f at b.anchor anchor_fits is.anchor in
    let size : word_at f (at + 4) ≡ b.size = word_read f (at + 4) b.size size_fits is.size in
    let bytes : bytes_between f (at + 8) (whole_words (word_at f (at + 4))) ≡ b.bytes =
    rw size (bytes_read f (at + 8) (whole_words b.size) b.bytes whole is.bytes) in
    λ i. record { anchor = anchor i; size = size i; bytes = bytes i }

reads_from : (most : ℕ) (f : ℕ → ℕ) (at : ℕ) (bs : List Block) → bytes_taken_by_all bs ≤ most → AreWhole bs → AreLow bs → Holds f at (blocks_text_of bs)
    → blocks_from most f at (at + bytes_taken_by_all bs) ≡ bs
reads_from zero f at [] enough whole low h = refl
reads_from (suc most) f at [] enough whole low h = rw (le-leb (at + 0) at (omega arith)) refl
reads_from zero f at (b ∷ bs) enough whole low h = absurd (omega arith)
reads_from (suc most) f at (b ∷ bs) enough whole low h =
    let is : IsSpelled f at b bs = spelled f at b bs whole.0.0 h in
    let fits : b.anchor < 2 ^ 26 = low.0 in
    let size : word_at f (at + 4) ≡ b.size = word_read f (at + 4) b.size whole.0.1 is.size in
    let here : block_at f at ≡ b = block_read f at b bs whole.0.0 (omega arith) whole.0.1 is in
    let e : at + (bytes_taken_by b.size + bytes_taken_by_all bs) ≡ at + bytes_taken_by b.size + bytes_taken_by_all bs = omega arith in
    let rest : blocks_from most f (at + bytes_taken_by b.size) (at + bytes_taken_by b.size + bytes_taken_by_all bs) ≡ bs =
    reads_from most f (at + bytes_taken_by b.size) bs (omega arith) whole.1 low.1 is.rest in
    rw (lt-leb (at + (bytes_taken_by b.size + bytes_taken_by_all bs)) at (omega arith), here, size, e, rest) refl

pub reads : (f : ℕ → ℕ) (at : ℕ) (bs : List Block) → AreWhole bs → AreLow bs → Holds f at (blocks_text_of bs) → blocks_in f at (at + bytes_taken_by_all bs) ≡ bs
unfolding blocks_in
reads f at bs whole low h = reads_from (at + bytes_taken_by_all bs - at) f at bs (omega arith) whole low h
