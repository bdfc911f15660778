-- Bytes that stay bytes: of lists, of words that are written, and of blocks that are laid out.
use Rattle.std.proofs.Common.{ℕ, ◌≡◌, ◌<◌, ◌+◌, ◌-◌, ◌==◌, zero, suc, List, [], ◌∷◌, ◌++◌, length, slice_index, take, drop, replicate, inl, inr, arith}
use Rattle.std.proofs.lemmas.Bool.{cases_Bool}
use Rattle.address_map.proofs.Stores.{in_range-cases}
use Rattle.address_map.specs.Bytes.{with_bytes_at, with_word_at}
use Rattle.address_map.specs.RawStoreRegion.{word_bytes}
use Rattle.flex_store.specs.Blocks.{Block, contents, whole_words_of_bytes, bytes_with_size, bytes_after_splice, bytes_taken_by, whole_words}
use Rattle.flex_store.specs.Memory.{Holds, laid_out, blocks_text_of, with_anchors}
use Rattle.flex_store.specs.Shifts.{following, Shifts}
use Rattle.law_machine.specs.flex.Laws.{AreBytes}

abbrev pub AreSmall : List ℕ → Type 0
AreSmall [] = Unit {0}
AreSmall (x ∷ xs) = (x < 256) × AreSmall xs

small_append : (xs ys : List ℕ) → AreSmall xs → AreSmall ys → AreSmall (xs ++ ys)
small_append [] ys one two = two
small_append (x ∷ xs) ys one two = (one.0, small_append xs ys one.1 two)

small_first : (xs ys : List ℕ) → AreSmall (xs ++ ys) → AreSmall xs
small_first [] ys all = tt
small_first (x ∷ xs) ys all = (all.0, small_first xs ys all.1)

small_last : (xs ys : List ℕ) → AreSmall (xs ++ ys) → AreSmall ys
small_last [] ys all = all
small_last (x ∷ xs) ys all = small_last xs ys all.1

small_take : (n : ℕ) (xs : List ℕ) → AreSmall xs → AreSmall (take n xs)
small_take zero xs all = tt
small_take (suc n) [] all = tt
small_take (suc n) (x ∷ xs) all = (all.0, small_take n xs all.1)

small_drop : (n : ℕ) (xs : List ℕ) → AreSmall xs → AreSmall (drop n xs)
small_drop zero xs all = all
small_drop (suc n) [] all = tt
small_drop (suc n) (x ∷ xs) all = small_drop n xs all.1

pub small_zeros : (n : ℕ) → AreSmall (replicate n 0)
small_zeros zero = tt
small_zeros (suc n) = (omega arith, small_zeros n)

small_index : (xs : List ℕ) (k : ℕ) → k < length xs → AreSmall xs → slice_index xs k < 256
small_index [] k below all = absurd (omega (arith, below))
small_index (x ∷ xs) zero below all = all.0
small_index (x ∷ xs) (suc k) below all = small_index xs k (omega (arith, below)) all.1

-- what memory holds
small_by : (xs : List ℕ) → ((k : ℕ) → k < length xs → slice_index xs k < 256) → AreSmall xs
small_by [] each = tt
small_by (x ∷ xs) each = (each 0 (omega arith), small_by xs (λ k below. each (suc k) (omega (arith, below))))

pub small_held : (f : ℕ → ℕ) (at : ℕ) (xs : List ℕ) → AreBytes f → Holds f at xs → AreSmall xs
small_held f at xs small holds = small_by xs (λ k below. let is : f (at + k) ≡ slice_index xs k = holds k below in omega (arith, is, small (at + k)))

small_word : (w : ℕ) → AreSmall (word_bytes w)
small_word w = (omega arith, (omega arith, (omega arith, (omega arith, tt))))

-- the bytes of blocks
abbrev pub AreSmallBlocks : List Block → Type 0
AreSmallBlocks [] = Unit {0}
AreSmallBlocks (b ∷ bs) = AreSmall b.bytes × AreSmallBlocks bs

pub blocks_small : (bs : List Block) → AreSmall (blocks_text_of bs) → AreSmallBlocks bs
blocks_small [] all = tt
blocks_small (b ∷ bs) all =
    let rest = small_last (word_bytes b.size) (b.bytes ++ blocks_text_of bs) (small_last (word_bytes b.anchor) (word_bytes b.size ++ (b.bytes ++ blocks_text_of bs)) all) in
    (small_first b.bytes (blocks_text_of bs) rest, blocks_small bs (small_last b.bytes (blocks_text_of bs) rest))

pub text_small : (bs : List Block) → AreSmallBlocks bs → AreSmall (blocks_text_of bs)
text_small [] all = tt
text_small (b ∷ bs) all =
    small_append (word_bytes b.anchor) (word_bytes b.size ++ (b.bytes ++ blocks_text_of bs)) (small_word b.anchor)
    (small_append (word_bytes b.size) (b.bytes ++ blocks_text_of bs) (small_word b.size) (small_append b.bytes (blocks_text_of bs) all.0 (text_small bs all.1)))

small_filled : (c : List ℕ) → AreSmall c → AreSmall (whole_words_of_bytes c)
small_filled c all = small_append c (replicate (whole_words (length c) - length c) 0) all (small_zeros (whole_words (length c) - length c))

pub small_resized : (b : Block) (size : ℕ) → AreSmall b.bytes → AreSmall (whole_words_of_bytes (bytes_with_size (contents b) size))
small_resized b size all =
    let c : List ℕ = contents b in
    small_filled (bytes_with_size c size)
    (small_append (take size c) (replicate (size - length c) 0) (small_take size c (small_take b.size b.bytes all)) (small_zeros (size - length c)))

pub small_spliced : (b : Block) (at cut more : ℕ) → AreSmall b.bytes → AreSmall (whole_words_of_bytes (bytes_after_splice (contents b) at cut more))
small_spliced b at cut more all =
    let c : List ℕ = contents b in
    let own : AreSmall c = small_take b.size b.bytes all in
    small_filled (bytes_after_splice c at cut more)
    (small_append (take (at - cut) c) (replicate more 0 ++ drop at c) (small_take (at - cut) c own)
    (small_append (replicate more 0) (drop at c) (small_zeros more) (small_drop at c own)))

-- what is written
pub word_small : (f : ℕ → ℕ) (at v : ℕ) → AreBytes f → AreBytes (with_word_at f at v)
word_small f at v small a = elim (cases_Bool (a == at)) [
  | inl zeroth ↦ rw zeroth (omega arith)
  | inr past0 ↦ elim (cases_Bool (a == at + 1)) [
    | inl first ↦ rw (past0, first) (omega arith)
    | inr past1 ↦ elim (cases_Bool (a == at + 2)) [
      | inl second ↦ rw (past0, past1, second) (omega arith)
      | inr past2 ↦ elim (cases_Bool (a == at + 3)) [
        | inl third ↦ rw (past0, past1, past2, third) (omega arith)
        | inr past3 ↦ rw (past0, past1, past2, past3) (small a)
      ]
    ]
  ]
]

bytes_small : (f : ℕ → ℕ) (at : ℕ) (new : List ℕ) → AreBytes f → AreSmall new → AreBytes (with_bytes_at f at new)
bytes_small f at new small all a = elim (in_range-cases at (length new) a) [
  | inl r ↦ rw r.0 (small_index new (a - at) (omega (arith, r.1, r.2)) all)
  | inr r ↦ rw r.0 (small a)
]

anchors_small : (at : ℕ) (bs : List Block) (f : ℕ → ℕ) → AreBytes f → AreBytes (with_anchors at bs f)
anchors_small at [] f small = small
anchors_small at (b ∷ bs) f small = anchors_small (at + bytes_taken_by b.size) bs (with_word_at f b.anchor (at + 8)) (word_small f b.anchor (at + 8) small)

pub laid_small : (at : ℕ) (bs : List Block) (f : ℕ → ℕ) → AreBytes f → AreSmallBlocks bs → AreBytes (laid_out at bs f)
unfolding laid_out
laid_small at bs f small all = anchors_small at bs (with_bytes_at f at (blocks_text_of bs)) (bytes_small f at (blocks_text_of bs) small (text_small bs all))

-- parts of lists of blocks, and blocks whose anchors moved
pub small_right : (xs ys : List Block) → AreSmallBlocks (xs ++ ys) → AreSmallBlocks ys
small_right [] ys all = all
small_right (x ∷ xs) ys all = small_right xs ys all.1

pub small_following : (ss : Shifts) (bs : List Block) → AreSmallBlocks bs → AreSmallBlocks (following ss bs)
small_following ss [] all = tt
small_following ss (b ∷ bs) all = (all.0, small_following ss bs all.1)
