-- A walk over the blocks as a caller sees them.
use Rattle.std.proofs.Common.{◌≡◌, ℕ, ◌+◌, ◌-◌, ◌<◌, ◌≤◌, List, [], ◌∷◌, arith, refl, sym, ◌∙◌, ap, subst}
use Rattle.os_heap.specs.Bytes.{word_at}
use Rattle.os_heap.specs.Memory.{byte_at, bytes_of, is_mapped}
use Rattle.os_heap.specs.AddressMap.{AddressMap}
use Rattle.flex_store.specs.declared.flex.Extent.{Extent}
use Rattle.flex_store.specs.Blocks.{Block, bytes_taken_by, bytes_taken_by_all}
use Rattle.flex_store.specs.Listed.{blocks_with_places}
use Rattle.flex_store.specs.Memory.{blocks_in}
use Rattle.flex_store.specs.State.{blocks_of, IsFlexStore, IsRecordedStore, IsStoreAt, IsText}
use Rattle.flex_store.proofs.Texts.{IsFirst, text_first, text_next, text_read}
use Rattle.flex_store.proofs.Words.{words_low}

-- nothing is left
no_blocks : (f : ℕ → ℕ) (at end : ℕ) → end ≤ at → blocks_in f at end ≡ []
unfolding blocks_in
no_blocks f at end past =
    let none : end - at ≡ 0 = omega arith in
    rw none refl

pub none_listed : (f : ℕ → ℕ) (at end : ℕ) → end ≤ at → blocks_with_places at (blocks_in f at end) ≡ []
none_listed f at end past = ap (blocks_with_places at) (no_blocks f at end past)

-- one block more
pub record IsNextListed (m : AddressMap) (at end next : ℕ) : Type 0 where
  pub list : blocks_with_places at (blocks_in (byte_at m) at end)
      ≡ record { anchor = word_at (byte_at m) at; at = at + 8; size = word_at (byte_at m) (at + 4) } ∷ blocks_with_places next (blocks_in (byte_at m) next end)
  pub rest : IsText (bytes_of m) next end (blocks_in (byte_at m) next end)

next_by : (m : AddressMap) (at end next : ℕ) (bs : List Block) → blocks_in (byte_at m) at end ≡ bs → IsText (bytes_of m) at end bs → at < end
    → next ≡ at + bytes_taken_by (word_at (byte_at m) (at + 4)) → IsNextListed m at end next
next_by m at end next [] same is some here = absurd (let length_is : end ≡ at + 0 = is.length in omega arith)
next_by m at end next (x ∷ bs) same is some here =
    let f : IsFirst (bytes_of m) at end x bs = text_first (bytes_of m) at end x bs is in
    let tail : IsText (bytes_of m) (at + bytes_taken_by x.size) end bs = text_next (bytes_of m) at end x bs is in
    let place : next ≡ at + bytes_taken_by x.size = here ∙ ap (λ (n : ℕ). at + bytes_taken_by n) f.size in
    let read : blocks_in (byte_at m) next end ≡ bs = ap (λ (p : ℕ). blocks_in (byte_at m) p end) place ∙ text_read (bytes_of m) (at + bytes_taken_by x.size) end bs tail in
    record {
      list = ap (blocks_with_places at) same
          ∙ sym (λ i. record { anchor = f.anchor i; at = at + 8; size = f.size i } ∷ blocks_with_places (place i) (read i));
      rest = subst (λ (l : List Block). IsText (bytes_of m) next end l) (sym read) (subst (λ (p : ℕ). IsText (bytes_of m) p end bs) (sym place) tail);
    }

pub next_listed : (m : AddressMap) (at end next : ℕ) → IsText (bytes_of m) at end (blocks_in (byte_at m) at end) → at < end
    → next ≡ at + bytes_taken_by (word_at (byte_at m) (at + 4)) → IsNextListed m at end next
next_listed m at end next is some here = next_by m at end next (blocks_in (byte_at m) at end) refl is some here

-- all blocks of a store
pub text_of_store : (m : AddressMap) (e : Extent) → IsStoreAt m e → IsText (bytes_of m) e.start (e.start + e.used) (blocks_of m e)
text_of_store m e is =
    let s : IsFlexStore m e.start e.end (blocks_of m e) = is.store in
    let total : bytes_taken_by_all (blocks_of m e) ≡ e.used = is.used_is in
    record {
      whole = s.whole;
      low = words_low (is_mapped m) e.start e.end (blocks_of m e) s.words;
      text = s.text;
      length = omega arith;
      aligned = s.range.start_aligned;
      mapped = λ a low high. s.range.there a low (omega (arith, s.fits));
    }

pub store_text : (m : AddressMap) (e : Extent) → IsRecordedStore m e → IsText (bytes_of m) e.start (e.start + e.used) (blocks_of m e)
store_text m e is = text_of_store m e is.held

pub no_text : (m : AddressMap) → IsText (bytes_of m) 0 0 (blocks_in (byte_at m) 0 0)
no_text m = subst (λ (l : List Block). IsText (bytes_of m) 0 0 l) (sym (no_blocks (byte_at m) 0 0 (omega arith))) (record {
  whole = tt;
  low = tt;
  text = λ k below. absurd (omega arith);
  length = refl;
  aligned = refl;
  mapped = λ a low high. absurd (omega arith);
})
