-- A walk that seeks a word in the contents of blocks.
use Rattle.std.proofs.Common.{◌≡◌, ℕ, Bool, ◌+◌, ◌<◌, ◌≤◌, ◌||◌, ◌&&◌, true, false, List, [], ◌∷◌, arith, sym, ◌∙◌, ap}
use Rattle.std.specs.Prelude.{nat_le}
use Rattle.os_heap.specs.Bytes.{word_at}
use Rattle.os_heap.specs.Memory.{byte_at, bytes_of}
use Rattle.os_heap.specs.AddressMap.{AddressMap}
use Rattle.flex_store.specs.Blocks.{Block, is_held_word, is_in_contents, bytes_taken_by}
use Rattle.flex_store.specs.Memory.{blocks_in}
use Rattle.flex_store.specs.State.{IsText}
use Rattle.flex_store.proofs.Texts.{IsFirst, text_first, text_next}
use Rattle.flex_store.proofs.Walks.{ended}

-- what is left to look at: the word is in these if it is in all
pub record IsSought (m : AddressMap) (at place to end : ℕ) : Type 0 where
  pub rest : List Block
  pub text : IsText (bytes_of m) to end rest
  pub same : is_in_contents to rest place ≡ is_in_contents at (blocks_in (byte_at m) at end) place

-- is it in the first one?
pub record IsLookedAt (m : AddressMap) (at place to end : ℕ) : Type 0 where
  pub here : (nat_le (to + 8) place && nat_le (place + 4) (to + 8 + word_at (byte_at m) (to + 4))) ≡ true → is_in_contents at (blocks_in (byte_at m) at end) place ≡ true
  pub there : (nat_le (to + 8) place && nat_le (place + 4) (to + 8 + word_at (byte_at m) (to + 4))) ≡ false
      → IsSought m at place (to + bytes_taken_by (word_at (byte_at m) (to + 4))) end

looked_by : (m : AddressMap) (at place to end : ℕ) (rest : List Block) → to < end → IsText (bytes_of m) to end rest
    → is_in_contents to rest place ≡ is_in_contents at (blocks_in (byte_at m) at end) place → IsLookedAt m at place to end
looked_by m at place to end [] some is same = absurd (let length_is : end ≡ to + 0 = is.length in omega arith)
looked_by m at place to end (x ∷ bs) some is same =
    let f : IsFirst (bytes_of m) to end x bs = text_first (bytes_of m) to end x bs is in
    let held : is_held_word to x place ≡ (nat_le (to + 8) place && nat_le (place + 4) (to + 8 + word_at (byte_at m) (to + 4))) =
    ap (λ (n : ℕ). nat_le (to + 8) place && nat_le (place + 4) (to + 8 + n)) (sym f.size) in
    record {
      here = λ is_here. sym same ∙ ap (λ (t : Bool). t || is_in_contents (to + bytes_taken_by x.size) bs place) (held ∙ is_here);
      there = λ other. rw f.size (record {
        rest = bs;
        text = text_next (bytes_of m) to end x bs is;
        same = sym (ap (λ (t : Bool). t || is_in_contents (to + bytes_taken_by x.size) bs place) (held ∙ other)) ∙ same;
      });
    }

pub looked_at : (m : AddressMap) (at place to end : ℕ) → to < end → IsSought m at place to end → IsLookedAt m at place to end
looked_at m at place to end some s = looked_by m at place to end s.rest some s.text s.same

pub sought_all : (m : AddressMap) (at place to end : ℕ) → end ≤ to → IsSought m at place to end → false ≡ is_in_contents at (blocks_in (byte_at m) at end) place
sought_all m at place to end past s =
    ap (λ (l : List Block). is_in_contents to l place) (sym (ended to end (bytes_of m) s.rest past s.text)) ∙ s.same
