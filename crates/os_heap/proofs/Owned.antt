-- The bytes that guests must leave alone are those of the words that the heaps spell, and of the flex store's.
use Rattle.std.proofs.Common.{Bool, ◌≡◌, refl, ◌∙◌, ℕ, not, ◌||◌, ap, arith}
use Rattle.os_heap_words.specs.Bytes.{word_start}
use Rattle.os_heap_words.specs.Classes.{is_heap_class, is_flex_header, is_anchor}
use Rattle.os_heap_words.specs.Memory.{is_plain, class_of, is_owned}
use Rattle.os_heap_words.specs.Class.{Class}
use Rattle.os_heap_words.specs.Class.TheVariants as class
use Rattle.os_heap_words.specs.AddressMap.{AddressMap}
use Rattle.os_heap_words.proofs.AddressMapWords.{class_of-word}
use Rattle.os_heap_words.specs.lists.Marks.{spells_any}
use Rattle.os_heap.specs.Store.{AreClasses, owned_in, store_of}

owned_mark : (own : Class) → not (is_plain own) ≡ (is_heap_class own || (is_flex_header own || is_anchor own))
owned_mark class.Plain = refl
owned_mark class.Heap = refl
owned_mark class.FlexHeader = refl
owned_mark class.Anchor = refl

-- where the marks of heaps are those of the lists
owned_at : (m : AddressMap) (a : ℕ) → AreClasses m → is_owned m a ≡ owned_in (store_of m) a
unfolding is_owned owned_in store_of
owned_at m a same =
    let word : class_of m a ≡ class_of m (word_start a) = class_of-word m a (word_start a) (omega arith) in
    owned_mark (class_of m a)
    ∙ ap (λ (t : Bool). t || (is_flex_header (class_of m a) || is_anchor (class_of m a))) (same a)
    ∙ ap (λ (own : Class). spells_any (store_of m).heaps (word_start a) || (is_flex_header own || is_anchor own)) word

pub owned_marks : (m : AddressMap) → AreClasses m → is_owned m ≡ owned_in (store_of m)
owned_marks m same = λ i a. owned_at m a same i
