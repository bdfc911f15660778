-- The words of the flex store, its headers and anchors, over calls on heaps: they stay what they are.
use Rattle.std.proofs.Common.{Bool, List, ℕ, ◌≡◌, true, false, refl, sym, ap, ◌∙◌, cond}
use Rattle.std.proofs.lemmas.Bool.{false≢true}
use Rattle.os_heap_words.specs.Bytes.{in_range, word_start}
use Rattle.os_heap_words.specs.Classes.{is_flex_header, is_anchor}
use Rattle.os_heap_words.specs.Items.{is_head}
use Rattle.os_heap_words.specs.Class.{Class}
use Rattle.os_heap_words.specs.Class.TheVariants as class
use Rattle.os_heap_words.specs.Item.{Item}
use Rattle.os_heap_words.specs.lists.Marks.{class_after_marking, Remarks, AreMarked}

-- a word that is no one of the flex store's
pub record IsUnflexed (own : Class) : Type 0 where
  pub anchor : is_anchor own ≡ false
  pub header : is_flex_header own ≡ false

abbrev pub AreUnflexed : (ℕ → Class) → ℕ → List Item → Type 0
AreUnflexed classes at items = (a : ℕ) → is_head at items (word_start a) ≡ true → IsUnflexed (classes a)

-- the anchors and headers of flex blocks are the same
pub record AreSameFlex (old new : ℕ → Class) : Type 0 where
  pub anchors : (a : ℕ) → is_anchor (new a) ≡ is_anchor (old a)
  pub headers : (a : ℕ) → is_flex_header (new a) ≡ is_flex_header (old a)

-- they stay where neither a word that is made a head nor one given up is theirs
flex_by : (made given : Bool) (old new : Class) → new ≡ class_after_marking made given old → (made ≡ true → IsUnflexed old) → (given ≡ true → old ≡ class.Heap)
    → (is_anchor new ≡ is_anchor old) × (is_flex_header new ≡ is_flex_header old)
flex_by true given old new change unflexed heap =
    (ap is_anchor change ∙ sym (unflexed refl).anchor, ap is_flex_header change ∙ sym (unflexed refl).header)
flex_by false true old new change unflexed heap =
    (ap is_anchor change ∙ ap is_anchor (sym (heap refl)), ap is_flex_header change ∙ ap is_flex_header (sym (heap refl)))
flex_by false false old new change unflexed heap = (ap is_anchor change, ap is_flex_header change)

pub flex_held : (c d : ℕ → Class) (at : ℕ) (olds news : List Item) → AreMarked c at olds → Remarks c d at olds news → AreUnflexed c at news → AreSameFlex c d
flex_held c d at olds news heads change unflexed = record {
  anchors = λ a. (flex_by (is_head at news (word_start a)) (is_head at olds (word_start a)) (c a) (d a) (change a) (unflexed a) (heads a)).0;
  headers = λ a. (flex_by (is_head at news (word_start a)) (is_head at olds (word_start a)) (c a) (d a) (change a) (unflexed a) (heads a)).1;
}

pub flex_begun : (c d : ℕ → Class) (start : ℕ) → ((a : ℕ) → d a ≡ cond (in_range start 16 (word_start a)) class.Heap (c a))
    → ((a : ℕ) → in_range start 16 (word_start a) ≡ true → IsUnflexed (c a)) → AreSameFlex c d
flex_begun c d start change unflexed = record {
  anchors = λ a. (flex_by (in_range start 16 (word_start a)) false (c a) (d a) (as_marked (in_range start 16 (word_start a)) (c a) (d a) (change a)) (unflexed a) (λ is. absurd (false≢true is))).0;
  headers = λ a. (flex_by (in_range start 16 (word_start a)) false (c a) (d a) (as_marked (in_range start 16 (word_start a)) (c a) (d a) (change a)) (unflexed a) (λ is. absurd (false≢true is))).1;
} where
  as_marked : (here : Bool) (old new : Class) → new ≡ cond here class.Heap old → new ≡ class_after_marking here false old
  as_marked true old new change = change
  as_marked false old new change = change

-- marks that stay
pub same_flex : (c d : ℕ → Class) → d ≡ c → AreSameFlex c d
same_flex c d same = record { anchors = λ a i. is_anchor (same i a); headers = λ a i. is_flex_header (same i a) }

pub flex_on : (c d e : ℕ → Class) → AreSameFlex c d → AreSameFlex d e → AreSameFlex c e
flex_on c d e first next = record {
  anchors = λ a. next.anchors a ∙ first.anchors a;
  headers = λ a. next.headers a ∙ first.headers a;
}
