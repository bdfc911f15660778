-- The marks of the words that items spell: lists put end to end, and a part of a list that is
-- replaced.
use Rattle.std.proofs.Common.{◌+◌, ◌≡◌, ℕ, List, [], ◌∷◌, ◌++◌, ◌||◌, ◌==◌, Bool, true, false, refl, sym, ap, ◌∙◌, add-zero, add_assoc, arith, ◌≤◌, subst, cond}
use Rattle.std.proofs.lemmas.Bool.{true≢false, or_left, or_right, false_from_ne_true}
use Rattle.address_map.specs.Bytes.{word_start}
use Rattle.address_map.specs.Items.{is_head, is_head_of, size_of}
use Rattle.address_map.specs.declared.class.Class.{Class}
use Rattle.address_map.specs.declared.class.Class.TheVariants as class
use Rattle.address_map.specs.declared.item.Item.{Item}
use Rattle.address_map.specs.declared.item.Item.TheVariants.{Free, Live}
use Rattle.os_heap_words.proofs.ListsLemmas.HeadWords.{head_inside}
use Rattle.os_heap_words.proofs.ListsLemmas.ItemWalk.{size_of-gap}
use Rattle.os_heap_words.proofs.ListsLemmas.Spelling.{totals-front, totals-back}
use Rattle.os_heap_words.specs.lists.Heap.{AreTotals}
use Rattle.os_heap_words.specs.lists.Lists.{left_free}
use Rattle.os_heap_words.specs.lists.Marks.{class_after_marking, Remarks, AreMarked, HeadsAreStill, with_item_marked, with_items_marked}

or_next : (a b c : Bool) → ((a || b) || c) ≡ (a || (b || c))
or_next true b c = refl
or_next false b c = refl

or_none : (a : Bool) → (a || false) ≡ a
or_none true = refl
or_none false = refl

-- the words of two lists, one after the other
pub is_head-append : (at : ℕ) (xs ys : List Item) (p : ℕ) → is_head at (xs ++ ys) p ≡ (is_head at xs p || is_head (at + size_of xs) ys p)
is_head-append at [] ys p = ap (λ (q : ℕ). is_head q ys p) (sym (add-zero at))
is_head-append at (Live t ∷ xs) ys p =
    let place : is_head (at + t + size_of xs) ys p ≡ is_head (at + (t + size_of xs)) ys p = ap (λ (q : ℕ). is_head q ys p) (add_assoc at t (size_of xs)) in
    rw (is_head-append (at + t) xs ys p, place) (sym (or_next (p == at) (is_head (at + t) xs p) (is_head (at + (t + size_of xs)) ys p)))
is_head-append at (Free t ∷ xs) ys p =
    let place : is_head (at + t + size_of xs) ys p ≡ is_head (at + (t + size_of xs)) ys p = ap (λ (q : ℕ). is_head q ys p) (add_assoc at t (size_of xs)) in
    rw (is_head-append (at + t) xs ys p, place) (sym (or_next (p == at || p == at + 4) (is_head (at + t) xs p) (is_head (at + (t + size_of xs)) ys p)))

-- one item alone
pub is_head-one : (at : ℕ) (item : Item) (p : ℕ) → is_head at (item ∷ []) p ≡ is_head_of at item p
is_head-one at (Live t) p = or_none (p == at)
is_head-one at (Free t) p = or_none (p == at || p == at + 4)

-- a word of one of two lists, or of none
both_marked : (x y : Bool) (class old mid new : Class) → mid ≡ cond x class old → new ≡ cond y class mid → new ≡ cond (x || y) class old
both_marked true true class old mid new one two = two
both_marked true false class old mid new one two = two ∙ one
both_marked false true class old mid new one two = two
both_marked false false class old mid new one two = two ∙ one

-- the words of one item more
pub one_more : (c d e : ℕ → Class) (at place : ℕ) (items : List Item) (item : Item) (class : Class) → place ≡ at + size_of items
    → ((a : ℕ) → d a ≡ with_items_marked at items class c a) → ((a : ℕ) → e a ≡ with_item_marked place item class d a)
    → (a : ℕ) → e a ≡ with_items_marked at (items ++ item ∷ []) class c a
one_more c d e at place items item class e1 one two a =
    let p : ℕ = word_start a in
    let last : is_head (at + size_of items) (item ∷ []) p ≡ is_head_of place item p = is_head-one (at + size_of items) item p ∙ ap (λ (q : ℕ). is_head_of q item p) (sym e1) in
    rw (is_head-append at items (item ∷ []) p, last) (both_marked (is_head at items p) (is_head_of place item p) class (c a) (d a) (e a) (one a) (two a))

-- lists of the same size leave what is after them where it is
pub still-same : (at : ℕ) (olds news rest : List Item) → size_of news ≡ size_of olds → HeadsAreStill at olds news rest
still-same at olds news rest same p = ap (λ (s : ℕ). is_head (at + s) rest p) same

-- a word of what stays is no word of what is given up, and is marked
replaced_word : (made given before rest : Bool) (old new : Class) → new ≡ class_after_marking made given old
    → (before ≡ true → (given ≡ false) × (old ≡ class.Heap)) → (rest ≡ true → (given ≡ false) × (old ≡ class.Heap))
    → new ≡ class_after_marking (before || (made || rest)) (before || (given || rest)) old
replaced_word true given true rest old new change first last = change
replaced_word true given false rest old new change first last = change
replaced_word false true true rest old new change first last = absurd (true≢false (first refl).0)
replaced_word false false true rest old new change first last = change ∙ (first refl).1
replaced_word false true false true old new change first last = absurd (true≢false (last refl).0)
replaced_word false false false true old new change first last = change ∙ (last refl).1
replaced_word false true false false old new change first last = change
replaced_word false false false false old new change first last = change

-- a part of a list replaced, where just its words were given up and made
pub remarked : (c d : ℕ → Class) (at : ℕ) (before olds news rest : List Item) → AreTotals (before ++ (olds ++ rest))
    → HeadsAreStill (at + size_of before) olds news rest → Remarks c d (at + size_of before) olds news → AreMarked c at (before ++ (olds ++ rest))
    → Remarks c d at (before ++ (olds ++ rest)) (before ++ (news ++ rest))
remarked c d at before olds news rest totals still change marks a =
    let p : ℕ = word_start a in
    let place : ℕ = at + size_of before in
    let first : Bool = is_head at before p in
    let given : Bool = is_head place olds p in
    let last : Bool = is_head (place + size_of olds) rest p in
    let behind : AreTotals (olds ++ rest) = totals-back before (olds ++ rest) totals in
    let old : is_head at (before ++ (olds ++ rest)) p ≡ (first || (given || last)) =
    is_head-append at before (olds ++ rest) p ∙ ap (λ (t : Bool). first || t) (is_head-append place olds rest p) in
    let new : is_head at (before ++ (news ++ rest)) p ≡ (first || (is_head place news p || last)) =
    is_head-append at before (news ++ rest) p
    ∙ ap (λ (t : Bool). first || t) (is_head-append place news rest p ∙ ap (λ (t : Bool). is_head place news p || t) (still p)) in
    let below : first ≡ true → given ≡ true → ⊥ = λ f g.
    let low : (at ≤ p) × (p + 4 ≤ at + size_of before) = head_inside at before p (totals-front before (olds ++ rest) totals) f in
    let high : (place ≤ p) × (p + 4 ≤ place + size_of olds) = head_inside place olds p (totals-front olds rest behind) g in
    omega (arith, low.1, high.0) in
    let past : last ≡ true → given ≡ true → ⊥ = λ f g.
    let high : (place + size_of olds ≤ p) × (p + 4 ≤ place + size_of olds + size_of rest) = head_inside (place + size_of olds) rest p (totals-back olds rest behind) f in
    let low : (place ≤ p) × (p + 4 ≤ place + size_of olds) = head_inside place olds p (totals-front olds rest behind) g in
    omega (arith, low.1, high.0) in
    rw (old, new) (replaced_word (is_head place news p) given first last (c a) (d a) (change a)
    (λ f. (false_from_ne_true given (below f), marks a (old ∙ or_left first (given || last) f)))
    (λ f. (false_from_ne_true given (past f), marks a (old ∙ or_right first (given || last) (or_right given last f)))))

-- the same of a list that is shown to be two
pub remarked_as : (c d : ℕ → Class) (at : ℕ) (before old olds news rest : List Item) → old ≡ olds ++ rest → AreTotals (before ++ old)
    → HeadsAreStill (at + size_of before) olds news rest → Remarks c d (at + size_of before) olds news → AreMarked c at (before ++ old)
    → Remarks c d at (before ++ old) (before ++ (news ++ rest))
remarked_as c d at before old olds news rest split totals still change =
    subst (λ (ys : List Item). AreMarked c at (before ++ ys) → Remarks c d at (before ++ ys) (before ++ (news ++ rest))) (sym split)
    (remarked c d at before olds news rest (subst (λ (ys : List Item). AreTotals (before ++ ys)) split totals) still change)

-- a list that spells the same words
same_word : (given : Bool) (old new : Class) → new ≡ old → (given ≡ true → old ≡ class.Heap) → new ≡ class_after_marking given given old
same_word true old new same mark = same ∙ mark refl
same_word false old new same mark = same

pub unmarked : (c d : ℕ → Class) (at : ℕ) (olds news : List Item) → ((a : ℕ) → d a ≡ c a) → ((p : ℕ) → is_head at news p ≡ is_head at olds p)
    → AreMarked c at olds → Remarks c d at olds news
unmarked c d at olds news same still marks a =
    rw (still (word_start a)) (same_word (is_head at olds (word_start a)) (c a) (d a) (same a) (marks a))

-- as where the last block got another total
pub last_still : (at k t : ℕ) (before : List Item) (p : ℕ) → is_head at (before ++ Live k ∷ []) p ≡ is_head at (before ++ Live t ∷ []) p
last_still at k t before p = is_head-append at before (Live k ∷ []) p ∙ sym (is_head-append at before (Live t ∷ []) p)

-- the bytes of a gap
pub size_of-left : (gap : ℕ) → size_of (left_free gap) ≡ gap
size_of-left gap = omega (arith, size_of-gap [] gap)
