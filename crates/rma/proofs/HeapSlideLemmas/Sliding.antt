-- A slide from item to item: what the words of the next one say, and what holds after it.
use Rattle.std.proofs.Common.{List, ℕ, Bool, [], ◌∷◌, ◌++◌, ◌≡◌, ◌≢◌, ◌≤◌, ◌<◌, ◌+◌, ◌-◌, ◌%◌, ◌==◌, ◌||◌, ◌∙◌, true, false, refl, sym, ap, subst, inl, inr, append_assoc, append-nil, arith, length, cond}
use Rattle.std.proofs.lemmas.Bool.{cases_Bool, eqb-true, eq-eqb}
use Rattle.dynamic_areas.proofs.Equations.{same_bytes}
use Rattle.dynamic_areas.proofs.AddressMapStores.{in_range-cases}
use Rattle.dynamic_areas.specs.Bytes.{Bytes, with_moved_at, word_at, word_start}
use Rattle.dynamic_areas.specs.Items.{is_head, is_head_of, is_total, items_in, link_target, size_of}
use Rattle.dynamic_areas.specs.Memory.{byte_at, bytes_of, class_of, layout}
use Rattle.dynamic_areas.specs.Class.{Class}
use Rattle.dynamic_areas.specs.BlockMove.{BlockMove}
use Rattle.dynamic_areas.specs.Item.{Item}
use Rattle.dynamic_areas.specs.Item.TheVariants.{Free, Live}
use Rattle.dynamic_areas.specs.AddressMap.{AddressMap}
use Rattle.dynamic_areas.proofs.HeadWords.{head_inside}
use Rattle.dynamic_areas.proofs.HeapWords.{outside_past}
use Rattle.dynamic_areas.proofs.ItemWalk.{next_apart, size_of-old}
use Rattle.dynamic_areas.proofs.Marks.{is_head-append, is_head-one}
use Rattle.dynamic_areas.proofs.Reading.{total_facts}
use Rattle.dynamic_areas.proofs.Spelling.{last_free-append, size_of-append, size_of-multiple, total_of-numbers, totals-back, totals-front}
use Rattle.dynamic_areas.specs.Heap.{AreTotals, IsHeapIn, last_free, next_free}
use Rattle.dynamic_areas.specs.OsHeapWordsLists.{left_free}
use Rattle.dynamic_areas.specs.Marks.{head_class, class_after_marking, Remarks, with_item_marked}
use Rattle.dynamic_areas.specs.Words.{IsOutside}
use Rattle.dynamic_areas.proofs.Marking.{can_stand}
use Rattle.dynamic_areas.proofs.Searching.{FreeFacts, free_facts}
use Rattle.dynamic_areas.proofs.Walking.{LiveFacts, live_facts}
use Rattle.dynamic_areas.specs.Outcomes.{end_at, HasHeapAt, items_at}
use Rattle.rma.proofs.HeapSlideLemmas.Laying.{IsRead, moved_past, read}
use Rattle.rma.proofs.HeapSlideLemmas.Listing.{listed_first, listed_rest, more_moves, room_for_move}
use Rattle.rma.proofs.HeapSlideLemmas.Setting.{laid_alone, laid_behind}
use Rattle.rma.specs.heap_slide.Slide.{AreBlocks, begins, is_listed, move_of, moves_of, item_place_after, slid, slid_bytes, without_first_block}
use Rattle.rma.specs.heap_slide.Steps.{IsAllSlid, IsFreeHere, IsLaid, IsRoomForBlock, IsSliding, items_laid_last}

-- words from which on no byte changed
word_behind : (f g : ℕ → ℕ) (at p : ℕ) → ((a : ℕ) → at ≤ a → g a ≡ f a) → at ≤ p → word_at g p ≡ word_at f p
word_behind f g at p same low =
    let b0 = same p low in
    let b1 = same (p + 1) (omega arith) in
    let b2 = same (p + 2) (omega arith) in
    let b3 = same (p + 3) (omega arith) in
    rw (b0, b1, b2, b3) refl

-- the place of the slide, and what is left of the items
pub size_split : (items passed rest : List Item) → items ≡ passed ++ rest → size_of items ≡ size_of passed + size_of rest
size_split items passed rest split = ap size_of split ∙ size_of-append passed rest

-- A walk over the items that `m` spells, in a memory `n` whose bytes are the same from the next one
-- on.
pub record IsPlaced (m n : AddressMap) (start at free : ℕ) : Type 0 where
  pub passed : List Item
  pub rest : List Item
  pub split : items_at m start ≡ passed ++ rest
  pub place : at ≡ start + 16 + size_of passed
  pub next : free ≡ next_free at rest 0
  pub same : layout n ≡ layout m
  pub behind : (a : ℕ) → at ≤ a → byte_at n a ≡ byte_at m a

placed : (m n : AddressMap) (start : ℕ) (movable left : List ℕ) (moves : List BlockMove) (from top at free : ℕ)
    → IsSliding m n start movable left moves from top at free → IsPlaced m n start at free
placed m n start movable left moves from top at free s =
    record { passed = s.passed; rest = s.rest; split = s.split; place = s.place; next = s.next; same = s.same; behind = s.behind }

-- The slide is at a free item.
pub record AtFree (m n : AddressMap) (start at : ℕ) (rest : List Item) : Type 0 where
  pub total : ℕ
  pub after : List Item
  pub split : rest ≡ Free total ∷ after
  pub facts : FreeFacts m start (end_at m start) at total after
  pub word : word_at (byte_at n) (at + 4) ≡ total
  pub onward : link_target at (word_at (byte_at n) at) ≡ next_free (at + total) after 0
  pub here : IsFreeHere n start at

pub free_at : (m n : AddressMap) (start at free : ℕ) → (s : IsPlaced m n start at free) → HasHeapAt m start
    → at < start + word_at (byte_at m) (start + 8) → at ≡ free → AtFree m n start at s.rest
free_at m n start at free s heap below here = by_rest s.rest refl where
  by_rest : (rest : List Item) → s.rest ≡ rest → AtFree m n start at s.rest
  by_rest [] e = absurd (omega (arith, below, heap.base, s.place, size_split (items_at m start) s.passed [] (s.split ∙ ap (λ (ys : List Item). s.passed ++ ys) e)))
  by_rest (Live t ∷ xs) e =
      let split : items_at m start ≡ s.passed ++ Live t ∷ xs = s.split ∙ ap (λ (ys : List Item). s.passed ++ ys) e in
      let totals : AreTotals (Live t ∷ xs) = totals-back s.passed (Live t ∷ xs) (subst AreTotals split heap.totals) in
      absurd (next_apart at t xs (omega (arith, s.place)) totals (here ∙ s.next ∙ ap (λ (ys : List Item). next_free at ys 0) e))
  by_rest (Free t ∷ xs) e =
      let split : items_at m start ≡ s.passed ++ Free t ∷ xs = s.split ∙ ap (λ (ys : List Item). s.passed ++ ys) e in
      let facts : FreeFacts m start (end_at m start) at t xs = free_facts m start (end_at m start) at (items_at m start) s.passed t xs heap split s.place in
      let word : word_at (byte_at n) (at + 4) ≡ t = word_behind (byte_at m) (byte_at n) at (at + 4) s.behind (omega arith) ∙ facts.total_word in
      let link : word_at (byte_at n) at ≡ word_at (byte_at m) at = word_behind (byte_at m) (byte_at n) at at s.behind (omega arith) in
      let onward : link_target at (word_at (byte_at n) at) ≡ next_free (at + t) xs 0 = ap (link_target at) link ∙ facts.onward in
      record {
        total = t;
        after = xs;
        split = e;
        facts = facts;
        word = word;
        onward = onward;
        here = record {
          low = facts.low;
          stands = rw word (can_stand m n start (end_at m start) at (items_at m start) (Free t ∷ []) heap s.same
              (total_of-numbers t facts.size facts.eighths, tt) facts.whole (omega (arith, facts.low)) (omega (arith, facts.high)));
          high = omega (arith, word, facts.high, facts.top);
          next = omega (arith, onward, facts.next_high);
        };
      }

pub at_free : (m n : AddressMap) (start : ℕ) (movable left : List ℕ) (moves : List BlockMove) (from top at free : ℕ)
    → (s : IsSliding m n start movable left moves from top at free) → HasHeapAt m start → at < start + word_at (byte_at m) (start + 8) → at ≡ free
    → AtFree m n start at s.rest
unfolding placed
at_free m n start movable left moves from top at free s heap below here =
    free_at m n start at free (placed m n start movable left moves from top at free s) heap below here

-- The slide is at a live item.
pub record AtLive (m n : AddressMap) (start at : ℕ) (rest : List Item) : Type 0 where
  pub total : ℕ
  pub after : List Item
  pub split : rest ≡ Live total ∷ after
  pub facts : LiveFacts m start (end_at m start) at total after
  pub word : word_at (byte_at n) at ≡ total

pub live_at : (m n : AddressMap) (start at free : ℕ) → (s : IsPlaced m n start at free) → HasHeapAt m start
    → at < start + word_at (byte_at m) (start + 8) → at ≢ free → AtLive m n start at s.rest
live_at m n start at free s heap below other = by_rest s.rest refl where
  by_rest : (rest : List Item) → s.rest ≡ rest → AtLive m n start at s.rest
  by_rest [] e = absurd (omega (arith, below, heap.base, s.place, size_split (items_at m start) s.passed [] (s.split ∙ ap (λ (ys : List Item). s.passed ++ ys) e)))
  by_rest (Free t ∷ xs) e = absurd (other (sym (s.next ∙ ap (λ (ys : List Item). next_free at ys 0) e)))
  by_rest (Live t ∷ xs) e =
      let split : items_at m start ≡ s.passed ++ Live t ∷ xs = s.split ∙ ap (λ (ys : List Item). s.passed ++ ys) e in
      let facts : LiveFacts m start (end_at m start) at t xs = live_facts m start (end_at m start) at (items_at m start) s.passed t xs heap split s.place in
      record {
        total = t;
        after = xs;
        split = e;
        facts = facts;
        word = word_behind (byte_at m) (byte_at n) at at s.behind (omega arith) ∙ facts.total_word;
      }

pub at_live : (m n : AddressMap) (start : ℕ) (movable left : List ℕ) (moves : List BlockMove) (from top at free : ℕ)
    → (s : IsSliding m n start movable left moves from top at free) → HasHeapAt m start → at < start + word_at (byte_at m) (start + 8) → at ≢ free
    → AtLive m n start at s.rest
unfolding placed
at_live m n start movable left moves from top at free s heap below other =
    live_at m n start at free (placed m n start movable left moves from top at free s) heap below other

-- An item was passed, whose words are no heads any more, and items were laid in its place or below
-- it.
step_word : (before made passed given : Bool) (old mid new : Class) → mid ≡ class_after_marking before passed old → new ≡ class_after_marking made given mid
    → (given ≡ true → before ≡ true → ⊥) → new ≡ class_after_marking (before || made) (passed || given) old
step_word true true passed given old mid new was change apart = change
step_word true false passed true old mid new was change apart = absurd (apart refl refl)
step_word true false passed false old mid new was change apart = change ∙ was
step_word false true passed given old mid new was change apart = change
step_word false false true true old mid new was change apart = change
step_word false false false true old mid new was change apart = change
step_word false false true false old mid new was change apart = change ∙ was
step_word false false false false old mid new was change apart = change ∙ was

remarks_step : (c d e : ℕ → Class) (first top at : ℕ) (passed before news : List Item) (item : Item) → at ≡ first + size_of passed → top ≡ first + size_of before
    → top ≤ at → AreTotals before → AreTotals (item ∷ []) → Remarks c d first passed before
    → ((a : ℕ) → e a ≡ class_after_marking (is_head top news (word_start a)) (is_head_of at item (word_start a)) (d a))
    → Remarks c e first (passed ++ item ∷ []) (before ++ news)
remarks_step c d e first top at passed before news item place end low totals own was change a =
    let p : ℕ = word_start a in
    let made : is_head (first + size_of before) news p ≡ is_head top news p = ap (λ (q : ℕ). is_head q news p) (sym end) in
    let given : is_head (first + size_of passed) (item ∷ []) p ≡ is_head_of at item p =
    ap (λ (q : ℕ). is_head q (item ∷ []) p) (sym place) ∙ is_head-one at item p in
    rw (is_head-append first before news p, is_head-append first passed (item ∷ []) p, made, given)
    (step_word (is_head first before p) (is_head top news p) (is_head first passed p) (is_head_of at item p) (c a) (d a) (e a) (was a) (change a)
    (λ is there.
    let here : (at ≤ p) × (p + 4 ≤ at + size_of (item ∷ [])) = head_inside at (item ∷ []) p own (is_head-one at item p ∙ is) in
    let under : (first ≤ p) × (p + 4 ≤ first + size_of before) = head_inside first before p totals there in
    omega (arith, here.0, under.1)))

-- A free item is passed.
pub free_passed : (m n p : AddressMap) (start : ℕ) (movable left : List ℕ) (moves : List BlockMove) (from top at free : ℕ)
    → (s : IsSliding m n start movable left moves from top at free) → (w : AtFree m n start at s.rest)
    → byte_at p ≡ byte_at n → layout p ≡ layout n
    → ((a : ℕ) → class_of p a ≡ with_item_marked at (Free w.total) (head_class false) (class_of n) a)
    → IsSliding m p start movable left moves from top (at + w.total) (next_free (at + w.total) w.after 0)
free_passed m n p start movable left moves from top at free s w bytes same marks =
    let t : ℕ = w.total in
    let all : bytes_of p ≡ bytes_of n = same_bytes n p (byte_at n) same (λ a. ap (λ (f : ℕ → ℕ). f a) bytes) in
    let items : items_at p start ≡ items_at n start = ap (λ (b : Bytes). items_in (word_at b.at) start) all in
    let size : size_of (s.passed ++ Free t ∷ []) ≡ size_of s.passed + (t + 0) = size_of-append s.passed (Free t ∷ []) in
    record {
      passed = s.passed ++ Free t ∷ [];
      rest = w.after;
      bytes = s.bytes;
      split = s.split ∙ ap (λ (ys : List Item). s.passed ++ ys) w.split ∙ sym (append_assoc s.passed (Free t ∷ []) w.after);
      place = omega (arith, s.place, size);
      next = refl;
      heap = rw items (subst (λ (b : Bytes). IsHeapIn b start (end_at m start) (items_at n start)) (sym all) s.heap);
      end = rw items s.end;
      low = omega (arith, s.low);
      last = rw items s.last;
      same = same ∙ s.same;
      list = s.list ∙ ap (λ (ys : List Item). items_at n start ++ slid (is_listed movable) top at ys) w.split
          ∙ ap (λ (xs : List Item). xs ++ slid (is_listed movable) top (at + t) w.after) (sym items);
      copied = s.copied ∙ ap (λ (ys : List Item). slid_bytes (is_listed movable) top at ys s.bytes) w.split;
      others = λ a head out. ap (λ (f : ℕ → ℕ). f a) bytes ∙ s.others a head (rw items at out);
      behind = λ a past. ap (λ (f : ℕ → ℕ). f a) bytes ∙ s.behind a (omega arith);
      marks = λ a. rw items (rw (append-nil (items_at n start)) at
          (remarks_step (class_of m) (class_of n) (class_of p) (start + 16) top at s.passed (items_at n start) [] (Free t) s.place s.end s.low s.heap.totals
          (total_of-numbers t w.facts.size w.facts.eighths, tt) s.marks marks a));
      moved = s.moved ∙ ap (λ (ys : List Item). moves ++ moves_of (is_listed movable) top at ys) w.split;
      blocks = subst (λ (ys : List Item). AreBlocks at ys left) w.split s.blocks;
      listed = λ b low. s.listed b (omega arith);
      few = s.few;
    }

-- A live item gets its new place.
outside_front : (at : ℕ) (xs ys : List Item) (a : ℕ) → IsOutside at (xs ++ ys) a → IsOutside at xs a
outside_front at [] ys a h = tt
outside_front at (Live t ∷ xs) ys a h = (h.0, outside_front (at + t) xs ys a h.1)
outside_front at (Free t ∷ xs) ys a h = (h.0, outside_front (at + t) xs ys a h.1)

moved_alike : (f g : ℕ → ℕ) (from to len a : ℕ) → (a < to → g a ≡ f a) → (to + len ≤ a → g a ≡ f a) → ((b : ℕ) → from ≤ b → g b ≡ f b)
    → with_moved_at g from to len a ≡ with_moved_at f from to len a
moved_alike f g from to len a low past moved = elim (in_range-cases to len a) [
  | inl r ↦ rw r.0 (moved (from + (a - to)) (omega arith))
  | inr r ↦ rw r.0 (elim r.1 [ inl less ↦ low less | inr more ↦ past more ])
]

laid_last : (from place top to total : ℕ) → (if_to : ℕ) → if_to ≡ cond (to == top) from top → top ≤ to → place ≡ top
    → if_to ≡ last_free from place (items_laid_last (to - top) total)
laid_last from place top to total if_to e low end = elim (cases_Bool (to == top)) [
  | inl here ↦
      let k : to ≡ top = eqb-true to top here in
      let e' = rw here at e in
      rw (laid_alone (to - top) total (omega arith)) e'
  | inr other ↦
      let e' = rw other at e in
      let ne : to - top ≢ 0 = λ (z : to - top ≡ 0). absurd (not_same other (let k : to ≡ top = omega arith in k)) in
      rw (laid_behind (to - top) total ne) (e' ∙ sym end)
] where
  not_same : (to == top) ≡ false → to ≡ top → ⊥
  not_same unequal same = let t : (to == top) ≡ true = eq-eqb to top same in cc

append_laid : (xs ys zs : List Item) (t : ℕ) → xs ++ (ys ++ Live t ∷ zs) ≡ (xs ++ (ys ++ Live t ∷ [])) ++ zs
append_laid xs ys zs t =
    ap (λ (q : List Item). xs ++ q) (sym (append_assoc ys (Live t ∷ []) zs)) ∙ sym (append_assoc xs (ys ++ Live t ∷ []) zs)

place_between : (moves : Bool) (top at to : ℕ) → to ≡ item_place_after moves top at → top ≤ at → (top ≤ to) × (to ≤ at)
place_between true top at to e low = (omega arith, omega arith)
place_between false top at to e low = (omega arith, omega arith)

place_eighths : (moves : Bool) (top at to : ℕ) → to ≡ item_place_after moves top at → (at - top) % 8 ≡ 0 → (to - top) % 8 ≡ 0
place_eighths true top at to e whole = let none : to - top ≡ 0 = omega arith in rw none refl
place_eighths false top at to e whole = rw e whole

pub live_passed : (m n p : AddressMap) (start : ℕ) (movable left : List ℕ) (moves : List BlockMove) (from top at free to new_from : ℕ)
    → (s : IsSliding m n start movable left moves from top at free) → (w : AtLive m n start at s.rest)
    → to ≡ item_place_after (begins (at + 4) left) top at → new_from ≡ cond (to == top) from top → IsLaid n p start top at to w.total
    → IsSliding m p start movable (without_first_block (at + 4) left) (moves ++ move_of at to) new_from (to + w.total) (at + w.total) free
live_passed m n p start movable left moves from top at free to new_from s w goes last laid_now =
    let t : ℕ = w.total in
    let old : List Item = items_at n start in
    let news : List Item = items_laid_last (to - top) t in
    let mv : ℕ → Bool = is_listed movable in
    let whole : is_total t ≡ true = total_of-numbers t w.facts.size w.facts.eighths in
    let blocks : AreBlocks at (Live t ∷ w.after) left = subst (λ (ys : List Item). AreBlocks at ys left) w.split s.blocks in
    let listed : mv (at + 4) ≡ begins (at + 4) left = s.listed (at + 4) (omega arith) ∙ listed_first at t w.after left (whole, w.facts.totals) blocks in
    let place : item_place_after (mv (at + 4)) top at ≡ to = ap (λ (b : Bool). item_place_after b top at) listed ∙ sym goes in
    let bounds : (top ≤ to) × (to ≤ at) = place_between (begins (at + 4) left) top at to goes s.low in
    let end : end_at n start ≡ end_at m start = s.heap.limit in
    let heap : IsHeapIn (bytes_of p) start (end_at m start) (old ++ news) = rw (← end) laid_now.heap in
    let is : IsRead p start (end_at m start) (old ++ news) = read p start (end_at m start) (old ++ news) heap in
    let size : size_of (s.passed ++ Live t ∷ []) ≡ size_of s.passed + (t + 0) = size_of-append s.passed (Live t ∷ []) in
    let new_size : size_of (old ++ news) ≡ size_of old + size_of news = size_of-append old news in
    let own_size : size_of news ≡ (to - top) + (t + 0) = size_of-old (to - top) t [] in
    let past : (a : ℕ) → top ≤ a → IsOutside (start + 16) old a = λ a high. outside_past (start + 16) old a top (omega (arith, s.end)) high s.heap.totals in
    let all_past : (a : ℕ) → to + t ≤ a → IsOutside (start + 16) (old ++ news) a =
    λ a high. outside_past (start + 16) (old ++ news) a (to + t) (omega (arith, s.end, new_size, own_size, bounds.0)) high heap.totals in
    let top_above : start + 16 ≤ top = omega (arith, s.end) in
    record {
      passed = s.passed ++ Live t ∷ [];
      rest = w.after;
      bytes = with_moved_at s.bytes at to t;
      split = s.split ∙ ap (λ (ys : List Item). s.passed ++ ys) w.split ∙ sym (append_assoc s.passed (Live t ∷ []) w.after);
      place = omega (arith, s.place, size);
      next = s.next ∙ ap (λ (ys : List Item). next_free at ys 0) w.split;
      heap = rw is.list heap;
      end = rw is.list (omega (arith, s.end, new_size, own_size, bounds.0));
      low = omega (arith, bounds.1);
      last = rw is.list (laid_last from (start + 16 + size_of old) top to t new_from last bounds.0 (sym s.end)
          ∙ ap (λ (q : ℕ). last_free q (start + 16 + size_of old) news) s.last ∙ sym (last_free-append start (start + 16) old news));
      same = laid_now.same ∙ s.same;
      list = s.list ∙ ap (λ (ys : List Item). old ++ slid mv top at ys) w.split
          ∙ ap (λ (q : ℕ). old ++ (left_free (q - top) ++ Live t ∷ slid mv (q + t) (at + t) w.after)) place
          ∙ append_laid old (left_free (to - top)) (slid mv (to + t) (at + t) w.after) t
          ∙ ap (λ (xs : List Item). xs ++ slid mv (to + t) (at + t) w.after) (sym is.list);
      copied = s.copied ∙ ap (λ (ys : List Item). slid_bytes mv top at ys s.bytes) w.split
          ∙ ap (λ (q : ℕ). slid_bytes mv (q + t) (at + t) w.after (with_moved_at s.bytes at q t)) place;
      others = λ a head out.
          let out' : IsOutside (start + 16) (old ++ news) a = rw is.list at out in
          laid_now.others a head out' ∙ moved_alike s.bytes (byte_at n) at to t a
          (λ low. s.others a head (outside_front (start + 16) old news a out'))
          (λ high. s.others a head (outside_front (start + 16) old news a out'))
          (λ b high. s.others b (inr (omega (arith, top_above, s.low))) (past b (omega (arith, s.low))));
      behind = λ a high. laid_now.others a (inr (omega (arith, top_above, s.low))) (all_past a (omega (arith, bounds.1)))
          ∙ moved_past (byte_at n) at to t a (omega (arith, bounds.1)) ∙ s.behind a (omega arith);
      marks = λ a. rw is.list (remarks_step (class_of m) (class_of n) (class_of p) (start + 16) top at s.passed old news (Live t) s.place s.end s.low s.heap.totals
          (whole, tt) s.marks laid_now.marks a);
      moved = s.moved ∙ ap (λ (ys : List Item). moves ++ moves_of mv top at ys) w.split
          ∙ ap (λ (q : ℕ). moves ++ (move_of at q ++ moves_of mv (q + t) (at + t) w.after)) place
          ∙ sym (append_assoc moves (move_of at to) (moves_of mv (to + t) (at + t) w.after));
      blocks = blocks;
      listed = λ b low. s.listed b (omega arith) ∙ listed_rest (at + 4) b left (λ (e : b ≡ at + 4). omega (arith, w.facts.size));
      few = more_moves at top (at + 4) left moves to goes s.few;
    }

-- The slide is over.
pub none_left : (start at : ℕ) (rest : List Item) → AreTotals rest → size_of rest ≡ 0 → rest ≡ []
none_left start at [] totals size = refl
none_left start at (Live t ∷ xs) totals size = absurd (omega (arith, total_facts t totals.0))
none_left start at (Free t ∷ xs) totals size = absurd (omega (arith, total_facts t totals.0))

pub all_slid : (m n : AddressMap) (start : ℕ) (movable left : List ℕ) (moves : List BlockMove) (from top at free : ℕ)
    → (s : IsSliding m n start movable left moves from top at free) → HasHeapAt m start → start + word_at (byte_at m) (start + 8) ≤ at
    → IsAllSlid m n start movable moves
all_slid m n start movable left moves from top at free s heap past =
    let mv : ℕ → Bool = is_listed movable in
    let size : size_of (items_at m start) ≡ size_of s.passed + size_of s.rest = size_split (items_at m start) s.passed s.rest s.split in
    let none : s.rest ≡ [] = none_left start at s.rest (totals-back s.passed s.rest (subst AreTotals s.split heap.totals)) (omega (arith, heap.base, s.place)) in
    let all : items_at m start ≡ s.passed = s.split ∙ ap (λ (ys : List Item). s.passed ++ ys) none ∙ append-nil s.passed in
    let list : slid mv (start + 16) (start + 16) (items_at m start) ≡ items_at n start =
    s.list ∙ ap (λ (ys : List Item). items_at n start ++ slid mv top at ys) none ∙ append-nil (items_at n start) in
    let bytes : slid_bytes mv (start + 16) (start + 16) (items_at m start) (byte_at m) ≡ s.bytes =
    s.copied ∙ ap (λ (ys : List Item). slid_bytes mv top at ys s.bytes) none in
    record {
      heap = rw list s.heap;
      same = s.same;
      others = λ a head out. s.others a head (subst (λ (ys : List Item). IsOutside (start + 16) ys a) list out) ∙ ap (λ (f : ℕ → ℕ). f a) (sym bytes);
      marks = λ a. rw list (subst (λ (ys : List Item). Remarks (class_of m) (class_of n) (start + 16) ys (items_at n start)) (sym all) s.marks a);
      moved = sym (s.moved ∙ ap (λ (ys : List Item). moves ++ moves_of mv top at ys) none ∙ append-nil moves);
    }

-- The same, as the steps of the code say it.
pub free_went : (m n p : AddressMap) (start : ℕ) (movable left : List ℕ) (moves : List BlockMove) (from top at free new_from new_top new_at new_free : ℕ)
    → (s : IsSliding m n start movable left moves from top at free) → (w : AtFree m n start at s.rest)
    → new_from ≡ from → new_top ≡ top → new_at ≡ at + word_at (byte_at n) (at + 4) → new_free ≡ link_target at (word_at (byte_at n) at)
    → byte_at p ≡ byte_at n → layout p ≡ layout n
    → ((a : ℕ) → class_of p a ≡ with_item_marked at (Free (word_at (byte_at n) (at + 4))) (head_class false) (class_of n) a)
    → IsSliding m p start movable left moves new_from new_top new_at new_free
free_went m n p start movable left moves from top at free new_from new_top new_at new_free s w e1 e2 e3 e4 bytes same marks =
    let e3' : new_at ≡ at + w.total = e3 ∙ ap (λ (q : ℕ). at + q) w.word in
    let marks' : (a : ℕ) → class_of p a ≡ with_item_marked at (Free w.total) (head_class false) (class_of n) a =
    subst (λ (q : ℕ). (a : ℕ) → class_of p a ≡ with_item_marked at (Free q) (head_class false) (class_of n) a) w.word marks in
    rw (e1, e2, e3', e4 ∙ w.onward) (free_passed m n p start movable left moves from top at free s w bytes same marks')

pub live_went : (m n p : AddressMap) (start : ℕ) (movable left new_left : List ℕ) (moves new_moves : List BlockMove)
    (from top at free to total new_from new_top new_at new_free : ℕ)
    → (s : IsSliding m n start movable left moves from top at free) → (w : AtLive m n start at s.rest) → total ≡ w.total
    → to ≡ item_place_after (begins (at + 4) left) top at → new_left ≡ without_first_block (at + 4) left → new_moves ≡ moves ++ move_of at to
    → new_from ≡ cond (to == top) from top → new_top ≡ to + total → new_at ≡ at + total → new_free ≡ free → IsLaid n p start top at to total
    → IsSliding m p start movable new_left new_moves new_from new_top new_at new_free
live_went m n p start movable left new_left moves new_moves from top at free to total new_from new_top new_at new_free s w size goes e1 e2 e3 e4 e5 e6 now =
    rw (e1, e2, e4 ∙ ap (λ (q : ℕ). to + q) size, e5 ∙ ap (λ (q : ℕ). at + q) size, e6)
    (live_passed m n p start movable left moves from top at free to new_from s w goes e3 (subst (λ (q : ℕ). IsLaid n p start top at to q) size now))

-- the room for a live item, and for the move
pub record LiveRoom (n : AddressMap) (start from top at to total : ℕ) (begun : List BlockMove) : Type 0 where
  pub room : IsRoomForBlock n start from top to total (at + total)
  pub high : to ≤ at
  pub moves : to ≢ at → length begun < 128

pub live_room : (m n : AddressMap) (start : ℕ) (movable left : List ℕ) (moves : List BlockMove) (from top at free to total : ℕ)
    → (s : IsSliding m n start movable left moves from top at free) → (w : AtLive m n start at s.rest) → HasHeapAt m start → total ≡ w.total
    → to ≡ item_place_after (begins (at + 4) left) top at → LiveRoom n start from top at to total moves
live_room m n start movable left moves from top at free to total s w heap size goes =
    let bounds : (top ≤ to) × (to ≤ at) = place_between (begins (at + 4) left) top at to goes s.low in
    let is : IsRead n start (end_at m start) (items_at n start) = read n start (end_at m start) (items_at n start) s.heap in
    let split : AreTotals (s.passed ++ s.rest) = subst AreTotals s.split heap.totals in
    let m1 = size_of-multiple s.passed (totals-front s.passed s.rest split) in
    let m2 = size_of-multiple (items_at n start) s.heap.totals in
    record {
      room = record {
        heap = is.heap;
        last = s.last;
        place = s.end;
        whole = rw size (total_of-numbers w.total w.facts.size w.facts.eighths);
        low = bounds.0;
        eighths = place_eighths (begins (at + 4) left) top at to goes (omega (arith, s.end, s.place, s.low));
        high = omega (arith, bounds.1);
        inside = rw is.limit (omega (arith, w.facts.high, size));
      };
      high = bounds.1;
      moves = room_for_move at top (at + 4) left moves to goes s.few;
    }
