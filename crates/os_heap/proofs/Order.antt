-- The order of records, where one comes, and where one gets another length; with the two lists of a store it shows the records.
use Rattle.std.proofs.Common.{◌≡◌, ◌∙◌, ℕ, true, false, List, [], ◌∷◌, ◌++◌, ap, refl, inl, inr, map}
use Rattle.std.proofs.lemmas.Bool.{cases_Bool}
use Rattle.std.specs.List.{filter}
use Rattle.os_heap_words.specs.Bytes.{Bytes}
use Rattle.os_heap_words.specs.Memory.{bytes_of, layout, regions}
use Rattle.os_heap_words.specs.Records.{is_heap_kind, is_record, with_len}
use Rattle.os_heap_words.specs.AddressMap.{AddressMap}
use Rattle.os_heap_words.specs.Kind.{Kind}
use Rattle.os_heap_words.specs.Region.{Region}
use Rattle.os_heap_words.specs.lists.Heap.{HeapList}
use Rattle.os_heap.proofs.Frame.{layout-regions}
use Rattle.os_heap.specs.Laws.{RecordsAreShown}
use Rattle.os_heap.specs.Order.{kind_and_start, stays, stays_at, AddsRecord, KeepsOrder, LosesHeaps, LosesInOrder}
use Rattle.os_heap.specs.Store.{heap_in, heaps_in, others_in, store_of}

pub order_kept : (m n : AddressMap) → regions n ≡ regions m → KeepsOrder m n
order_kept m n same = ap (λ (rs : List Region). map kind_and_start rs) same

pub order_laid : (m n : AddressMap) → layout n ≡ layout m → KeepsOrder m n
order_laid m n same = order_kept m n (layout-regions m n same)

order_more : (rs : List Region) (r : Region) → map kind_and_start (rs ++ r ∷ []) ≡ map kind_and_start rs ++ kind_and_start r ∷ []
order_more [] r = refl
order_more (q ∷ rs) r = ap (λ (xs : List (Kind × ℕ)). kind_and_start q ∷ xs) (order_more rs r)

pub order_added : (m n : AddressMap) (r : Region) → regions n ≡ regions m ++ r ∷ [] → AddsRecord m n r.kind r.at
order_added m n r more = ap (λ (rs : List Region). map kind_and_start rs) more ∙ order_more (regions m) r

order_ended : (rs : List Region) (k : Kind) (at len : ℕ) → map kind_and_start (with_len rs k at len) ≡ map kind_and_start rs
order_ended [] k at len = refl
order_ended (r ∷ rs) k at len = elim (cases_Bool (is_record k at r)) [
  | inl here ↦ rw here refl
  | inr other ↦ rw other (ap (λ (xs : List (Kind × ℕ)). kind_and_start r ∷ xs) (order_ended rs k at len))
]

pub end_order : (m n : AddressMap) (k : Kind) (at len : ℕ) → regions n ≡ with_len (regions m) k at len → KeepsOrder m n
end_order m n k at len ended = ap (λ (rs : List Region). map kind_and_start rs) ended ∙ order_ended (regions m) k at len

-- where heaps are forgotten, also after one got another end
order_left : (hs : List HeapList) (rs : List Region) → map kind_and_start (filter (stays hs) rs) ≡ filter (stays_at hs) (map kind_and_start rs)
order_left hs [] = refl
order_left hs (r ∷ rs) = elim (cases_Bool (stays hs r)) [
  | inl here ↦ rw here (ap (λ (xs : List (Kind × ℕ)). kind_and_start r ∷ xs) (order_left hs rs))
  | inr gone ↦ rw gone (order_left hs rs)
]

pub order_lost : (m k n : AddressMap) → KeepsOrder m k → LosesHeaps k n → LosesInOrder m n
order_lost m k n kept lost =
    ap (λ (rs : List Region). map kind_and_start rs) lost ∙ order_left (store_of n).heaps (regions k)
    ∙ ap (λ (xs : List (Kind × ℕ)). filter (stays_at (store_of n).heaps) xs) kept

-- the records are those of the two lists, in that order
same_record : (q r : Region) → q.kind ≡ r.kind → q.at ≡ r.at → q.len ≡ r.len → q ≡ r
same_record q r kind at len = λ i. record { kind = kind i; at = at i; len = len i }

reported : (b c : Bytes) (rs qs : List Region) → map kind_and_start qs ≡ map kind_and_start rs → heaps_in c qs ≡ heaps_in b rs → others_in qs ≡ others_in rs → qs ≡ rs
reported b c [] [] order heaps others = refl
reported b c [] (q ∷ qs) order heaps others = absurd (let no : kind_and_start q ∷ map kind_and_start qs ≡ [] = order in cc)
reported b c (r ∷ rs) [] order heaps others = absurd (let no : [] ≡ kind_and_start r ∷ map kind_and_start rs = order in cc)
reported b c (r ∷ rs) (q ∷ qs) order heaps others =
    let order' : kind_and_start q ∷ map kind_and_start qs ≡ kind_and_start r ∷ map kind_and_start rs = order in
    let start : kind_and_start q ≡ kind_and_start r = cc in
    let rest : map kind_and_start qs ≡ map kind_and_start rs = cc in
    let kind : q.kind ≡ r.kind = ap (λ (x : Kind × ℕ). x.0) start in
    let at : q.at ≡ r.at = ap (λ (x : Kind × ℕ). x.1) start in
    elim (cases_Bool (is_heap_kind r.kind)) [
      | inl heap ↦
          let own : is_heap_kind q.kind ≡ true = ap is_heap_kind kind ∙ heap in
          let heaps' : heap_in c q ∷ heaps_in c qs ≡ heap_in b r ∷ heaps_in b rs = rw (own, heap) at heaps in
          let others' : others_in qs ≡ others_in rs = rw (own, heap) at others in
          let first : heap_in c q ≡ heap_in b r = cc in
          let left : heaps_in c qs ≡ heaps_in b rs = cc in
          let len : q.len ≡ r.len = ap (λ (h : HeapList). h.end) first in
          let here : q ≡ r = same_record q r kind at len in
          let behind : qs ≡ rs = reported b c rs qs rest left others' in
          cc
      | inr plain ↦
          let own : is_heap_kind q.kind ≡ false = ap is_heap_kind kind ∙ plain in
          let heaps' : heaps_in c qs ≡ heaps_in b rs = rw (own, plain) at heaps in
          let others' : q ∷ others_in qs ≡ r ∷ others_in rs = rw (own, plain) at others in
          let here : q ≡ r = cc in
          let left : others_in qs ≡ others_in rs = cc in
          let behind : qs ≡ rs = reported b c rs qs rest heaps' left in
          cc
    ]

pub records_shown : RecordsAreShown
unfolding store_of
records_shown m n heaps others order = reported (bytes_of m) (bytes_of n) (regions m) (regions n) order heaps others
