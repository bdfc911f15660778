-- Of heaps that lie round each other the one that starts last shows for all.
use Rattle.std.proofs.Common.{List, ℕ, [], ◌∷◌, ◌≡◌, ◌≢◌, ◌+◌, ◌-◌, ◌≤◌, ◌<◌, ◌⊎◌, ◌==◌, ◌&&◌, ◌||◌, ◌∙◌, Bool, Option, Some, None, option_map, not, true, false, leb, ltb, refl, sym, ap, subst, inl, inr, arith}
use Rattle.std.proofs.lemmas.Bool.{false≢true, both_ways, cases_Bool, cases_lt, and_parts, or_parts, le-leb, lt-ltb, le-ltb, leb-true, ltb-true, eqb-true}
use Rattle.std.specs.List.{list_any}
use Rattle.os_heap_words.specs.Bytes.{Bytes, in_range, shares_address}
use Rattle.os_heap_words.specs.Records.{is_heap_kind}
use Rattle.os_heap_words.specs.Item.{Item}
use Rattle.os_heap_words.specs.Item.TheVariants.{Live, Free}
use Rattle.os_heap_words.specs.Region.{Region}
use Rattle.os_heap_words.specs.lists.Heap.{HeapList, IsHeapIn}
use Rattle.os_heap_words.specs.lists.Lists.{live_total}
use Rattle.os_heap.proofs.RangeTests.{or_none}
use Rattle.os_heap.proofs.Holding.{held_range}
use Rattle.os_heap.proofs.Nesting.{apart_turned, apart_starts, within_low}
use Rattle.os_heap.specs.Laws.{passes_if_there}
use Rattle.os_heap.specs.Nesting.{IsWithin, StandApart, StandsApart, holds_range, innermost_heap, is_crossed, is_round, last_of, later_heap}
use Rattle.os_heap.specs.Payloads.{is_other, payload_from, payload_in, payload_of, payload_or}
use Rattle.os_heap.specs.Store.{AreHeapsIn, IsSound, Store, heap_in, heaps_in}
use Rattle.os_heap.specs.declared.payload.Payload.{Payload}
use Rattle.os_heap.specs.declared.payload.Payload.TheVariants.{Outside, Inside, Other}

-- Two heaps that pass a test: what is asked does not hold of the one that starts first.
pub record IsNested (test bad : HeapList → Bool) (g k : HeapList) : Type 0 where
  pub outer : test g ≡ true → test k ≡ true → g.start < k.start → bad g ≡ false
  pub inner : test g ≡ true → test k ≡ true → k.start < g.start → bad k ≡ false
  pub differ : g.start ≢ k.start

abbrev pub AreNestedIn : (HeapList → Bool) → (HeapList → Bool) → HeapList → List HeapList → Type 0
AreNestedIn test bad g [] = Unit {0}
AreNestedIn test bad g (k ∷ ks) = IsNested test bad g k × AreNestedIn test bad g ks

abbrev pub AreNested : (HeapList → Bool) → (HeapList → Bool) → List HeapList → Type 0
AreNested test bad [] = Unit {0}
AreNested test bad (g ∷ gs) = AreNestedIn test bad g gs × AreNested test bad gs

later_cases : (h : HeapList) (o : Option HeapList) (k : HeapList) → later_heap (Some h) o ≡ Some k → (h ≡ k) ⊎ (o ≡ Some k)
later_cases h None k e = let e' : Some h ≡ Some k = e in inl cc
later_cases h (Some g) k e = elim (cases_Bool (ltb h.start g.start)) [
  | inl less ↦ inr (rw less at e)
  | inr more ↦ let e' = rw more at e in let same : h ≡ k = cc in inl same
]

last_among : (test bad : HeapList → Bool) (g : HeapList) (hs : List HeapList) (k : HeapList) → last_of test hs ≡ Some k → AreNestedIn test bad g hs
    → (test k ≡ true) × IsNested test bad g k
last_among test bad g [] k e nested = absurd (let none : None ≡ Some k = e in cc)
last_among test bad g (h ∷ hs) k e nested = elim (cases_Bool (test h)) [
  | inr fails ↦ last_among test bad g hs k (rw fails at e) nested.1
  | inl passes ↦ elim (later_cases h (last_of test hs) k (rw passes at e)) [
    | inr behind ↦ last_among test bad g hs k behind nested.1
    | inl same ↦ (ap test (sym same) ∙ passes, subst (λ (x : HeapList). IsNested test bad g x) same nested.0)
  ]
]

pub last_shows : (test bad : HeapList → Bool) (hs : List HeapList) → AreNested test bad hs
    → list_any (λ h. test h && bad h) hs ≡ passes_if_there bad (last_of test hs)
last_shows test bad [] nested = refl
last_shows test bad (h ∷ hs) nested =
    let rest : list_any (λ g. test g && bad g) hs ≡ passes_if_there bad (last_of test hs) = last_shows test bad hs nested.1 in
    elim (cases_Bool (test h)) [
      | inr fails ↦ rw fails rest
      | inl passes ↦ rw passes (step passes (last_of test hs) refl rest)
    ] where
      step : test h ≡ true → (o : Option HeapList) → last_of test hs ≡ o → list_any (λ g. test g && bad g) hs ≡ passes_if_there bad o
          → (bad h || list_any (λ g. test g && bad g) hs) ≡ passes_if_there bad (later_heap (Some h) o)
      step passes None e rest = ap (λ (t : Bool). bad h || t) rest ∙ or_none (bad h)
      step passes (Some k) e rest =
          let found = last_among test bad h hs k e nested.0 in
          ap (λ (t : Bool). bad h || t) rest ∙ elim (cases_lt h.start k.start) [
            | inl less ↦ rw (lt-ltb h.start k.start less, found.1.outer passes found.0 less) refl
            | inr more ↦ rw (le-ltb h.start k.start more, found.1.inner passes found.0 (omega (arith, more, found.1.differ))) (or_none (bad h))
          ]

-- a list without the heaps before comes to the same
pub later_then : (p q r : Option HeapList) → later_heap (later_heap p q) r ≡ later_heap p (later_heap q r)
later_then None q r = refl
later_then (Some h) None r = refl
later_then (Some h) (Some g) None = elim (cases_Bool (ltb h.start g.start)) [ inl less ↦ rw less refl | inr more ↦ rw more refl ]
later_then (Some h) (Some g) (Some k) = elim (cases_lt h.start g.start) [
  | inl less ↦ elim (cases_lt g.start k.start) [
    | inl less' ↦ rw (lt-ltb h.start g.start less, lt-ltb g.start k.start less', lt-ltb h.start k.start (omega (arith, less, less'))) refl
    | inr more' ↦ rw (lt-ltb h.start g.start less, le-ltb g.start k.start more', lt-ltb h.start g.start less) refl
  ]
  | inr more ↦ elim (cases_lt g.start k.start) [
    | inl less' ↦ rw (le-ltb h.start g.start more, lt-ltb g.start k.start less') refl
    | inr more' ↦ rw (le-ltb h.start g.start more, le-ltb g.start k.start more', le-ltb h.start g.start more, le-ltb h.start k.start (omega (arith, more, more'))) refl
  ]
]

pub later_none : (p : Option HeapList) → later_heap p None ≡ p
later_none None = refl
later_none (Some h) = refl

pub round_next : (at len : ℕ) (b : Bytes) (r new : Region) (rs : List Region) (last : Option Region) → (is_heap_kind r.kind && is_round at len (heap_in b r)) ≡ true
    → later_heap (option_map (heap_in b) last) (Some (heap_in b r)) ≡ Some (heap_in b new)
    → later_heap (option_map (heap_in b) (Some new)) (innermost_heap at len (heaps_in b rs)) ≡ later_heap (option_map (heap_in b) last) (innermost_heap at len (heaps_in b (r ∷ rs)))
round_next at len b r new rs last round e =
    let parts = and_parts (is_heap_kind r.kind) (is_round at len (heap_in b r)) round in
    let rest : Option HeapList = innermost_heap at len (heaps_in b rs) in
    rw (parts.0, parts.1)
    (ap (λ (o : Option HeapList). later_heap o rest) (sym e) ∙ later_then (option_map (heap_in b) last) (Some (heap_in b r)) rest)

pub round_passed : (at len : ℕ) (b : Bytes) (r : Region) (rs : List Region) → (is_heap_kind r.kind && is_round at len (heap_in b r)) ≡ false
    → innermost_heap at len (heaps_in b rs) ≡ innermost_heap at len (heaps_in b (r ∷ rs))
round_passed at len b r rs passed = elim (cases_Bool (is_heap_kind r.kind)) [
  | inl heap ↦ let out = rw heap at passed in rw (heap, out) refl
  | inr other ↦ rw other refl
]

-- the innermost is one of the heaps
pub last_spelled : (b : Bytes) (test : HeapList → Bool) (hs : List HeapList) (h : HeapList) → AreHeapsIn b hs → last_of test hs ≡ Some h
    → IsHeapIn b h.start h.end h.items
last_spelled b test [] h parts e = absurd (let none : None ≡ Some h = e in cc)
last_spelled b test (g ∷ hs) h parts e = elim (cases_Bool (test g)) [
  | inr fails ↦ last_spelled b test hs h parts.1.1 (rw fails at e)
  | inl passes ↦ elim (later_cases g (last_of test hs) h (rw passes at e)) [
    | inr behind ↦ last_spelled b test hs h parts.1.1 behind
    | inl same ↦ subst (λ (x : HeapList). IsHeapIn b x.start x.end x.items) same parts.0
  ]
]

-- what the test says
pub record IsRound (at len : ℕ) (h : HeapList) : Type 0 where
  pub low : h.start < at
  pub high : at + len ≤ h.start + h.end

pub round_so : (at len : ℕ) (h : HeapList) → is_round at len h ≡ true → IsRound at len h
round_so at len h is =
    let both = and_parts (ltb h.start at) (leb (at + len) (h.start + h.end)) is in
    record { low = ltb-true h.start at both.0; high = leb-true (at + len) (h.start + h.end) both.1 }

pub so_round : (at len : ℕ) (h : HeapList) → IsRound at len h → is_round at len h ≡ true
so_round at len h is = rw (lt-ltb h.start at is.low, le-leb (at + len) (h.start + h.end) is.high) refl

-- The outer of two heaps that have a byte has the inner one, and all its bytes, in one block.
within_it : (b : Bytes) (g k : HeapList) (a : ℕ) → IsHeapIn b k.start k.end k.items → in_range g.start g.end a ≡ true → in_range k.start k.end a ≡ true
    → StandsApart g k → g.start < k.start → IsWithin g k
within_it b g k a heap here there (inl clear) less = absurd (both_ways (in_range k.start k.end a) (clear a here) there)
within_it b g k a heap here there (inr (inl within)) less = within
within_it b g k a heap here there (inr (inr within)) less = absurd (omega (arith, less, (within_low b k g heap within).0))

round_first : (at len : ℕ) (h : HeapList) → 0 < len → is_round at len h ≡ true → in_range h.start h.end at ≡ true
round_first at len h some is =
    let round : IsRound at len h = round_so at len h is in
    rw (le-leb h.start at (omega (arith, round.low)), lt-ltb at (h.start + h.end) (omega (arith, round.high, some))) refl

holds_inner : (b : Bytes) (at len : ℕ) (g k : HeapList) → 0 < len → IsHeapIn b k.start k.end k.items → StandsApart g k
    → is_round at len g ≡ true → is_round at len k ≡ true → g.start < k.start → not (holds_range (g.start + 16) g.items at len) ≡ false
holds_inner b at len g k some heap apart outer inner less =
    let within : IsWithin g k = within_it b g k at heap (round_first at len g some outer) (round_first at len k some inner) apart less in
    let round : IsRound at len k = round_so at len k inner in
    rw (held_range within.block within.total (g.start + 16) g.items at len within.live (omega (arith, within.low, round.low))
    (omega (arith, within.high, round.high))) refl

-- a byte that a live block holds
payload_live : (block total at : ℕ) (items : List Item) (a : ℕ) → live_total block at items ≡ Some total → block ≤ a → a + 4 < block + total
    → is_other (payload_from at items a) ≡ false
payload_live block total at [] a live low high = absurd (let none : None ≡ Some total = live in cc)
payload_live block total at (Free t ∷ xs) a live low high = payload_live block total (at + t) xs a live low high
payload_live block total at (Live t ∷ xs) a live low high = elim (cases_Bool (in_range (at + 4) (t - 4) a)) [
  | inl held ↦ rw held refl
  | inr other ↦ rw other (payload_live block total (at + t) xs a (elim (cases_Bool (at + 4 == block)) [
    | inr later ↦ rw later at live
    | inl here ↦
        let same : at + 4 ≡ block = eqb-true (at + 4) block here in
        let live' = rw here at live in
        let size : t ≡ total = cc in
        let inside : in_range (at + 4) (t - 4) a ≡ true =
        rw (le-leb (at + 4) a (omega (arith, same, low)), lt-ltb a (at + 4 + (t - 4)) (omega (arith, same, size, low, high))) refl in
        absurd (both_ways (in_range (at + 4) (t - 4) a) other inside)
  ]) low high)
]

byte_inner : (b : Bytes) (a : ℕ) (g k : HeapList) → IsHeapIn b k.start k.end k.items → StandsApart g k
    → in_range g.start g.end a ≡ true → in_range k.start k.end a ≡ true → g.start < k.start → is_other (payload_in g a) ≡ false
byte_inner b a g k heap apart outer inner less =
    let within : IsWithin g k = within_it b g k a heap outer inner apart less in
    let both = and_parts (leb k.start a) (ltb a (k.start + k.end)) inner in
    payload_live within.block within.total (g.start + 16) g.items a within.live (omega (arith, within.low, leb-true k.start a both.0))
    (omega (arith, within.high, ltb-true a (k.start + k.end) both.1))

-- all pairs of heaps of a store
ranges_nested_in : (b : Bytes) (at len : ℕ) (g : HeapList) (hs : List HeapList) → 0 < len → IsHeapIn b g.start g.end g.items → StandApart g hs → AreHeapsIn b hs
    → AreNestedIn (is_round at len) (λ h. not (holds_range (h.start + 16) h.items at len)) g hs
ranges_nested_in b at len g [] some heap stand parts = tt
ranges_nested_in b at len g (k ∷ hs) some heap stand parts =
    let starts : k.start ≢ g.start = apart_starts b b g k heap parts.0 stand.0 in (
      record {
        outer = λ outer inner less. holds_inner b at len g k some parts.0 stand.0 outer inner less;
        inner = λ outer inner less. holds_inner b at len k g some heap (apart_turned g k stand.0) inner outer less;
        differ = λ (same : g.start ≡ k.start). starts (sym same);
      },
      ranges_nested_in b at len g hs some heap stand.1 parts.1.1,
    )

pub ranges_nested : (b : Bytes) (at len : ℕ) (hs : List HeapList) → 0 < len → AreHeapsIn b hs
    → AreNested (is_round at len) (λ h. not (holds_range (h.start + 16) h.items at len)) hs
ranges_nested b at len [] some parts = tt
ranges_nested b at len (g ∷ hs) some parts =
    (ranges_nested_in b at len g hs some parts.0 parts.1.0 parts.1.1, ranges_nested b at len hs some parts.1.1)

bytes_nested_in : (b : Bytes) (a : ℕ) (g : HeapList) (hs : List HeapList) → IsHeapIn b g.start g.end g.items → StandApart g hs → AreHeapsIn b hs
    → AreNestedIn (λ h. in_range h.start h.end a) (λ h. is_other (payload_in h a)) g hs
bytes_nested_in b a g [] heap stand parts = tt
bytes_nested_in b a g (k ∷ hs) heap stand parts =
    let starts : k.start ≢ g.start = apart_starts b b g k heap parts.0 stand.0 in (
      record {
        outer = λ outer inner less. byte_inner b a g k parts.0 stand.0 outer inner less;
        inner = λ outer inner less. byte_inner b a k g heap (apart_turned g k stand.0) inner outer less;
        differ = λ (same : g.start ≡ k.start). starts (sym same);
      },
      bytes_nested_in b a g hs heap stand.1 parts.1.1,
    )

bytes_nested : (b : Bytes) (a : ℕ) (hs : List HeapList) → AreHeapsIn b hs
    → AreNested (λ h. in_range h.start h.end a) (λ h. is_other (payload_in h a)) hs
bytes_nested b a [] parts = tt
bytes_nested b a (g ∷ hs) parts = (bytes_nested_in b a g hs parts.0 parts.1.0 parts.1.1, bytes_nested b a hs parts.1.1)

-- a byte is in no payload where it is in none of one heap that has it
either_other : (p q : Payload) → is_other (payload_or p q) ≡ (is_other p || is_other q)
either_other Other q = refl
either_other Outside q = refl
either_other (Inside a n) Other = refl
either_other (Inside a n) Outside = refl
either_other (Inside a n) (Inside c m) = refl

others_any : (hs : List HeapList) (a : ℕ) → is_other (payload_of hs a) ≡ list_any (λ h. in_range h.start h.end a && is_other (payload_in h a)) hs
others_any [] a = refl
others_any (h ∷ hs) a = elim (cases_Bool (in_range h.start h.end a)) [
  | inr out ↦ rw out (others_any hs a)
  | inl inside ↦ rw inside (either_other (payload_in h a) (payload_of hs a) ∙ ap (λ (t : Bool). is_other (payload_in h a) || t) (others_any hs a))
]

-- a range that meets no heap but those round it
round_meets : (at len : ℕ) (h : HeapList) → 0 < len → is_round at len h ≡ true → shares_address at len h.start h.end ≡ true
round_meets at len h some is =
    let round : IsRound at len h = round_so at len h is in
    let low : h.start < at = round.low in
    let high : at + len ≤ h.start + h.end = round.high in
    rw (lt-ltb 0 len some, lt-ltb 0 h.end (omega (arith, low, high)), lt-ltb at (h.start + h.end) (omega (arith, high, some)), lt-ltb h.start (at + len) (omega (arith, low))) refl

crossed_round : (at len : ℕ) (h : HeapList) → 0 < len → (shares_address at len h.start h.end && not (is_round at len h)) ≡ false
    → is_crossed at len h ≡ (is_round at len h && not (holds_range (h.start + 16) h.items at len))
crossed_round at len h some none = elim (cases_Bool (is_round at len h)) [
  | inl round ↦ rw (round, round_meets at len h some round) refl
  | inr out ↦ elim (cases_Bool (shares_address at len h.start h.end)) [
    | inr apart ↦ rw (out, apart) refl
    | inl met ↦ absurd (false≢true (sym (rw (met, out) at none)))
  ]
]

all_crossed_round : (at len : ℕ) (hs : List HeapList) → 0 < len → list_any (λ h. shares_address at len h.start h.end && not (is_round at len h)) hs ≡ false
    → list_any (is_crossed at len) hs ≡ list_any (λ h. is_round at len h && not (holds_range (h.start + 16) h.items at len)) hs
all_crossed_round at len [] some none = refl
all_crossed_round at len (h ∷ hs) some none =
    let parts = or_parts (shares_address at len h.start h.end && not (is_round at len h)) (list_any (λ g. shares_address at len g.start g.end && not (is_round at len g)) hs) none in
    rw (crossed_round at len h some parts.0, all_crossed_round at len hs some parts.1) refl

pub innermost_shows : (s : Store) → IsSound s
    → ((a : ℕ) → is_other (payload_of s.heaps a) ≡ passes_if_there (λ h. is_other (payload_in h a)) (last_of (λ h. in_range h.start h.end a) s.heaps))
    × ((at len : ℕ) → 0 < len → list_any (λ h. shares_address at len h.start h.end && not (is_round at len h)) s.heaps ≡ false
    → list_any (is_crossed at len) s.heaps ≡ passes_if_there (λ h. not (holds_range (h.start + 16) h.items at len)) (innermost_heap at len s.heaps))
innermost_shows s sound = (
  λ a. others_any s.heaps a ∙ last_shows (λ h. in_range h.start h.end a) (λ h. is_other (payload_in h a)) s.heaps (bytes_nested s.bytes a s.heaps sound.heaps),
  λ at len some none. all_crossed_round at len s.heaps some none
      ∙ last_shows (is_round at len) (λ h. not (holds_range (h.start + 16) h.items at len)) s.heaps (ranges_nested s.bytes at len s.heaps some sound.heaps),
)

pub ruleset rounds = (later_none, round_next, round_passed)
