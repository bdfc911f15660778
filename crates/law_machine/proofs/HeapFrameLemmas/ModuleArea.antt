-- The calls on the module area, and new images there.
use Rattle.profile.specs.MemoryMap.{module_area_start}
use Rattle.std.proofs.Common.{ℕ, ◌+◌, ◌*◌, ◌≡◌, ◌∙◌, false, List, length, Option, Some, Result, Ok, Err, refl, sym, ap, subst, inl, inr, arith}
use Rattle.std.specs.Prelude.{nat_le, nat_lt}
use Rattle.std.proofs.lemmas.Bool.{cases_Bool}
use Rattle.profile.specs.Outcome.{bind}
use Rattle.profile.specs.ErrorNumber.{ErrorNumber}
use Rattle.address_map.specs.Bytes.{Bytes, in_range, with_bytes, with_moved}
use Rattle.address_map.specs.declared.region.Region.{Region}
use Rattle.os_heap.specs.Calls.{block_sized, gave_back, store_after_get, store_after_resize}
use Rattle.os_heap.specs.Store.{Store}
use Rattle.dynamic_areas.specs.declared.area.Area.{Area}
use Rattle.dynamic_areas.specs.Ground.{AreaStore}
use Rattle.rma.specs.Calls.{area_pages, area_room, end_if_moved, end_in_place, grown_by, grown_in_place, grown_to, in_area, is_full, or_as_before, or_grown, pages_short, resized_or_grown, rma_base, rma_claimed, rma_extended, rma_freed, room_in, with_pages_more, with_store}
use Rattle.rma.specs.Images.{image_recorded, store_with_image}
use Rattle.rma.specs.NewImages.{image_copied, image_made}
use Rattle.rma.proofs.FlexFrameLemmas.Heaps.{OnDone}
use Rattle.os_heap_words.specs.lists.Lists.{total_for}
use Rattle.law_machine.proofs.HeapFrameLemmas.Growing.{pages_fit, room_fits}
use Rattle.law_machine.proofs.HeapFrameLemmas.HeapCalls.{IsNewBlock, LeavesFit, gave_fit, got_fit, resized_fit}
use Rattle.law_machine.proofs.HeapFrameLemmas.Holding.{keeps_all, keeps_both, range_within, still_between, written_is_fit}
use Rattle.law_machine.proofs.HeapFrameLemmas.InnerHeaps.{inner_elsewhere}
use Rattle.law_machine.specs.heap_frame.Fits.{IsFitStore, KeepsOutside, LiesInArea, StaysFit, StaysInArea}
use Rattle.law_machine.specs.heap_frame.FitAreaStores.{AreaStoreStaysFit, IsFitAreaStore}
use Rattle.law_machine.specs.heap_frame.ModuleAreaLaws.{ModuleAreaCallsStayFit}

pub fit_same : (e : AreaStore) → IsFitAreaStore e → AreaStoreStaysFit e e
fit_same e f = record { fit = f; outside = keeps_all e.store }

pub fit_both : (d e g : AreaStore) → AreaStoreStaysFit d e → AreaStoreStaysFit e g → AreaStoreStaysFit d g
fit_both d e g one two = record { fit = two.fit; outside = keeps_both d.store e.store g.store one.outside two.outside }

-- the area store after a step on its store alone
pub store_fit : (e : AreaStore) (t : Store) (f : IsFitAreaStore e) → StaysFit (4096 * f.area.pages) e.store t → AreaStoreStaysFit e (with_store e t)
store_fit e t f done = record { fit = record { area = f.area; found = f.found; most = f.most; store = done.fit }; outside = done.outside }

-- what a call that is done leaves, with its answer, has a property
abbrev pub OnAreaStore : {A : Type 0} → (AreaStore × A → Type 0) → Result (AreaStore × A) ErrorNumber → Type 0
OnAreaStore P (Ok x) = P x
OnAreaStore P (Err e) = Unit {0}

-- it stays fit, and the answer has a property, with the stores before the call and after it
abbrev pub Leaves : {A : Type 0} → (Store → Store → A → Type 0) → AreaStore → AreaStore × A → Type 0
Leaves B e x = AreaStoreStaysFit e x.0 × B e.store x.0.store x.1

abbrev LeavesIn : {A : Type 0} → (Store → Store → A → Type 0) → ℕ → Store → Store × A → Type 0
LeavesIn B limit s x = StaysFit limit s x.0 × B s x.0 x.1

-- which it has from an earlier store on, too
abbrev IsCarried : {A : Type 0} → (Store → Store → A → Type 0) → Type 0
IsCarried {A} B = (s t u : Store) (x : A) → KeepsOutside s t → KeepsOutside t u → B t u x → B s u x

done_in : (A : Type 0) (P : AreaStore × A → Type 0) (r : Result (AreaStore × A) ErrorNumber) (x : AreaStore × A) → OnAreaStore P r → r ≡ Ok x → P x
done_in A P (Ok y) x done is = let same : y ≡ x = cc in subst P same done
done_in A P (Err e) x done is = absurd (cc)

-- the area grows, where it can
abbrev pub OnGrown : AreaStore → Result AreaStore ErrorNumber → Type 0
OnGrown e (Ok g) = AreaStoreStaysFit e g
OnGrown e (Err f) = Unit {0}

by_fit : (e : AreaStore) (count : ℕ) → IsFitAreaStore e → OnGrown e (grown_by e count)
by_fit e count f = elim (cases_Bool (nat_lt (area_room e) count)) [
  | inl short ↦ rw short tt
  | inr enough ↦
      let room : nat_lt (room_in e.pool (Some f.area)) count ≡ false = sym (ap (λ (o : Option Area). nat_lt (room_in e.pool o) count) f.found) ∙ enough in
      rw enough (pages_fit e count f (with_pages_more e count) (room_fits e.pool count f.area f.store.room f.most room) refl refl)
]

pub to_fit : (e : AreaStore) (end : ℕ) → IsFitAreaStore e → OnGrown e (grown_to e end)
unfolding grown_to
to_fit e end f = elim (cases_Bool (nat_le end (4096 * area_pages e))) [
  | inl enough ↦ rw enough (fit_same e f)
  | inr short ↦ rw short (by_fit e (pages_short e end) f)
]

grown_then : (d e : AreaStore) (o : Result AreaStore ErrorNumber) → OnGrown d o → o ≡ Ok e → AreaStoreStaysFit d e
grown_then d e (Ok g) grown is = let same : g ≡ e = cc in subst (λ (x : AreaStore). AreaStoreStaysFit d x) same grown
grown_then d e (Err f) grown is = absurd (cc)

module _ (A : Type 0) (B : Store → Store → A → Type 0) (carried : IsCarried B) where
  in_fit : (e : AreaStore) (r : Result (Store × A) ErrorNumber) (f : IsFitAreaStore e) → OnDone (LeavesIn B (4096 * f.area.pages) e.store) r
      → OnAreaStore (Leaves B e) (in_area e r)
  in_fit e (Ok x) f done = (store_fit e x.0 f done.0, done.1)
  in_fit e (Err g) f done = tt

  after_fit : (d e : AreaStore) (r : Result (AreaStore × A) ErrorNumber) → AreaStoreStaysFit d e → OnAreaStore (Leaves B e) r → OnAreaStore (Leaves B d) r
  after_fit d e (Ok x) one done =
      (fit_both d e x.0 one done.0, carried d.store e.store x.0.store x.1 one.outside done.0.outside done.1)
  after_fit d e (Err g) one done = tt

  -- a call on the heap that stays in it
  IsFitCall : (Store → Result (Store × A) ErrorNumber) → Type 0
  IsFitCall call = (limit : ℕ) (s : Store) → IsFitStore limit s → OnDone (LeavesIn B limit s) (call s)

  grown_fit : (e : AreaStore) (call : Store → Result (Store × A) ErrorNumber) (o : Result AreaStore ErrorNumber) → IsFitCall call → OnGrown e o
      → OnAreaStore (Leaves B e) (bind o (λ g. in_area g (call g.store)))
  unfolding IsFitCall
  grown_fit e call (Err g) each grown = tt
  grown_fit e call (Ok g) each grown =
      after_fit e g (in_area g (call g.store)) grown
      (in_fit g (call g.store) grown.fit (each (4096 * grown.fit.area.pages) g.store grown.fit.store))

  -- done once more in the grown area where it found no room
  again_fit : (e : AreaStore) (end : ℕ) (call : Store → Result (Store × A) ErrorNumber) → IsFitAreaStore e → IsFitCall call
      → OnAreaStore (Leaves B e) (or_grown e end call (call e.store))
  unfolding IsFitCall
  again_fit e end call f each = elim (cases_Bool (is_full (call e.store))) [
    | inl full ↦ rw full (grown_fit e call (grown_to e end) each (to_fit e end f))
    | inr found ↦ rw found (in_fit e (call e.store) f (each (4096 * f.area.pages) e.store f.store))
  ]

abbrev pub IsAny : {A : Type 0} → Store → Store → A → Type 0
IsAny s t x = Unit {0}

any_carried : (A : Type 0) → IsCarried (IsAny {A = A})
any_carried A s t u x one two done = tt

any_left : (A : Type 0) (limit : ℕ) (s : Store) (r : Result (Store × A) ErrorNumber) → OnDone (LeavesFit limit s) r → OnDone (LeavesIn IsAny limit s) r
any_left A limit s (Ok x) done = (done, tt)
any_left A limit s (Err e) done = tt

-- a claim, with where its block lies
new_carried : (len : ℕ) → IsCarried (IsNewBlock len)
new_carried len s t u block one two new = record {
  low = new.low;
  high = new.high;
  beside = λ h a some lies still here.
      let stays : StaysInArea h s t = one.inner h some lies (still_between t u h.start two (inner_elsewhere s h lies) still) in
      new.beside h a some stays.lies still here;
}

pub claimed_fit : (e : AreaStore) (size : ℕ) → IsFitAreaStore e → OnAreaStore (Leaves (IsNewBlock size) e) (rma_claimed e size)
unfolding rma_claimed IsFitCall
claimed_fit e size f =
    again_fit ℕ (IsNewBlock size) (new_carried size) e (rma_base e.store + total_for size) (λ s. store_after_get s module_area_start size) f
    (λ limit s g. got_fit limit size s g)

pub freed_fit : (e : AreaStore) (block : ℕ) → IsFitAreaStore e → OnAreaStore (Leaves IsAny e) (rma_freed e block)
unfolding rma_freed
freed_fit e block f =
    in_fit (Unit {0}) IsAny (any_carried (Unit {0})) e (gave_back e.store module_area_start block) f
    (any_left (Unit {0}) (4096 * f.area.pages) e.store (gave_back e.store module_area_start block)
    (gave_fit (4096 * f.area.pages) module_area_start block e.store refl f.store))

before_fit : (e : AreaStore) (o : Result AreaStore ErrorNumber) → IsFitAreaStore e → OnGrown e o → AreaStoreStaysFit e (or_as_before e o)
before_fit e (Ok g) f grown = grown
before_fit e (Err g) f grown = fit_same e f

resized_or_fit : (e : AreaStore) (block change : ℕ) → IsFitAreaStore e → OnAreaStore (Leaves IsAny e) (resized_or_grown e block change)
unfolding IsFitCall
resized_or_fit e block change f =
    again_fit ℕ IsAny (any_carried ℕ) e (end_if_moved (rma_base e.store) change (block_sized e.store module_area_start block))
    (λ s. store_after_resize s module_area_start block change) f (λ limit s g. any_left ℕ limit s (store_after_resize s module_area_start block change) (resized_fit limit block change s g))

pub extended_fit : (e : AreaStore) (block change : ℕ) → IsFitAreaStore e → OnAreaStore (Leaves IsAny e) (rma_extended e block change)
unfolding rma_extended
extended_fit e block change f =
    let end : ℕ = end_in_place (rma_base e.store) block change (block_sized e.store module_area_start block) in
    let g : AreaStore = grown_in_place e block change in
    let grown : AreaStoreStaysFit e g = before_fit e (grown_to e end) f (to_fit e end f) in
    after_fit ℕ IsAny (any_carried ℕ) e g (resized_or_grown g block change) grown (resized_or_fit g block change grown.fit)

-- records of images change no byte and no heap
pub records_fit : (limit : ℕ) (s : Store) (rs : List Region) → IsFitStore limit s → StaysFit limit s (record s { others = rs })
records_fit limit s rs f = record {
  fit = record { heap = f.heap; found = f.found; totals = f.totals; inside = f.inside; end = f.end; room = f.room; place = f.place };
  outside = record {
    bytes = λ a out. refl;
    heaps = λ at other still. refl;
    anchors = λ a. refl;
    inner = λ h some lies still. record {
      lies = record { area = lies.area; round = lies.round; found = lies.found; within = lies.within };
      bytes = λ a here. refl;
    };
  };
}

recorded_by : (limit : ℕ) (s : Store) (at : ℕ) (o : Result ℕ ErrorNumber) → IsFitStore limit s → StaysFit limit s (store_with_image s at o)
recorded_by limit s at (Ok len) f = records_fit limit s _ f
recorded_by limit s at (Err e) f = record { fit = f; outside = keeps_all s }

pub recorded_fit : (limit : ℕ) (s : Store) (at : ℕ) → IsFitStore limit s → StaysFit limit s (image_recorded s at)
unfolding image_recorded
recorded_fit limit s at f = recorded_by limit s at (block_sized s module_area_start at) f

-- a block that was claimed gets bytes, and is recorded as an image
put_outside : (s t : Store) (c : Bytes) (at len : ℕ) → KeepsOutside s t → IsNewBlock len s t at
    → ((a : ℕ) → in_range at len a ≡ false → c.at a ≡ t.bytes.at a) → KeepsOutside s (record t { bytes = c })
put_outside s t c at len one new kept = record {
  bytes = λ a out. kept a (range_within at len a new.low (omega (arith, new.high)) out) ∙ one.bytes a out;
  heaps = one.heaps;
  anchors = one.anchors;
  inner = λ h some lies still.
      let stays : StaysInArea h s t = one.inner h some lies still in
      let there : LiesInArea t h = stays.lies in
      record {
        lies = record { area = there.area; round = there.round; found = there.found; within = there.within };
        bytes = λ a here. kept a (new.beside h a some lies still here) ∙ stays.bytes a here;
      };
}

image_fit : (e : AreaStore) (len : ℕ) (o : Result (AreaStore × ℕ) ErrorNumber) (put : Store → ℕ → Bytes)
    → ((s : Store) (at a : ℕ) → in_range at len a ≡ false → (put s at).at a ≡ s.bytes.at a) → OnAreaStore (Leaves (IsNewBlock len) e) o
    → OnAreaStore (Leaves IsAny e)
    (bind o (λ c. Ok (with_store c.0 (image_recorded (record c.0.store { bytes = put c.0.store c.1 }) c.1), c.1)))
image_fit e len (Err g) put kept done = tt
image_fit e len (Ok c) put kept done =
    let s : Store = c.0.store in
    let t : Store = record s { bytes = put s c.1 } in
    let u : Store = image_recorded t c.1 in
    let fit : IsFitAreaStore c.0 = done.0.fit in
    let limit : ℕ = 4096 * fit.area.pages in
    let one : KeepsOutside e.store t = put_outside e.store s (put s c.1) c.1 len done.0.outside done.1 (λ a out. kept s c.1 a out) in
    let two : StaysFit limit t u = recorded_fit limit t c.1 (written_is_fit limit s (put s c.1) fit.store) in (
      record {
        fit = record { area = fit.area; found = fit.found; most = fit.most; store = two.fit };
        outside = keeps_both e.store t u one two.outside;
      },
      tt,
    )

pub made_fit : (e : AreaStore) (image : List ℕ) → IsFitAreaStore e → OnAreaStore (Leaves IsAny e) (image_made e image)
unfolding image_made
made_fit e image f =
    image_fit e (length image) (rma_claimed e (length image)) (λ s at. with_bytes s.bytes at image) (λ s at a out. rw out refl)
    (claimed_fit e (length image) f)

pub copied_fit : (e : AreaStore) (from len : ℕ) → IsFitAreaStore e → OnAreaStore (Leaves IsAny e) (image_copied e from len)
unfolding image_copied
copied_fit e from len f =
    image_fit e len (rma_claimed e len) (λ s at. with_moved s.bytes from at len) (λ s at a out. rw out refl) (claimed_fit e len f)

pub module_area_calls_fit : ModuleAreaCallsStayFit
module_area_calls_fit d e f = record {
  grow = λ end is. grown_then d e (grown_to d end) (to_fit d end f) is;
  claim = λ size block is. (done_in ℕ (Leaves (IsNewBlock size) d) (rma_claimed d size) (e, block) (claimed_fit d size f) is).0;
  free = λ block is. (done_in (Unit {0}) (Leaves IsAny d) (rma_freed d block) (e, tt) (freed_fit d block f) is).0;
  extend = λ block change new is. (done_in ℕ (Leaves IsAny d) (rma_extended d block change) (e, new) (extended_fit d block change f) is).0;
  make_image = λ image at is. (done_in ℕ (Leaves IsAny d) (image_made d image) (e, at) (made_fit d image f) is).0;
  copy_image = λ from len at is. (done_in ℕ (Leaves IsAny d) (image_copied d from len) (e, at) (copied_fit d from len f) is).0;
}
