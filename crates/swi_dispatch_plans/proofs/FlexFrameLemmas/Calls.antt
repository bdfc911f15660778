-- What a flex call leaves of the store, of its place, and of what holds of both.
use Rattle.std.proofs.Common.{ℕ, ◌≡◌, ◌+◌, ◌-◌, ◌%◌, ◌≤◌, ◌<◌, ◌==◌, ◌&&◌, Bool, true, false, not, List, [], ◌∷◌, ◌++◌, Option, Some, None, Result, Ok, Err, ok_or, is_some, refl, sym, ap, ◌∙◌, inl, inr, arith}
use Rattle.std.specs.Prelude.{nat_le, if◌then◌else◌}
use Rattle.std.specs.List.{list_any}
use Rattle.std.proofs.lemmas.Bool.{and_parts, both_ways, cases_Bool, false_from_ne_true, lt-ltb, not-true, or_parts, or_from, false≢true, true≢false}
use Rattle.flex_store.specs.Outcome.{Gives, bind}
use Rattle.flex_store.specs.ErrorNumber.{ErrorNumber}
use Rattle.flex_store.specs.ErrorNumber.TheVariants.{FlexAnchorInUse, FlexBadAnchor, FlexHoldsAnchor}
use Rattle.os_heap.specs.Bytes.{in_range, shares_address, word_start}
use Rattle.os_heap.specs.Classes.{is_anchor, is_flex_header}
use Rattle.os_heap.specs.Memory.{byte_at, bytes_of, class_of}
use Rattle.os_heap.specs.AddressMap.{AddressMap}
use Rattle.os_heap.specs.Region.{Region}
use Rattle.flex_store.proofs.Apart.{range_parts}
use Rattle.flex_store.proofs.Frame.{layout-others}
use Rattle.flex_store.specs.Payloads.{is_other, payload_of}
use Rattle.flex_store.specs.Store.{IsSound, Store, is_flex_store, store_of}
use Rattle.instances.specs.flex_frame.Keeping.{AreAnchorsFree, is_in_other_record}
use Rattle.instances.proofs.Writes.{flex_alone}
use Rattle.flex_store.specs.Blocks.{before, behind_of, Block, contents, cut_of, FlexStore, find_block, has_anchor, block_holding, more_of, new_block, bytes_after_splice, bytes_taken_by_all}
use Rattle.flex_store.specs.Calls.{flex_after_alloc, end_in, flex_after_extend, flex_if_room, FlexState, header_place_in, is_anchor_place, may_stand, mid_extended, flex_after_release, spliced_at}
use Rattle.flex_store.specs.Shifts.{following, splice_shifts}
use Rattle.flex_store.specs.State.{IsFlex, IsFlexAt, flex_in, state_of_flex}
use Rattle.flex_store.specs.declared.flex.Extent.{Extent}
use Rattle.flex_store.specs.declared.flex.Flex.{Flex}
use Rattle.instances.specs.module_state.Sound.{count_beside}
use Rattle.flex_store.specs.Kept.{KeepsLayoutAndHeaps}
use Rattle.swi_dispatch_plans.specs.flex_frame.CallLaws.{IsLeft}
use Rattle.swi_dispatch_plans.specs.flex_frame.Ground.{HasFlex, anchors_in, flex_of, flex_state, headers_in, records_with, spelled_store, store_flexed}

-- the state of a call is the one that memory and the place of the store spell
in_is : (m : AddressMap) (o : Option Extent) → flex_in m o ≡ spelled_store (byte_at m) o
in_is m None = refl
in_is m (Some e) = refl

pub state_is : (m : AddressMap) (f : Flex) → state_of_flex m f ≡ flex_state (store_of m) f
unfolding state_of_flex store_of
state_is m f = ap (λ (x : Option FlexStore). record { bytes = bytes_of m; flex = x }) (in_is m f.extent)

place_is : (n : AddressMap) (o : Option Extent) → IsFlexAt n o → record { extent = o } ≡ flex_of (flex_in n o)
place_is n None is = refl
place_is n (Some e) is = ap (λ (u : ℕ). record { extent = Some (record { start = e.start; end = e.end; used = u }) }) (sym is.held.used_is)

pub flex_is : (n : AddressMap) (g : Flex) → IsFlex n g → g ≡ flex_of (flex_in n g.extent)
flex_is n g is = place_is n g.extent is

anchors_are : (n : AddressMap) (o : Option Extent) → IsFlexAt n o → (a : ℕ) → is_anchor (class_of n a) ≡ anchors_in (flex_in n o) a
anchors_are n None is a = is.anchors a
anchors_are n (Some e) is a = is.held.store.anchors a

headers_are : (n : AddressMap) (o : Option Extent) → IsFlexAt n o → (a : ℕ) → is_flex_header (class_of n a) ≡ headers_in (flex_in n o) a
headers_are n None is a = is.headers a
headers_are n (Some e) is a = is.held.store.headers a

pub store_spelled : (m n : AddressMap) (g : Flex) (others : List Region) → IsFlex n g → (store_of n).others ≡ others → (store_of n).heaps ≡ (store_of m).heaps
    → store_of n ≡ store_flexed (record (store_of m) { others = others }) (state_of_flex n g)
unfolding store_of state_of_flex
store_spelled m n g rs is others heaps = λ i. record {
  bytes = bytes_of n;
  heaps = heaps i;
  others = others i;
  anchor = λ a. anchors_are n g.extent is a i;
  header = λ a. headers_are n g.extent is a i;
}

store_is : (m n : AddressMap) (g : Flex) → IsFlex n g → (store_of n).others ≡ (store_of m).others → (store_of n).heaps ≡ (store_of m).heaps
    → store_of n ≡ store_flexed (store_of m) (state_of_flex n g)
store_is m n g is others heaps = store_spelled m n g (store_of m).others is others heaps

pub flex_left : (m n : AddressMap) (g : Flex) (t : FlexState) → KeepsLayoutAndHeaps m n g.extent → state_of_flex n g ≡ t → IsLeft m n g t
unfolding state_of_flex
flex_left m n g t call state = record {
  store = store_is m n g call.flex (layout-others m n call.layout) call.heaps ∙ ap (store_flexed (store_of m)) state;
  flex = flex_is n g call.flex ∙ ap (λ (x : FlexState). flex_of x.flex) state;
}

-- a call that was refused changed neither
pub flex_stays_by : (m n : AddressMap) (f g : Flex) → IsFlex m f → IsFlex n g → (store_of n).others ≡ (store_of m).others
    → (store_of n).heaps ≡ (store_of m).heaps → state_of_flex n g ≡ state_of_flex m f → (store_of n ≡ store_of m) × (g ≡ f)
unfolding state_of_flex
flex_stays_by m n f g is is' others heaps state = (
  store_is m n g is' others heaps ∙ ap (store_flexed (store_of m)) state ∙ sym (store_is m m f is refl refl),
  flex_is n g is' ∙ ap (λ (x : FlexState). flex_of x.flex) state ∙ sym (flex_is m f is),
)

pub flex_stays_so : (m n : AddressMap) (f g : Flex) → IsFlex m f → KeepsLayoutAndHeaps m n g.extent → state_of_flex n g ≡ state_of_flex m f → (store_of n ≡ store_of m) × (g ≡ f)
flex_stays_so m n f g is call state = flex_stays_by m n f g is call.flex (layout-others m n call.layout) call.heaps state

-- The store is there after a call where it was before.
fitted_there : (t : FlexState) (s : FlexStore) (olds news : List Block) (r : FlexState × Bool) → t.flex ≡ Some s → flex_if_room t s olds news ≡ r → is_some r.0.flex ≡ true
fitted_there t s olds news r there is = elim (cases_Bool (nat_le (s.start + bytes_taken_by_all (olds ++ news)) s.end)) [
  | inl fits ↦ let done = rw fits at is in ap (λ (x : FlexState × Bool). is_some x.0.flex) (sym done)
  | inr none ↦ let done = rw none at is in ap (λ (x : FlexState × Bool). is_some x.0.flex) (sym done) ∙ ap is_some there
]

past_if : (B : Type 0) (b : Bool) (e : ErrorNumber) (x : Result B ErrorNumber) (r : B) → (if b then Err e else x) ≡ Ok r → x ≡ Ok r
past_if B true e x r h = absurd (let no : Err e ≡ Ok r = h in cc)
past_if B false e x r h = h

pub ok_is : (A : Type 0) (x y : A) → (let one : Result A ErrorNumber = Ok x in let two : Result A ErrorNumber = Ok y in one ≡ two) → x ≡ y
ok_is A x y e = cc

-- what is done on a store leaves one
there_by : (A : Type 0) (o : Option FlexStore) (e : ErrorNumber) (next : FlexStore → Result (FlexState × A) ErrorNumber) (q : FlexState × A)
    → bind (ok_or o e) next ≡ Ok q → ((s : FlexStore) → o ≡ Some s → next s ≡ Ok q → is_some q.0.flex ≡ true) → is_some q.0.flex ≡ is_some o
there_by A None e next q is by = absurd (let no : Err e ≡ Ok q = is in cc)
there_by A (Some s) e next q is by = by s refl is

block_by : (A : Type 0) (o : Option Block) (e : ErrorNumber) (next : Block → Result (FlexState × A) ErrorNumber) (q : FlexState × A)
    → bind (ok_or o e) next ≡ Ok q → ((b : Block) → next b ≡ Ok q → is_some q.0.flex ≡ true) → is_some q.0.flex ≡ true
block_by A None e next q is by = absurd (let no : Err e ≡ Ok q = is in cc)
block_by A (Some b) e next q is by = by b is

IsThere : (A : Type 0) → FlexState → Result (FlexState × A) ErrorNumber → Type 0
IsThere A t r = (q : FlexState × A) → r ≡ Ok q → is_some q.0.flex ≡ is_some t.flex

allocated_there : (places : Store) (t : FlexState) (anchor size : ℕ) → IsThere Bool t (flex_after_alloc places t anchor size)
unfolding IsThere flex_after_alloc
allocated_there places t anchor size q is = there_by Bool t.flex _ _ q is (λ s there done.
    fitted_there t s s.blocks (new_block anchor size ∷ []) q there (ok_is _ _ _ (past_if _ (has_anchor s.blocks anchor) FlexAnchorInUse _ q
    (past_if _ (not (is_anchor_place places anchor && may_stand s anchor)) FlexBadAnchor _ q done))))

released_there : (t : FlexState) (anchor : ℕ) → IsThere (Unit {0}) t (flex_after_release t anchor)
unfolding IsThere flex_after_release
released_there t anchor q is = there_by (Unit {0}) t.flex _ _ q is (λ s there done.
    block_by (Unit {0}) (find_block anchor s.blocks) _ _ q done (λ b last.
    ap (λ (x : FlexState × Unit {0}). is_some x.0.flex) (sym (ok_is _ _ _ (past_if _ _ FlexHoldsAnchor _ q last)))))

spliced_there : (t : FlexState) (s : FlexStore) (anchor : ℕ) (b : Block) (place cut more : ℕ) (q : FlexState × Bool) → t.flex ≡ Some s
    → spliced_at t s anchor b place cut more ≡ Ok q → is_some q.0.flex ≡ true
spliced_there t s anchor b place cut more q there is =
    fitted_there t s (before anchor s.blocks)
    (block_holding b (bytes_after_splice (contents b) place cut more) ∷ following (splice_shifts (header_place_in s anchor) (end_in s) b.size place cut more) (behind_of anchor s.blocks)) q there
    (ok_is _ _ _ (past_if _ _ FlexHoldsAnchor _ q is))

same_or_spliced : (t : FlexState) (s : FlexStore) (same : Bool) (anchor : ℕ) (b : Block) (place cut more : ℕ) (q : FlexState × Bool) → t.flex ≡ Some s
    → (let r : Result (FlexState × Bool) ErrorNumber = if same then Ok (t, true) else spliced_at t s anchor b place cut more in r ≡ Ok q) → is_some q.0.flex ≡ true
same_or_spliced t s true anchor b place cut more q there is =
    ap (λ (x : FlexState × Bool). is_some x.0.flex) (sym (ok_is _ (t, true) q is)) ∙ ap is_some there
same_or_spliced t s false anchor b place cut more q there is = spliced_there t s anchor b place cut more q there is

extended_there : (t : FlexState) (anchor size : ℕ) → IsThere Bool t (flex_after_extend t anchor size)
unfolding IsThere flex_after_extend
extended_there t anchor size q is = there_by Bool t.flex _ _ q is (λ s there done.
    block_by Bool (find_block anchor s.blocks) _ _ q done (λ b last.
    same_or_spliced t s (size == b.size) anchor b b.size (b.size - size) (size - b.size) q there last))

mid_extended_there : (t : FlexState) (anchor at by : ℕ) → IsThere Bool t (mid_extended t anchor at by)
unfolding IsThere mid_extended
mid_extended_there t anchor at by q is = there_by Bool t.flex _ _ q is (λ s there done.
    block_by Bool (find_block anchor s.blocks) _ _ q (past_if _ _ _ _ q done) (λ b last.
    same_or_spliced t s (by == 0) anchor b at (cut_of by) (more_of by) q there (past_if _ _ _ _ q last)))

given_there : (A : Type 0) (old new : FlexState) (r : Result (FlexState × A) ErrorNumber) (x : Result A ErrorNumber) → IsThere A old r → Gives old r x new
    → is_some new.flex ≡ is_some old.flex
unfolding IsThere
given_there A old new (Ok q) (Ok u) there gives = ap (λ (t : FlexState). is_some t.flex) gives.0 ∙ there q refl
given_there A old new (Err f) (Err e) there gives = ap (λ (t : FlexState). is_some t.flex) gives.1
given_there A old new (Ok q) (Err e) there gives = absurd gives
given_there A old new (Err f) (Ok u) there gives = absurd gives

records_by : (m n : AddressMap) (p o : Option Extent) → is_some (flex_in n o) ≡ is_some (flex_in m p) → records_with o ≡ records_with p
records_by m n None None is = refl
records_by m n (Some e) (Some f) is = refl
records_by m n None (Some f) is = absurd (true≢false is)
records_by m n (Some e) None is = absurd (false≢true is)

-- an anchor's word lies in no recorded range
in_word : (r : Region) (a : ℕ) → shares_address (word_start a) 4 r.at r.len ≡ false → in_range r.at r.len a ≡ false
in_word r a apart = false_from_ne_true (in_range r.at r.len a) (λ here.
    let its : (r.at ≤ a) × (a < r.at + r.len) = range_parts r.at r.len a here in
    both_ways (shares_address (word_start a) 4 r.at r.len) apart
    (rw (
      lt-ltb 0 r.len (omega (arith, its.0, its.1)),
      lt-ltb (word_start a) (r.at + r.len) (omega (arith, its.1)),
      lt-ltb r.at (word_start a + 4) (omega (arith, its.0)),
    ) refl))

word_free : (rs : List Region) (a : ℕ) → list_any (λ r. not (is_flex_store r.kind) && shares_address (word_start a) 4 r.at r.len) rs ≡ false
    → is_in_other_record rs a ≡ false
word_free [] a none = refl
word_free (r ∷ rs) a none =
    let parts = or_parts (not (is_flex_store r.kind) && shares_address (word_start a) 4 r.at r.len)
    (list_any (λ q. not (is_flex_store q.kind) && shares_address (word_start a) 4 q.at q.len) rs) none in
    or_from (not (is_flex_store r.kind) && in_range r.at r.len a) (is_in_other_record rs a) (other_word (is_flex_store r.kind) r a parts.0) (word_free rs a parts.1) where
      other_word : (flex : Bool) (r : Region) (a : ℕ) → (not flex && shares_address (word_start a) 4 r.at r.len) ≡ false → (not flex && in_range r.at r.len a) ≡ false
      other_word true r a apart = refl
      other_word false r a apart = in_word r a apart

pub place_free : (s : Store) (a : ℕ) → is_anchor_place s (word_start a) ≡ true → is_in_other_record s.others a ≡ false
unfolding is_anchor_place
place_free s a place =
    let met : Bool = list_any (λ r. not (is_flex_store r.kind) && shares_address (word_start a) 4 r.at r.len) s.others in
    let other : Bool = is_other (payload_of s.heaps (word_start a)) in
    let last = and_parts (word_start a % 4 == 0 && s.bytes.mapped (word_start a)) (not met && not other) place in
    word_free s.others a (not-true met (and_parts (not met) (not other) last.1).0)

pub has_after : (m n : AddressMap) (f g : Flex) → IsSound (store_of m) → HasFlex m f → KeepsLayoutAndHeaps m n g.extent
    → is_some (state_of_flex n g).flex ≡ is_some (state_of_flex m f).flex → HasFlex n g
unfolding state_of_flex AreAnchorsFree
has_after m n f g sound has call there =
    let others = layout-others m n call.layout in
    record {
      is = call.flex;
      free = λ a is. ap (λ (rs : List Region). is_in_other_record rs a) others
          ∙ elim (call.anchors a is) [
            | inl before ↦ has.free a before
            | inr other ↦ elim other [
              | inl place ↦ place_free (store_of m) a place
              | inr inside ↦ flex_alone (store_of m).others a sound.apart inside
            ]
          ];
      beside = ap count_beside others ∙ has.beside ∙ sym (records_by m n f.extent g.extent there);
    }

-- the four calls on a store
pub has_allocated : (m n : AddressMap) (f g : Flex) (anchor size : ℕ) (x : Result Bool ErrorNumber) → IsSound (store_of m) → HasFlex m f → KeepsLayoutAndHeaps m n g.extent
    → Gives (state_of_flex m f) (flex_after_alloc (store_of m) (state_of_flex m f) anchor size) x (state_of_flex n g) → HasFlex n g
has_allocated m n f g anchor size x sound has call gives =
    has_after m n f g sound has call (given_there Bool _ _ _ x (allocated_there (store_of m) (state_of_flex m f) anchor size) gives)

pub has_released : (m n : AddressMap) (f g : Flex) (anchor : ℕ) (x : Result (Unit {0}) ErrorNumber) → IsSound (store_of m) → HasFlex m f → KeepsLayoutAndHeaps m n g.extent
    → Gives (state_of_flex m f) (flex_after_release (state_of_flex m f) anchor) x (state_of_flex n g) → HasFlex n g
has_released m n f g anchor x sound has call gives =
    has_after m n f g sound has call (given_there (Unit {0}) _ _ _ x (released_there (state_of_flex m f) anchor) gives)

pub has_extended : (m n : AddressMap) (f g : Flex) (anchor size : ℕ) (x : Result Bool ErrorNumber) → IsSound (store_of m) → HasFlex m f → KeepsLayoutAndHeaps m n g.extent
    → Gives (state_of_flex m f) (flex_after_extend (state_of_flex m f) anchor size) x (state_of_flex n g) → HasFlex n g
has_extended m n f g anchor size x sound has call gives =
    has_after m n f g sound has call (given_there Bool _ _ _ x (extended_there (state_of_flex m f) anchor size) gives)

pub has_mid_extended : (m n : AddressMap) (f g : Flex) (anchor at by : ℕ) (x : Result Bool ErrorNumber) → IsSound (store_of m) → HasFlex m f → KeepsLayoutAndHeaps m n g.extent
    → Gives (state_of_flex m f) (mid_extended (state_of_flex m f) anchor at by) x (state_of_flex n g) → HasFlex n g
has_mid_extended m n f g anchor at by x sound has call gives =
    has_after m n f g sound has call (given_there Bool _ _ _ x (mid_extended_there (state_of_flex m f) anchor at by) gives)
