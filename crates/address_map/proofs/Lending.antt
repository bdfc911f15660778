-- Words of one page: where they lie, what they read as, and whether one of them is owned.
use Rattle.std.proofs.Common.{◌≡◌, ℕ, zero, suc, ◌+◌, ◌-◌, ◌*◌, ◌/◌, ◌%◌, ◌<◌, ◌≤◌, Bool, true, false, not, List, length, get_or, slice_range, Some, is_some, arith, refl, sym, ◌∙◌, ap}
use Rattle.std.proofs.lemmas.List.{places}
use Rattle.address_map.specs.declared.class.Class.TheVariants.{Plain}
use Rattle.address_map.specs.declared.map.AddressMap.{AddressMap}
use Rattle.address_map.specs.Lent.{IsLent, any_owned}
use Rattle.address_map.specs.Marks.{class_at}
use Rattle.address_map.specs.Memory.{place, bytes_of, is_owned, is_plain}
use Rattle.address_map.proofs.Loads.{byte_found}
use Rattle.address_map.proofs.Marking.{place_lane}
use Rattle.address_map.proofs.Words.{class_found}
use Rattle.address_map.proofs.PageTable.{place_within, place_written, place_near}

-- the bytes of a page lie one after another
pub place_ahead : (m : AddressMap) (a j k : ℕ) → place m a ≡ Some k → a % 4096 + j < 4096 → place m (a + j) ≡ Some (k + j)
unfolding place
place_ahead m a j k h below =
    let low = (place_within m.frames m.free.items a k m.table h).0 in
    let e : k - a % 4096 + (a + j) % 4096 ≡ k + j = omega arith in
    place_near m.frames a (a + j) k (omega arith) h ∙ ap Some e

pub page_fits : (m : AddressMap) (a k len : ℕ) → place m a ≡ Some k → a % 4096 + len ≤ 4096 → k + len ≤ length m.store.items
unfolding place
page_fits m a k len h within =
    let low = place_written m.frames (length m.store.items) a k m.written h in
    omega (arith, low.0, low.1)

length-lent : (store : List ℕ) (k len : ℕ) → k + len ≤ length store → length (slice_range store k (k + len)) ≡ len
length-lent store k len fits = grind (arith, places)

get_or-lent : (store : List ℕ) (k len j : ℕ) → k + len ≤ length store → j < len → get_or (slice_range store k (k + len)) j 0 ≡ get_or store (k + j) 0
get_or-lent store k len j fits below = grind (arith, places)

pub is_lent : (m : AddressMap) (a k len : ℕ) (lent : List ℕ) → place m a ≡ Some k → a % 4096 + len ≤ 4096 → lent ≡ slice_range m.store.items k (k + len)
    → IsLent (bytes_of m) a len lent
is_lent m a k len lent h within is =
    let fits : k + len ≤ length m.store.items = page_fits m a k len h within in
    record {
      size = ap length is ∙ length-lent m.store.items k len fits;
      mapped = λ j below. ap is_some (place_ahead m a j k h (omega arith));
      bytes = λ j below. ap (λ (xs : List ℕ). get_or xs j 0) is ∙ get_or-lent m.store.items k len j fits below
          ∙ sym (byte_found m (a + j) (k + j) (place_ahead m a j k h (omega arith)));
    }

pub ruleset lending = (page_fits, is_lent)

-- words of which one may be owned
pub owned_step : (owned : ℕ → Bool) (first n i : ℕ) → i < n → owned (first + 4 * i) ≡ false
    → any_owned owned (first + 4 * i) (n - i) ≡ any_owned owned (first + 4 * (i + 1)) (n - (i + 1))
unfolding any_owned
owned_step owned first n i h m =
    let e : n - i ≡ suc (n - (i + 1)) = omega arith in
    let a : first + 4 * i + 4 ≡ first + 4 * (i + 1) = omega arith in
    rw (e, m) (ap (λ x. any_owned owned x (n - (i + 1))) a)

pub owned_stop : (owned : ℕ → Bool) (first n i : ℕ) → i < n → owned (first + 4 * i) ≡ true → any_owned owned (first + 4 * i) (n - i) ≡ true
unfolding any_owned
owned_stop owned first n i h m = let e : n - i ≡ suc (n - (i + 1)) = omega arith in rw (e, m) refl

pub owned_end : (owned : ℕ → Bool) (a n i : ℕ) → n ≤ i → any_owned owned a (n - i) ≡ false
unfolding any_owned
owned_end owned a n i h = let e : n - i ≡ 0 = omega arith in rw e refl

pub ruleset owning = (owned_step, owned_stop, owned_end)

none_owned : (owned : ℕ → Bool) (a n : ℕ) → ((i : ℕ) → i < n → owned (a + 4 * i) ≡ false) → any_owned owned a n ≡ false
unfolding any_owned
none_owned owned a zero h = refl
none_owned owned a (suc n) h =
    let first : owned a ≡ false = let e : a + 4 * 0 ≡ a = omega arith in ap owned (sym e) ∙ h 0 (omega arith) in
    rw first (none_owned owned (a + 4) n (λ i below.
    let e : a + 4 + 4 * i ≡ a + 4 * (i + 1) = omega arith in ap owned e ∙ h (i + 1) (omega arith)))

plain_word : (m : AddressMap) (a k : ℕ) → place m a ≡ Some k → class_at m.marks (k / 4) ≡ Plain → is_owned m a ≡ false
unfolding is_owned
plain_word m a k h plain = ap (λ class. not (is_plain class)) (class_found m a k h ∙ plain)

-- the marks of words in a page lie in the bytes from that of the first to that of the last
pub marks_within : (m : AddressMap) (a k n : ℕ) → a % 4096 + 4 * n ≤ 4096 → place m a ≡ Some k → (k + 4 * n + 15) / 16 ≤ length m.marks.bytes
marks_within m a k n page h = omega (arith, page_fits m a k (4 * n) h page, m.marks_fit)

pub plain_words : (m : AddressMap) (a k n : ℕ) → a % 4 ≡ 0 → a % 4096 + 4 * n ≤ 4096 → place m a ≡ Some k
    → ((j : ℕ) → 4 * (k / 16) ≤ j → j < 4 * ((k + 4 * n + 15) / 16) → class_at m.marks j ≡ Plain) → any_owned (is_owned m) a n ≡ false
plain_words m a k n aligned page h plain =
    let low : k % 4096 ≡ a % 4096 = place_lane m a k h in
    none_owned (is_owned m) a n (λ i below.
    plain_word m (a + 4 * i) (k + 4 * i) (place_ahead m a (4 * i) k h (omega arith)) (plain ((k + 4 * i) / 4) (omega arith) (omega arith)))
