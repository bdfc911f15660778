-- How many pages a memory has, counted one by one, and the store of a copy.
use Rattle.std.proofs.Common.{◌≡◌, ℕ, zero, suc, ◌+◌, ◌-◌, ◌*◌, ◌/◌, ◌^◌, ◌<◌, ◌≤◌, Bool, true, false, List, Option, is_some, refl, sym, ap, ◌∙◌, arith, inl, inr, if◌then◌else◌}
use Rattle.std.proofs.lemmas.Bool.{cases_Bool, cases_lt, false≢true}
use Rattle.address_map.specs.Classes.{is_anchor, is_flex_header}
use Rattle.address_map.specs.Counts.{number_below}
use Rattle.address_map.specs.Memory.{Layout, byte_at, class_of, free_pages, is_mapped, layout, page_total, place, regions}
use Rattle.address_map.proofs.Bytes.{is_mapped-page}
use Rattle.address_map.proofs.Loads.{place_past}
use Rattle.address_map.specs.declared.class.Class.{Class}
use Rattle.address_map.specs.declared.map.AddressMap.{AddressMap}
use Rattle.address_map.specs.declared.region.Region.{Region}
use Rattle.swi_dispatch_guest.specs.PageCounts.{AreasCountPages}
use Rattle.swi_dispatch_guest.specs.Store.{Store, heaps_in, others_in, store_of}
use Rattle.swi_dispatch_guest.proofs.OsHeapFrame.{layout-regions}
use Rattle.swi_dispatch_guest.specs.Value.{IsMachine, MachineValue}

-- how many pages below one are mapped
pub mapped_below : AddressMap → ℕ → ℕ
mapped_below m n = number_below (λ page. is_mapped m (4096 * page)) n

pub none_below : (m : AddressMap) → mapped_below m 0 ≡ 0
unfolding mapped_below number_below
none_below m = refl

below_suc : (m : AddressMap) (n : ℕ) → mapped_below m (suc n) ≡ mapped_below m n + (if is_mapped m (4096 * n) then 1 else 0)
unfolding mapped_below number_below
below_suc m n = refl

below_next : (m : AddressMap) (n : ℕ) → mapped_below m (n + 1) ≡ mapped_below m n + (if is_mapped m (4096 * n) then 1 else 0)
below_next m n = let next : n + 1 ≡ suc n = omega arith in ap (mapped_below m) next ∙ below_suc m n

pub one_mapped : (m : AddressMap) (n : ℕ) (there : Option ℕ) → there ≡ place m (4096 * n) → is_some there ≡ true
    → mapped_below m (n + 1) ≡ mapped_below m n + 1
one_mapped m n there is some =
    let mapped : is_mapped m (4096 * n) ≡ true = sym (ap is_some is) ∙ some in
    below_next m n ∙ rw mapped refl

pub none_mapped_at : (m : AddressMap) (n : ℕ) → is_mapped m (4096 * n) ≡ false → mapped_below m (n + 1) ≡ mapped_below m n
none_mapped_at m n unmapped =
    let more : mapped_below m (n + 1) ≡ mapped_below m n + 0 = below_next m n ∙ rw unmapped refl in
    omega arith

pub none_mapped : (m : AddressMap) (n : ℕ) (there : Option ℕ) → there ≡ place m (4096 * n) → is_some there ≡ false
    → mapped_below m (n + 1) ≡ mapped_below m n
none_mapped m n there is none =
    let unmapped : is_mapped m (4096 * n) ≡ false = sym (ap is_some is) ∙ none in
    let more : mapped_below m (n + 1) ≡ mapped_below m n + 0 = below_next m n ∙ rw unmapped refl in
    omega arith

-- no more are mapped below a lower page
pub below_within : (m : AddressMap) (n k : ℕ) → mapped_below m n ≤ mapped_below m (n + k)
below_within m n zero = let same : mapped_below m (n + 0) ≡ mapped_below m n = (let e : n + 0 ≡ n = omega arith in ap (mapped_below m) e) in omega arith
below_within m n (suc k) =
    let before = below_within m n k in
    let next : n + suc k ≡ suc (n + k) = omega arith in
    let more = ap (mapped_below m) next ∙ below_suc m (n + k) in
    omega (arith, before, more)

pub all_counted : (m : AddressMap) → page_total m ≡ free_pages m + number_below (λ page. is_mapped m (4096 * page)) 16384
    → page_total m ≡ free_pages m + mapped_below m 16384
unfolding mapped_below
all_counted m counted = counted

-- there is room to count a page more
pub room_for_one : (m : AddressMap) (n total : ℕ) (there : Option ℕ) → n < 16384 → total ≡ free_pages m + mapped_below m n
    → page_total m ≡ free_pages m + mapped_below m 16384 → page_total m ≤ 1024 → there ≡ place m (4096 * n) → is_some there ≡ true → total < 1024
room_for_one m n total there inside counted all few is some =
    let more = one_mapped m n there is some in
    let ahead = below_within m (n + 1) (16384 - (n + 1)) in
    let end : n + 1 + (16384 - (n + 1)) ≡ 16384 = omega arith in
    let last = ap (mapped_below m) end in
    omega (arith, more, ahead, last, counted, all, few)

-- Each page of one memory is mapped in another too, so no fewer are; and where as many are, they are the same.
abbrev pub AreAmong : AddressMap → AddressMap → ℕ → Type 0
AreAmong m n k = (q : ℕ) → q < k → is_mapped n (4096 * q) ≡ true → is_mapped m (4096 * q) ≡ true

no_fewer : (m n : AddressMap) (k : ℕ) → AreAmong m n k → mapped_below n k ≤ mapped_below m k
no_fewer m n zero among = let none = none_below n in omega (arith, none)
no_fewer m n (suc k) among =
    let before = no_fewer m n k (λ q low. among q (omega (arith, low))) in
    let more = below_suc m k in
    elim (cases_Bool (is_mapped n (4096 * k))) [
      | inl there ↦
          let one : mapped_below n (suc k) ≡ mapped_below n k + 1 = below_suc n k ∙ rw there refl in
          let other : mapped_below m (suc k) ≡ mapped_below m k + 1 = below_suc m k ∙ rw (among k (omega arith) there) refl in
          omega (arith, before, one, other)
      | inr none ↦
          let same : mapped_below n (suc k) ≡ mapped_below n k + 0 = below_suc n k ∙ rw none refl in
          omega (arith, before, same, more)
    ]

-- the last of so many pages, and the others
last_page : (m n : AddressMap) (k : ℕ) → AreAmong m n (suc k) → mapped_below m (suc k) ≡ mapped_below n (suc k)
    → (is_mapped m (4096 * k) ≡ is_mapped n (4096 * k)) × (mapped_below m k ≡ mapped_below n k)
last_page m n k among same =
    let fewer = no_fewer m n k (λ q low. among q (omega (arith, low))) in
    elim (cases_Bool (is_mapped m (4096 * k))) [
      | inl there ↦
          let one : mapped_below m (suc k) ≡ mapped_below m k + 1 = below_suc m k ∙ rw there refl in
          elim (cases_Bool (is_mapped n (4096 * k))) [
            | inl there' ↦
                let other : mapped_below n (suc k) ≡ mapped_below n k + 1 = below_suc n k ∙ rw there' refl in
                (there ∙ sym there', omega (arith, one, other, same))
            | inr none ↦
                let other : mapped_below n (suc k) ≡ mapped_below n k + 0 = below_suc n k ∙ rw none refl in
                absurd (omega (arith, one, other, same, fewer))
          ]
      | inr none ↦
          let one : mapped_below m (suc k) ≡ mapped_below m k + 0 = below_suc m k ∙ rw none refl in
          elim (cases_Bool (is_mapped n (4096 * k))) [
            | inl there ↦ absurd (false≢true (sym none ∙ among k (omega arith) there))
            | inr none' ↦
                let other : mapped_below n (suc k) ≡ mapped_below n k + 0 = below_suc n k ∙ rw none' refl in
                (none ∙ sym none', omega (arith, one, other, same))
          ]
    ]

same_pages : (m n : AddressMap) (k : ℕ) → AreAmong m n k → mapped_below m k ≡ mapped_below n k → (q : ℕ) → q < k
    → is_mapped m (4096 * q) ≡ is_mapped n (4096 * q)
same_pages m n zero among same q low = absurd (omega (arith, low))
same_pages m n (suc k) among same q low =
    let last = last_page m n k among same in
    elim (cases_lt q k) [
      | inl lower ↦ same_pages m n k (λ p under. among p (omega (arith, under))) last.1 q lower
      | inr upper ↦
          let e : q ≡ k = omega (arith, low, upper) in
          ap (λ (i : ℕ). is_mapped m (4096 * i)) e ∙ (last.0 ∙ ap (λ (i : ℕ). is_mapped n (4096 * i)) (sym e))
    ]

pub mapped_alike : (m n : AddressMap) → AreAmong m n 16384 → free_pages m ≡ free_pages n → page_total m ≡ page_total n
    → page_total m ≡ free_pages m + mapped_below m 16384 → page_total n ≡ free_pages n + mapped_below n 16384
    → (a : ℕ) → is_mapped m a ≡ is_mapped n a
mapped_alike m n among free total count count' a =
    let same : mapped_below m 16384 ≡ mapped_below n 16384 = omega (arith, free, total, count, count') in
    elim (cases_lt a (2 ^ 26)) [
      | inl low ↦
          is_mapped-page m a (4096 * (a / 4096)) (omega arith)
          ∙ (same_pages m n 16384 among same (a / 4096) (omega (arith, low)) ∙ is_mapped-page n (4096 * (a / 4096)) a (omega arith))
      | inr high ↦ ap is_some (place_past m a high) ∙ sym (ap is_some (place_past n a high))
    ]

-- as many pages, where no page comes or goes
pub total_kept : (m n : AddressMap) → layout n ≡ layout m → page_total m ≡ free_pages m + mapped_below m 16384
    → page_total n ≡ free_pages n + mapped_below n 16384 → page_total n ≡ page_total m
total_kept m n same count count' =
    let free : free_pages n ≡ free_pages m = ap (λ (l : Layout). l.free_pages) same in
    let mapped : mapped_below n 16384 ≡ mapped_below m 16384 = below_alike m n 16384 (λ a. ap (λ (there : ℕ → Option ℕ). is_some (there a)) (ap (λ (l : Layout). l.place) same)) in
    omega (arith, free, mapped, count, count') where
      below_alike : (m n : AddressMap) (k : ℕ) → ((a : ℕ) → is_mapped n a ≡ is_mapped m a) → mapped_below n k ≡ mapped_below m k
      below_alike m n zero alike = none_below n ∙ sym (none_below m)
      below_alike m n (suc k) alike =
          below_suc n k ∙ (rw (alike (4096 * k), below_alike m n k alike) refl ∙ sym (below_suc m k))

-- a copy has the same store
pub same_store : (m n : AddressMap) → byte_at n ≡ byte_at m → layout n ≡ layout m → class_of n ≡ class_of m → store_of n ≡ store_of m
unfolding store_of
same_store m n at same marks = λ i. stored (λ a. is_some ((same i).place a)) (at i) (layout-regions m n same i) (marks i) where
  stored : (ℕ → Bool) → (ℕ → ℕ) → List Region → (ℕ → Class) → Store
  stored mapped bytes regions classes = record {
    bytes = record { mapped = mapped; at = bytes };
    heaps = heaps_in (record { mapped = mapped; at = bytes }) regions;
    others = others_in regions;
    anchor = λ a. is_anchor (classes a);
    header = λ a. is_flex_header (classes a);
  }

-- a machine's memory has few pages
pub few_pages : (m : MachineValue) → IsMachine m → AreasCountPages → page_total m.guest.map ≡ m.guest.tables.area_table.sizes.pages
few_pages m is count = count m.guest.map m.guest.tables.area_table is.guest.well_formed.areas

pub in_limit : (m : MachineValue) → IsMachine m → m.guest.tables.area_table.sizes.pages ≤ 1024
in_limit m is = is.guest.well_formed.areas.ground.sizes.in_limit
