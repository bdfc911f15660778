-- A table stays a table where a new image is put at its end, and where one is taken out.
use Rattle.std.proofs.Common.{◌≡◌, ◌≤◌, ◌<◌, ℕ, zero, suc, Bool, true, false, List, [], ◌∷◌, length, get_or, Some, None, inl, inr, arith, refl, ap, length-append}
use Rattle.std.specs.List.{list_any, position, position_or_len, remove}
use Rattle.std.proofs.lemmas.Bool.{cases_Bool, lt-ltb, or_parts}
use Rattle.std.proofs.lemmas.Bool.Decides.{nat_tests}
use Rattle.std.proofs.lemmas.List.Quantifiers.{position-Some}
use Rattle.std.proofs.lemmas.Option.{none-some}
use Rattle.std.proofs.lemmas.Slice.Eq.{bytes_eq-Decides}
use Rattle.std.specs.Str.{bytes_eq}
use Rattle.std.specs.Prelude.{if◌then◌else◌, is_some}
use Rattle.profile.specs.declared.images.image.Image.{Image}
use Rattle.profile.specs.images.Entries.{Entry, bytes_of_image, with_entry, without_entry, can_name_image, refusal_for, HaveDistinctNames, AreImages, IsImage, IsImageTable}
use Rattle.profile.specs.images.Table.{entries_of, entry_of_image}

bytes_eq-flips : (xs ys : List ℕ) → bytes_eq xs ys ≡ false → bytes_eq ys xs ≡ false
bytes_eq-flips xs ys differ = grind (arith, bytes_eq-Decides xs ys, bytes_eq-Decides ys xs)

-- what a name that no image has says of the first image and of the others
bytes_of-head : (e : Entry) (es : List Entry) (name : List ℕ) → bytes_of_image (e ∷ es) name ≡ None → bytes_eq e.name name ≡ false
bytes_of-head e es name =
    elim (bytes_eq e.name name) as (λ b. (if b then Some e.bytes else bytes_of_image es name) ≡ None → b ≡ false)
    [ true ↦ λ h. absurd (cc) | false ↦ λ h. refl ]

bytes_of-tail : (e : Entry) (es : List Entry) (name : List ℕ) → bytes_of_image (e ∷ es) name ≡ None → bytes_of_image es name ≡ None
bytes_of-tail e es name none = rw (bytes_of-head e es name none) at none

bytes_of-push : (es : List Entry) (name bytes other : List ℕ) → bytes_of_image es other ≡ None → bytes_eq name other ≡ false
    → bytes_of_image (with_entry es name bytes) other ≡ None
bytes_of-push [] name bytes other none differ = rw differ
bytes_of-push (e ∷ es) name bytes other none differ =
    rw (bytes_of-head e es other none) (bytes_of-push es name bytes other (bytes_of-tail e es other none) differ)

AreDistinct-push : (es : List Entry) (name bytes : List ℕ) → HaveDistinctNames es → bytes_of_image es name ≡ None → HaveDistinctNames (with_entry es name bytes)
AreDistinct-push [] name bytes distinct none = (refl, tt)
AreDistinct-push (e ∷ es) name bytes distinct none = (
  bytes_of-push es name bytes e.name distinct.0 (bytes_eq-flips e.name name (bytes_of-head e es name none)),
  AreDistinct-push es name bytes distinct.1 (bytes_of-tail e es name none),
)

AreImages-push : (es : List Entry) (name bytes : List ℕ) → AreImages es → IsImage (record { name = name; bytes = bytes })
    → AreImages (with_entry es name bytes)
AreImages-push [] name bytes are is = (is, tt)
AreImages-push (d ∷ es) name bytes are is = (are.0, AreImages-push es name bytes are.1 is)

-- an image is let in where none of the reasons holds
record IsFree (entries : List Entry) (name : List ℕ) (len : ℕ) : Type 0 where
  named : can_name_image name ≡ true
  fresh : bytes_of_image entries name ≡ None
  in_limit : len ≤ 1048576
  has_room : length entries < 64

is_free : (entries : List Entry) (name : List ℕ) (len : ℕ) → refusal_for entries name len ≡ None → IsFree entries name len
is_free entries name len none = record {
  named = grind (arith, nat_tests, none);
  fresh = grind (arith, nat_tests, none);
  in_limit = grind (arith, nat_tests, none);
  has_room = grind (arith, nat_tests, none);
}

pub IsTable-push : (es : List Entry) (name bytes : List ℕ) → IsImageTable es → refusal_for es name (length bytes) ≡ None
    → IsImageTable (with_entry es name bytes)
IsTable-push es name bytes table none =
    let free : IsFree es name (length bytes) = is_free es name (length bytes) none in
    record {
      distinct = AreDistinct-push es name bytes table.distinct free.fresh;
      images = AreImages-push es name bytes table.images (record { named = free.named; in_limit = free.in_limit });
      in_limit = let room : length es < 64 = free.has_room in rw length-append (omega arith);
    }

-- A table stays a table where the image of a name is taken out.
bytes_of-less : (es : List Entry) (name other : List ℕ) → bytes_of_image es other ≡ None → bytes_of_image (without_entry es name) other ≡ None
bytes_of-less [] name other none = refl
bytes_of-less (e ∷ es) name other none =
    let tail = bytes_of-tail e es other none in
    elim (cases_Bool (bytes_eq e.name name)) [
      | inl is ↦ rw is tail
      | inr isn't ↦ rw (isn't, bytes_of-head e es other none) (bytes_of-less es name other tail)
    ]

AreDistinct-less : (es : List Entry) (name : List ℕ) → HaveDistinctNames es → HaveDistinctNames (without_entry es name)
AreDistinct-less [] name distinct = tt
AreDistinct-less (e ∷ es) name distinct =
    elim (cases_Bool (bytes_eq e.name name)) [
      | inl is ↦ rw is distinct.1
      | inr isn't ↦ rw isn't (bytes_of-less es name e.name distinct.0, AreDistinct-less es name distinct.1)
    ]

AreImages-less : (es : List Entry) (name : List ℕ) → AreImages es → AreImages (without_entry es name)
AreImages-less [] name are = tt
AreImages-less (e ∷ es) name are =
    elim (cases_Bool (bytes_eq e.name name)) [
      | inl is ↦ rw is are.1
      | inr isn't ↦ rw isn't (are.0, AreImages-less es name are.1)
    ]

length-less : (es : List Entry) (name : List ℕ) → length (without_entry es name) ≤ length es
length-less [] name = omega arith
length-less (e ∷ es) name =
    elim (cases_Bool (bytes_eq e.name name)) [
      | inl is ↦ rw is (omega arith)
      | inr isn't ↦ rw isn't (omega (arith, length-less es name))
    ]

pub IsTable-less : (es : List Entry) (name : List ℕ) → IsImageTable es → IsImageTable (without_entry es name)
IsTable-less es name table = record {
  distinct = AreDistinct-less es name table.distinct;
  images = AreImages-less es name table.images;
  in_limit = let less : length (without_entry es name) ≤ length es = length-less es name in
      let limit : length es ≤ 64 = table.in_limit in omega (arith, less, limit);
}

-- what the place of a name in the table says: it is the image's that is taken out
module _ (name : List ℕ) where
  abbrev pub is_named : Image → Bool
  is_named image = bytes_eq image.name.items name

  without_at : (images : List Image) (i : ℕ) (d : Image) → i < length images → is_named (get_or images i d) ≡ true
      → ((k : ℕ) → k < i → is_named (get_or images k d) ≡ false)
      → (is_some (bytes_of_image (entries_of images) name) ≡ true) × (entries_of (remove images i) ≡ without_entry (entries_of images) name)
  without_at [] i d within here before = absurd (omega (arith, within))
  without_at (x ∷ xs) zero d within here before = rw here (refl, refl)
  without_at (x ∷ xs) (suc i) d within here before =
      let rest = without_at xs i d (omega (arith, within)) here (λ k less. before (suc k) (omega (arith, less))) in
      rw (before 0 (omega arith)) (rest.0, ap (λ es. entry_of_image x ∷ es) rest.1)

  found_at : (images : List Image) (i : ℕ) → position is_named images ≡ Some i
      → (is_some (bytes_of_image (entries_of images) name) ≡ true) × (entries_of (remove images i) ≡ without_entry (entries_of images) name)
  found_at [] i found = absurd (none-some _ found)
  found_at (x ∷ xs) i found =
      let first = position-Some is_named (x ∷ xs) i x found in
      without_at (x ∷ xs) i x first.0 first.1 first.2

  some_place : (images : List Image) → list_any is_named images ≡ true → position_or_len is_named images < length images
  some_place [] some = absurd (let e : false ≡ true = some in cc)
  some_place (x ∷ xs) some =
      elim (cases_Bool (is_named x)) [
        | inl e ↦ rw e (omega arith)
        | inr e ↦ rw e (omega (arith, some_place xs (rw e at some)))
      ]

  nowhere : (images : List Image) → position is_named images ≡ None → list_any is_named images ≡ false
  nowhere images none =
      elim (cases_Bool (list_any is_named images)) [
        | inl e ↦
            let within = lt-ltb (position_or_len is_named images) (length images) (some_place images e) in
            let f = rw within at none in
            absurd (cc)
        | inr e ↦ e
      ]

  same_without : (images : List Image) → list_any is_named images ≡ false
      → (bytes_of_image (entries_of images) name ≡ None) × (entries_of images ≡ without_entry (entries_of images) name)
  same_without [] none = (refl, refl)
  same_without (x ∷ xs) none =
      let parts = or_parts (is_named x) (list_any is_named xs) none in
      let rest = same_without xs parts.1 in
      rw parts.0 (rest.0, ap (λ es. entry_of_image x ∷ es) rest.1)

  pub was_there : (images : List Image) (i : ℕ) → position is_named images ≡ Some i → is_some (bytes_of_image (entries_of images) name) ≡ true
  was_there images i found = (found_at images i found).0

  pub taken_out : (images : List Image) (i : ℕ) → position is_named images ≡ Some i
      → entries_of (remove images i) ≡ without_entry (entries_of images) name
  taken_out images i found = (found_at images i found).1

  pub was_absent : (images : List Image) → position is_named images ≡ None → is_some (bytes_of_image (entries_of images) name) ≡ false
  was_absent images none = ap is_some (same_without images (nowhere images none)).0

  pub all_left : (images : List Image) → position is_named images ≡ None → entries_of images ≡ without_entry (entries_of images) name
  all_left images none = (same_without images (nowhere images none)).1
