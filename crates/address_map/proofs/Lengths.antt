-- A record that gets another length.
use Rattle.std.proofs.Common.{◌≡◌, ℕ, ◌+◌, ◌<◌, ◌≤◌, ◌++◌, ◌==◌, true, false, List, ◌∷◌, length, take, drop, get_or, set, refl, sym, ap, ◌∙◌, append_assoc, add-one, suc, arith}
use Rattle.std.specs.List.{refill}
use Rattle.std.proofs.Math.Seq.{take-length}
use Rattle.std.proofs.lemmas.Bool.{and_parts, eqb-true, false≢true}
use Rattle.std.proofs.lemmas.List.{drop_more, drop_all, take_more, take_all, append-nil, length-set, set_split}
use Rattle.address_map.specs.declared.region.Kind.{Kind}
use Rattle.address_map.specs.declared.region.Kind.TheVariants as kind
use Rattle.address_map.specs.declared.region.Region.{Region}
use Rattle.address_map.specs.Records.{are_same, is_record, with_len}
use Rattle.address_map.proofs.Removing.{IsSearched}

-- kinds that are shown to be the same one are
same_kinds : (k other : Kind) → are_same k other ≡ true → k ≡ other
same_kinds kind.Heap kind.Heap same = refl
same_kinds kind.Rma kind.Rma same = refl
same_kinds kind.FlexStore kind.FlexStore same = refl
same_kinds kind.FlexHeader kind.FlexHeader same = refl
same_kinds kind.Image kind.Image same = refl
same_kinds kind.SystemPage kind.SystemPage same = refl
same_kinds k other same = absurd (false≢true same)

-- what the test for a record says of it
pub record_parts : (kind : Kind) (at : ℕ) (region : Region) → is_record kind at region ≡ true → (region.kind ≡ kind) × (region.at ≡ at)
record_parts kind at region is =
    let parts = and_parts (are_same kind region.kind) (region.at == at) is in
    (sym (same_kinds kind region.kind parts.0), eqb-true region.at at parts.1)

abbrev pub IsPassed : List Region → Kind → ℕ → ℕ → Type 0
IsPassed records kind at i = (len : ℕ) → with_len records kind at len ≡ take i records ++ with_len (drop i records) kind at len

pub len_passed : (records : List Region) (kind : Kind) (at i : ℕ) (d : Region) → i < length records
    → is_record kind at (get_or records i d) ≡ false → IsPassed records kind at i → IsPassed records kind at (i + 1)
len_passed records kind at i d below other so_far len =
    let e = rw (drop_more records i d below, other) at (so_far len) in
    e ∙ rw (take_more records i d below, append_assoc) refl

pub len_found : (records : List Region) (kind : Kind) (at i : ℕ) (d : Region) → i < length records
    → is_record kind at (get_or records i d) ≡ true → IsPassed records kind at i
    → (len : ℕ) → with_len records kind at len ≡ set records i (record { kind = kind; at = at; len = len })
len_found records kind at i d below here so_far len =
    let e = rw (drop_more records i d below, here, add-one i) at (so_far len) in
    let same = record_parts kind at (get_or records i d) here in
    let r : Region = record { kind = kind; at = at; len = len } in
    let changed : (let s : Region = record { kind = (get_or records i d).kind; at = (get_or records i d).at; len = len } in s ≡ r)
    = λ j. record { kind = same.0 j; at = same.1 j; len = len } in
    e ∙ ap (λ (s : Region). take i records ++ s ∷ drop (suc i) records) changed ∙ sym (set_split records i r below)

pub len_none : (records : List Region) (kind : Kind) (at i : ℕ) → length records ≤ i → IsPassed records kind at i
    → (len : ℕ) → with_len records kind at len ≡ records
len_none records kind at i past so_far len =
    so_far len ∙ rw (drop_all i records past, take_all i records past) (append-nil records)

-- as many records as before
pub refilled : (records : List Region) (i : ℕ) (r : Region) → refill (length records) records (set records i r) ≡ set records i r
refilled records i r =
    let long : length (set records i r) ≡ length records = length-set records i r in
    rw (long, drop_all (length records) records (omega arith), append-nil (set records i r), ← long) (take-length (set records i r))

-- what the search for a record knows of the first `i` records
pub record IsLookedThrough (records : List Region) (kind : Kind) (at i : ℕ) : Type 0 where
  pub searched : IsSearched records kind at i
  pub passed : IsPassed records kind at i
