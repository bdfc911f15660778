-- Lists of blocks end to end: what they use, their text, their anchors.
use Rattle.std.proofs.Common.{◌≡◌, ℕ, ◌+◌, ◌%◌, true, false, ◌||◌, nat_eq, List, [], ◌∷◌, ◌++◌, length, arith, refl, sym, ◌∙◌, ap, append_assoc, inl, inr, Some, None}
use Rattle.std.proofs.Math.Bool.{or_assoc}
use Rattle.std.proofs.lemmas.Bool.{cases_Bool, eqb-true, or_parts, true≢false}
use Rattle.std.proofs.lemmas.Bool.Decides.{nat_tests}
use Rattle.std.proofs.Math.ListN.{length-append}
use Rattle.os_heap_words.specs.RawStoreRegion.{word_bytes}
use Rattle.flex_store.specs.Blocks.{before, Block, find_block, has_anchor, is_header, is_held_word, is_in_contents, bytes_taken_by, bytes_taken_by_all, without_block}
use Rattle.flex_store.specs.Memory.{blocks_text_of, AreAnchored}
use Rattle.flex_store.specs.Places.{Split}
use Rattle.flex_store.specs.State.{AreWhole}

pub used-append : (xs ys : List Block) → bytes_taken_by_all (xs ++ ys) ≡ bytes_taken_by_all xs + bytes_taken_by_all ys
used-append [] ys = omega arith
used-append (b ∷ xs) ys = omega (arith, used-append xs ys)

pub used_aligned : (bs : List Block) → bytes_taken_by_all bs % 4 ≡ 0
used_aligned [] = refl
used_aligned (b ∷ bs) = let rest : bytes_taken_by_all bs % 4 ≡ 0 = used_aligned bs in omega arith

pub text-append : (xs ys : List Block) → blocks_text_of (xs ++ ys) ≡ blocks_text_of xs ++ blocks_text_of ys
text-append [] ys = refl
text-append (b ∷ xs) ys =
    ap (λ (t : List ℕ). word_bytes b.anchor ++ (word_bytes b.size ++ t))
    (ap (λ (t : List ℕ). b.bytes ++ t) (text-append xs ys) ∙ sym (append_assoc b.bytes (blocks_text_of xs) (blocks_text_of ys)))

pub anchor-append : (xs ys : List Block) (a : ℕ) → has_anchor (xs ++ ys) a ≡ (has_anchor xs a || has_anchor ys a)
anchor-append [] ys a = refl
anchor-append (b ∷ xs) ys a = rw (anchor-append xs ys a) (sym (or_assoc (nat_eq a b.anchor) (has_anchor xs a) (has_anchor ys a)))

pub header-append : (at : ℕ) (xs ys : List Block) (a : ℕ) → is_header at (xs ++ ys) a ≡ (is_header at xs a || is_header (at + bytes_taken_by_all xs) ys a)
header-append at [] ys a =
    let e : at ≡ at + 0 = omega arith in ap (λ p. is_header p ys a) e
header-append at (b ∷ xs) ys a =
    let e : at + bytes_taken_by b.size + bytes_taken_by_all xs ≡ at + (bytes_taken_by b.size + bytes_taken_by_all xs) = omega arith in
    rw (header-append (at + bytes_taken_by b.size) xs ys a, e) (sym (or_assoc (nat_eq a at || nat_eq a (at + 4)) (is_header (at + bytes_taken_by b.size) xs a) (is_header (at + (bytes_taken_by b.size + bytes_taken_by_all xs)) ys a)))

pub contents-append : (at : ℕ) (xs ys : List Block) (a : ℕ) → is_in_contents at (xs ++ ys) a ≡ (is_in_contents at xs a || is_in_contents (at + bytes_taken_by_all xs) ys a)
contents-append at [] ys a = let e : at ≡ at + 0 = omega arith in ap (λ p. is_in_contents p ys a) e
contents-append at (b ∷ xs) ys a =
    let e : at + bytes_taken_by b.size + bytes_taken_by_all xs ≡ at + (bytes_taken_by b.size + bytes_taken_by_all xs) = omega arith in
    rw (contents-append (at + bytes_taken_by b.size) xs ys a, e) (sym (or_assoc (is_held_word at b a) (is_in_contents (at + bytes_taken_by b.size) xs a) (is_in_contents (at + (bytes_taken_by b.size + bytes_taken_by_all xs)) ys a)))

pub whole-append : (xs ys : List Block) → AreWhole xs → AreWhole ys → AreWhole (xs ++ ys)
whole-append [] ys p q = q
whole-append (b ∷ xs) ys p q = (p.0, whole-append xs ys p.1 q)

pub whole_left : (xs ys : List Block) → AreWhole (xs ++ ys) → AreWhole xs
whole_left [] ys p = tt
whole_left (b ∷ xs) ys p = (p.0, whole_left xs ys p.1)

pub whole_right : (xs ys : List Block) → AreWhole (xs ++ ys) → AreWhole ys
whole_right [] ys p = p
whole_right (b ∷ xs) ys p = whole_right xs ys p.1

pub anchored_left : (f : ℕ → ℕ) (at : ℕ) (xs ys : List Block) → AreAnchored f at (xs ++ ys) → AreAnchored f at xs
anchored_left f at [] ys p = tt
anchored_left f at (b ∷ xs) ys p = (p.0, anchored_left f (at + bytes_taken_by b.size) xs ys p.1)

pub anchored_right : (f : ℕ → ℕ) (at : ℕ) (xs ys : List Block) → AreAnchored f at (xs ++ ys) → AreAnchored f (at + bytes_taken_by_all xs) ys
anchored_right f at [] ys p = let e : at ≡ at + 0 = omega arith in rw (← e) p
anchored_right f at (b ∷ xs) ys p =
    let e : at + bytes_taken_by b.size + bytes_taken_by_all xs ≡ at + (bytes_taken_by b.size + bytes_taken_by_all xs) = omega arith in
    rw e at (anchored_right f (at + bytes_taken_by b.size) xs ys p.1)

-- the text has as many bytes as the blocks use
text_length : (b : Block) (rest : List ℕ) → length (word_bytes b.anchor ++ (word_bytes b.size ++ (b.bytes ++ rest))) ≡ 8 + length b.bytes + length rest
text_length b rest = omega (arith, length-append b.bytes rest)

pub text_used : (bs : List Block) → AreWhole bs → length (blocks_text_of bs) ≡ bytes_taken_by_all bs
text_used [] p = refl
text_used (b ∷ bs) p = omega (arith, text_length b (blocks_text_of bs), text_used bs p.1, p.0.0)

split_by : (wanted : ℕ) (b : Block) (bs : List Block) → b.anchor ≡ wanted → nat_eq b.anchor wanted ≡ true → Split wanted (b ∷ bs)
split_by wanted b bs e same = record {
  before = [];
  block = b;
  after = bs;
  is = record { list = refl; anchor = e; found = rw same refl; without = rw same refl; put = λ new. rw same refl; front_is = rw same refl; rest_is = rw same refl };
}

split_more : (wanted : ℕ) (b : Block) (bs : List Block) → nat_eq b.anchor wanted ≡ false → Split wanted bs → Split wanted (b ∷ bs)
split_more wanted b bs other s =
    let one : bs ≡ s.before ++ s.block ∷ s.after = s.is.list in
    let two : find_block wanted bs ≡ Some s.block = s.is.found in
    let three : without_block wanted bs ≡ s.before ++ s.after = s.is.without in
    let four : before wanted bs ≡ s.before = s.is.front_is in
    record {
      before = b ∷ s.before;
      block = s.block;
      after = s.after;
      is = record {
        list = ap (λ (l : List Block). b ∷ l) one;
        anchor = s.is.anchor;
        found = rw other two;
        without = rw other (ap (λ (l : List Block). b ∷ l) three);
        put = λ new. rw other (ap (λ (l : List Block). b ∷ l) (s.is.put new));
        front_is = rw other (ap (λ (l : List Block). b ∷ l) four);
        rest_is = rw other s.is.rest_is;
      };
    }

pub split : (wanted : ℕ) (bs : List Block) → has_anchor bs wanted ≡ true → Split wanted bs
split wanted [] has = absurd (true≢false (sym has))
split wanted (b ∷ bs) has = elim (cases_Bool (nat_eq b.anchor wanted)) [
  | inl same ↦ split_by wanted b bs (eqb-true b.anchor wanted same) same
  | inr other ↦
      let turned : nat_eq wanted b.anchor ≡ false = grind (arith, nat_tests) in
      split_more wanted b bs other (split wanted bs (rw turned at has))
]

pub none_found : (wanted : ℕ) (bs : List Block) → has_anchor bs wanted ≡ false → find_block wanted bs ≡ None
none_found wanted [] none = refl
none_found wanted (b ∷ bs) none =
    let parts = or_parts (nat_eq wanted b.anchor) (has_anchor bs wanted) none in
    let turned : nat_eq b.anchor wanted ≡ false = grind (arith, nat_tests, parts.0) in
    rw turned (none_found wanted bs parts.1)
