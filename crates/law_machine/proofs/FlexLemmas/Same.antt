-- A change that takes no byte and adds none.
use Rattle.std.proofs.Common.{◌≡◌, ℕ, Bool, ◌+◌, ◌-◌, ◌%◌, true, nat_eq, List, [], ◌∷◌, ◌++◌, length, take, drop, Option, Some, arith, refl, sym, ◌∙◌, ap, inl, inr, subst}
use Rattle.std.proofs.lemmas.Bool.{cases_Bool, cases_lt, eqb-true, eqb-false}
use Rattle.std.proofs.lemmas.List.{take-append-drop}
use Rattle.address_map.specs.Bytes.{word_start}
use Rattle.os_heap.specs.Store.{Store}
use Rattle.flex_store.specs.Blocks.{Block, contents, FlexStore, has_anchor, bytes_taken_by, bytes_taken_by_all}
use Rattle.flex_store.specs.Calls.{FlexState}
use Rattle.flex_store.specs.Places.{IsSplit}
use Rattle.flex_store.proofs.LawLemmas.{contents_size}
use Rattle.law_machine.specs.flex.Laws.{all_stay, IsLeftBy, IsSpelledState}
use Rattle.law_machine.specs.flex.Numbered.{after_splice, Anchor, anchor_from, blocks_seen, Fixed, Inside, IsSplicedSeen, list_seen, anchor_place_of, SeenBlock, with_places}
use Rattle.law_machine.specs.flex.Seen.{seen_bytes, seen_spliced}
use Rattle.law_machine.proofs.FlexLemmas.Lists.{seen_length}
use Rattle.law_machine.proofs.FlexLemmas.Numbers.{splice_apart, splice_before, splice_past}
use Rattle.law_machine.proofs.FlexLemmas.OneBlock.{IsOneBlock, one_block}

none_moves : (number place : ℕ) (x : Anchor) → after_splice number place 0 0 x ≡ x
none_moves number place (Fixed a) = refl
none_moves number place (Inside n o) = elim (cases_Bool (nat_eq n number)) [
  | inr other ↦ splice_apart number place 0 0 n o (eqb-false n number other)
  | inl here ↦
      let e : n ≡ number = eqb-true n number here in
      elim (cases_lt o place) [
        | inl low ↦ subst (λ (m : ℕ). after_splice number place 0 0 (Inside m o) ≡ Inside m o) (sym e) (splice_before number place 0 0 o low)
        | inr high ↦
            let same : place - 0 + 0 + (o - place) ≡ o = omega (arith, high) in
            subst (λ (m : ℕ). after_splice number place 0 0 (Inside m o) ≡ Inside m o) (sym e) (splice_past number place 0 0 o high ∙ ap (Inside number) same)
      ]
]

all_stand : (number place : ℕ) (bs : List SeenBlock) → with_places (after_splice number place 0 0) bs ≡ bs
all_stand number place [] = refl
all_stand number place (b ∷ bs) =
    let one = none_moves number place b.anchor in
    let rest = all_stand number place bs in
    λ i. record { anchor = one i; bytes = b.bytes } ∷ rest i

bytes_stand : (place : ℕ) (own : List (Option ℕ)) → seen_spliced own place 0 0 ≡ own
bytes_stand place own =
    let e : place - 0 ≡ place = omega arith in
    ap (λ (n : ℕ). take n own ++ drop place own) e ∙ take-append-drop place own

module _ (t : FlexState) (s : FlexStore) (anchor : ℕ) (front after : List Block) (b : Block) (place : ℕ) (sp : IsSpelledState t s) (p : IsSplit anchor s.blocks front b after) where
  abbrev mark : ℕ → Bool
  mark = λ q. has_anchor (front ++ b ∷ after) (word_start q)

  abbrev place_then : ℕ → Anchor
  place_then = λ a. anchor_from 0 s.start (front ++ b ∷ after) a

  known : IsOneBlock t s anchor front after b
  known = one_block t s anchor front after b sp p

  same_seen : (let o : Option FlexStore = Some s in IsSplicedSeen (anchor_place_of s anchor) b.size place 0 0 (blocks_seen o) (blocks_seen o))
  same_seen =
      let own : List (Option ℕ) = seen_bytes mark (s.start + bytes_taken_by_all front + 8) (contents b) in
      let rest : List SeenBlock = list_seen mark place_then (s.start + bytes_taken_by_all front + bytes_taken_by b.size) after in
      let first : List SeenBlock = list_seen mark place_then s.start front in
      record {
        front = first;
        own = own;
        rest = rest;
        was = known.list_is;
        own_size = seen_length mark (s.start + bytes_taken_by_all front + 8) (contents b) ∙ contents_size b known.own_whole.0.0;
        now = known.list_is ∙ (λ i. first ++ record { anchor = anchor_place_of s anchor; bytes = sym (bytes_stand place own) i } ∷ sym (all_stand (length first) place rest) i);
      }

  has_own : has_anchor s.blocks b.anchor ≡ true
  has_own = ap (λ (l : List Block). has_anchor l b.anchor) p.list ∙ known.has_own

  pub same_left : (places : Store) → t.flex ≡ Some s → (let o : Option FlexStore = Some s in IsLeftBy places t t s (all_stay anchor) (IsSplicedSeen (anchor_place_of s anchor) b.size place 0 0 (blocks_seen o)))
  same_left places own = record {
    blocks = s.blocks;
    flex = own;
    spelled = sp;
    seen = subst (λ (o : Option FlexStore). IsSplicedSeen (anchor_place_of s anchor) b.size place 0 0 (blocks_seen (Some s)) (blocks_seen o)) (sym own) same_seen;
    aligned = ap (λ (x : ℕ). x % 4) (sym p.anchor) ∙ known.own_word;
    had = ap (has_anchor s.blocks) (sym p.anchor) ∙ has_own;
    mapped = refl;
    anchors = λ w out. refl;
    bytes = λ a out none. refl;
    kept = λ a out old none. refl;
    came = λ w has. inl has;
    small = λ bytes. bytes;
  }
