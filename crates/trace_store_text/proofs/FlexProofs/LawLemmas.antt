-- The list of the blocks that differ is complete, and true.
use Rattle.std.proofs.Common.{◌≡◌, ◌≢◌, ◌⊎◌, ℕ, ◌==◌, ◌&&◌, Bool, true, false, List, [], ◌∷◌, ◌++◌, Contains, Option, Some, None, refl, sym, ap, subst, ◌∙◌, inl, inr, if◌then◌else◌}
use Rattle.std.proofs.lemmas.Bool.{and_parts, cases_Bool, eq-eqb, eqb-true, false≢true}
use Rattle.std.proofs.lemmas.List.Elements.{Contains-append_cases, Contains-append_left, Contains-append_right, Contains-push}
use Rattle.std.specs.List.{flat_map}
use Rattle.store_copies.specs.FlexBlock.{FlexBlock}
use Rattle.trace_store_text.specs.flex.Changes.{BlockChange, block_changes, block_of_anchor, gone_block, gone_block_by, is_same_block, kept_block, kept_block_by}
use Rattle.trace_store_text.specs.flex.Laws.{ExplainsFlex, IsBlockChange, IsBlockExplained, IsGoneBlock, IsKeptBlock, ListsBlocks}
use Rattle.trace_store_text.proofs.ItemsLemmas.MadeLemmas.{first_or_later, in_all, made_of, none_in}

has_anchor_sought : (a : ℕ) (bs : List FlexBlock) (b : FlexBlock) → block_of_anchor a bs ≡ Some b → b.anchor ≡ a
has_anchor_sought a [] b is = absurd (let none : None ≡ Some b = is in cc)
has_anchor_sought a (d ∷ bs) b is =
    elim (cases_Bool (d.anchor == a)) [
      | inl here ↦
          let is' = rw here at is in
          let same : d ≡ b = cc in
          subst (λ (x : FlexBlock). x.anchor ≡ a) same (eqb-true d.anchor a here)
      | inr other ↦ has_anchor_sought a bs b (rw other at is)
    ]

same_block : (old b : FlexBlock) → old.anchor ≡ b.anchor → is_same_block old b ≡ true → old ≡ b
same_block old b anchor is =
    let parts = and_parts (old.at == b.at) (old.size == b.size) is in
    let at = eqb-true old.at b.at parts.0 in
    let size = eqb-true old.size b.size parts.1 in
    (λ i. record { anchor = anchor i; at = at i; size = size i })

same_as_itself : (b : FlexBlock) → is_same_block b b ≡ true
same_as_itself b = rw (eq-eqb b.at b.at refl, eq-eqb b.size b.size refl) refl

gone_by : (b : FlexBlock) (o : Option FlexBlock) → (o ≢ None) ⊎ Contains (gone_block_by b o) (record { was = Some b; is = None })
gone_by b None = inr (Contains-push [] (record { was = Some b; is = None }))
gone_by b (Some new) = inl (λ (none : Some new ≡ None). cc)

kept_by : (b : FlexBlock) (o : Option FlexBlock) → ((old : FlexBlock) → o ≡ Some old → old.anchor ≡ b.anchor)
    → (o ≡ Some b) ⊎ Contains (kept_block_by b o) (record { was = o; is = Some b })
kept_by b None anchor = inr (Contains-push [] (record { was = None; is = Some b }))
kept_by b (Some old) anchor =
    elim (cases_Bool (is_same_block old b)) [
      | inl same ↦ inl (ap (λ (x : FlexBlock). Some x) (same_block old b (anchor old refl) same))
      | inr differs ↦ inr (rw differs (Contains-push [] (record { was = Some old; is = Some b })))
    ]

pub explains : ExplainsFlex
explains before after b = record {
  was = λ h. elim (gone_by b (block_of_anchor b.anchor after)) [
    | inl there ↦ inl there
    | inr reported ↦ inr (Contains-append_left (flat_map (gone_block after) before) (flat_map (kept_block before) after) (record { was = Some b; is = None })
        (in_all (gone_block after) before b (record { was = Some b; is = None }) h reported))
  ];
  is = λ h. elim (kept_by b (block_of_anchor b.anchor before) (λ old e. has_anchor_sought b.anchor before old e)) [
    | inl same ↦ inl same
    | inr reported ↦ inr (Contains-append_right (flat_map (gone_block after) before) (flat_map (kept_block before) after)
        (record { was = block_of_anchor b.anchor before; is = Some b })
        (in_all (kept_block before) after b (record { was = block_of_anchor b.anchor before; is = Some b }) h reported))
  ];
}

gone_is_true : (before after : List FlexBlock) (b : FlexBlock) (o : Option FlexBlock) (c : BlockChange) → Contains before b
    → o ≡ block_of_anchor b.anchor after → Contains (gone_block_by b o) c → IsBlockChange before after c c.is
gone_is_true before after b None c there none h =
    elim (first_or_later (record { was = Some b; is = None }) [] c h) [
      | inl e ↦ subst (λ (d : BlockChange). IsBlockChange before after d d.is) (sym e)
          (record { block = b; was = refl; there = there; none = sym none })
      | inr more ↦ absurd (none_in c more)
    ]
gone_is_true before after b (Some new) c there none h = absurd (none_in c h)

kept_is_true : (before after : List FlexBlock) (b : FlexBlock) (o : Option FlexBlock) (c : BlockChange) → Contains after b
    → o ≡ block_of_anchor b.anchor before → Contains (kept_block_by b o) c → IsBlockChange before after c c.is
kept_is_true before after b None c there was h =
    elim (first_or_later (record { was = None; is = Some b }) [] c h) [
      | inl e ↦ subst (λ (d : BlockChange). IsBlockChange before after d d.is) (sym e)
          (record { there = there; was = was; differs = λ (same : None ≡ Some b). cc })
      | inr more ↦ absurd (none_in c more)
    ]
kept_is_true before after b (Some old) c there was h =
    elim (cases_Bool (is_same_block old b)) [
      | inl same ↦ absurd (none_in c (rw same at h))
      | inr differs ↦ elim (first_or_later (record { was = Some old; is = Some b }) [] c (rw differs at h)) [
        | inl e ↦ subst (λ (d : BlockChange). IsBlockChange before after d d.is) (sym e)
            (record {
              there = there;
              was = was;
              differs = λ (same : Some old ≡ Some b).
                  let is : old ≡ b = cc in
                  false≢true (sym differs ∙ (ap (λ (x : FlexBlock). is_same_block x b) is ∙ same_as_itself b));
            })
        | inr more ↦ absurd (none_in c more)
      ]
    ]

pub are_true : ListsBlocks
are_true before after c h =
    elim (Contains-append_cases (flat_map (gone_block after) before) (flat_map (kept_block before) after) c h) [
      | inl gone ↦
          let one = made_of (gone_block after) before c gone in
          gone_is_true before after one.item (block_of_anchor one.item.anchor after) c one.there refl one.made
      | inr kept ↦
          let one = made_of (kept_block before) after c kept in
          kept_is_true before after one.item (block_of_anchor one.item.anchor before) c one.there refl one.made
    ]
