-- What a claim leaves of a heap: a free item taken, whole or its front, or a block at the base.
use Rattle.std.proofs.Common.{◌≡◌, ◌++◌, arith, ℕ, ◌∷◌, List, ◌∙◌, inr, ◌-◌, inl, ◌+◌, sym, ap, true, ◌<◌, subst, Ok, refl, ◌≢◌, append-nil, [], ◌≤◌, None}
use Rattle.std.proofs.lemmas.Bool.{ne_eqb, le-leb}
use Rattle.address_map.proofs.Bytes.{is_mapped-layout}
use Rattle.address_map.specs.Bytes.{word_at}
use Rattle.address_map.specs.Items.{size_of, is_total}
use Rattle.address_map.specs.Memory.{bytes_of, byte_at, layout, class_of}
use Rattle.address_map.specs.declared.item.Item.{Item}
use Rattle.address_map.specs.declared.item.Item.TheVariants.{Live, Free}
use Rattle.address_map.specs.declared.map.AddressMap.{AddressMap}
use Rattle.os_heap_words.proofs.ListsLemmas.LastLink.{LinkFacts, link_facts, link_word}
use Rattle.os_heap_words.proofs.ListsLemmas.Marks.{remarked, still-same}
use Rattle.os_heap_words.proofs.ListsLemmas.Reading.{total_facts}
use Rattle.os_heap_words.proofs.ListsLemmas.Spelling.{totals-back, spells-back, spells-kept, spaced-before, spaced-join, size_of-append, spaced-back, totals-front, total_of-numbers}
use Rattle.os_heap_words.specs.lists.Heap.{AreTotals, next_free, last_free, IsHeapIn, AreSpaced}
use Rattle.os_heap_words.specs.lists.Lists.{first_fit, or_at_base}
use Rattle.os_heap_words.specs.lists.Marks.{Remarks}
use Rattle.os_heap_words.specs.lists.Walks.{IsFit}
use Rattle.os_heap_words.specs.lists.Words.{IsWordWritten, link_at, IsFreed}
use Rattle.os_heap_words.proofs.Replace.{becomes}
use Rattle.os_heap_words.specs.Outcomes.{Becomes, Claims}

-- all of a free item is taken
taken_whole : (m n : AddressMap) (start end : ℕ) (before rest : List Item) (t : ℕ) (g : ℕ → ℕ)
    → IsHeapIn (bytes_of m) start end (before ++ Free t ∷ rest) → layout n ≡ layout m
    → IsWordWritten (byte_at m) g (link_at start (last_free start (start + 16) before))
    (next_free (start + 16 + size_of before + t) rest 0 - last_free start (start + 16) before)
    → IsWordWritten g (byte_at n) (start + 16 + size_of before) t
    → Remarks (class_of m) (class_of n) (start + 16 + size_of before) (Free t ∷ []) (Live t ∷ [])
    → Becomes m n start end (before ++ Live t ∷ rest)
taken_whole m n start end before rest t g heap same one two change =
    let totals = totals-back before (Free t ∷ rest) heap.totals in
    let front : AreTotals before = totals-front before (Free t ∷ rest) heap.totals in
    let least = total_facts t totals.0 in
    let link : LinkFacts start (last_free start (start + 16) before) (start + 16 + size_of before) = link_facts start before heap.aligned front in
    let old_size : size_of (before ++ Free t ∷ rest) ≡ size_of before + (t + size_of rest) = size_of-append before (Free t ∷ rest) in
    let new_size : size_of (before ++ Live t ∷ rest) ≡ size_of before + (t + size_of rest) = size_of-append before (Live t ∷ rest) in
    let words = spells-back (word_at (byte_at m)) (start + 16) before (Free t ∷ rest) 0 heap.spelled in
    becomes m n start end before (Free t ∷ rest) (Live t ∷ rest) heap (record {
      mapped = is_mapped-layout m n same;
      totals = totals;
      spaced = spaced-join before (Live t ∷ rest) (spaced-before before rest t heap.spaced) (spaced-back before (Free t ∷ rest) heap.spaced).1;
      inside = omega (arith, heap.inside);
      link = two.apart (link_at start (last_free start (start + 16) before)) (inl link.high) ∙ one.here;
      base = two.apart (start + 8) (inl (omega arith))
          ∙ one.apart (start + 8) (elim link.other [ inl low ↦ inr low | inr high ↦ inl (omega arith) ]) ∙ heap.base ∙ ap (λ (s : ℕ). 16 + s) (old_size ∙ sym new_size);
      same = λ a low apart base. two.apart a (inl low) ∙ one.apart a apart;
      spelled = (
        two.here,
        spells-kept (word_at (byte_at m)) (word_at (byte_at n)) (start + 16 + size_of before + t) rest 0 totals.1 words.1.1
            (λ a low high. two.apart a (inr (omega arith)) ∙ one.apart a (inr (omega (arith, link.high)))),
      );
    }) same (λ a head apart out. two.other a out.0 ∙ one.other a apart)
    (remarked (class_of m) (class_of n) (start + 16) before (Free t ∷ []) (Live t ∷ []) rest heap.totals
    (still-same (start + 16 + size_of before) (Free t ∷ []) (Live t ∷ []) rest refl) change)

-- the front of a free item is taken
taken_part : (m n : AddressMap) (start end : ℕ) (before rest : List Item) (t k : ℕ) (g : ℕ → ℕ)
    → IsHeapIn (bytes_of m) start end (before ++ Free t ∷ rest) → layout n ≡ layout m → is_total k ≡ true → k < t
    → IsFreed (byte_at m) g start (last_free start (start + 16) before) (start + 16 + size_of before + k) (t - k)
    (next_free (start + 16 + size_of before + t) rest 0)
    → IsWordWritten g (byte_at n) (start + 16 + size_of before) k
    → Remarks (class_of m) (class_of n) (start + 16 + size_of before) (Free t ∷ []) (Live k ∷ (Free (t - k) ∷ []))
    → Becomes m n start end (before ++ Live k ∷ (Free (t - k) ∷ rest))
taken_part m n start end before rest t k g heap same total less one two change =
    let totals = totals-back before (Free t ∷ rest) heap.totals in
    let front : AreTotals before = totals-front before (Free t ∷ rest) heap.totals in
    let least = total_facts t totals.0 in
    let least_k = total_facts k total in
    let spaced = spaced-back before (Free t ∷ rest) heap.spaced in
    let link : LinkFacts start (last_free start (start + 16) before) (start + 16 + size_of before) = link_facts start before heap.aligned front in
    let old_size : size_of (before ++ Free t ∷ rest) ≡ size_of before + (t + size_of rest) = size_of-append before (Free t ∷ rest) in
    let new_size : size_of (before ++ Live k ∷ (Free (t - k) ∷ rest)) ≡ size_of before + (k + (t - k + size_of rest)) = size_of-append before (Live k ∷ (Free (t - k) ∷ rest)) in
    let whole : start + 16 + size_of before + k + (t - k) ≡ start + 16 + size_of before + t = omega arith in
    let words = spells-back (word_at (byte_at m)) (start + 16) before (Free t ∷ rest) 0 heap.spelled in
    becomes m n start end before (Free t ∷ rest) (Live k ∷ (Free (t - k) ∷ rest)) heap (record {
      mapped = is_mapped-layout m n same;
      totals = (total, (total_of-numbers (t - k) (omega (arith, least.1, least_k.1)) (omega (arith, least.1, least_k.1)), totals.1));
      spaced = spaced-join before (Live k ∷ (Free (t - k) ∷ rest)) (spaced-before before rest t heap.spaced) spaced;
      inside = omega (arith, heap.inside);
      link = two.apart (link_at start (last_free start (start + 16) before)) (inl link.high) ∙ one.to_item;
      base = two.apart (start + 8) (inl (omega arith))
          ∙ one.apart (start + 8) (elim link.other [ inl low ↦ inr low | inr high ↦ inl (omega arith) ]) (inl (omega arith))
          ∙ heap.base ∙ (let e : 16 + size_of (before ++ Free t ∷ rest) ≡ 16 + size_of (before ++ Live k ∷ (Free (t - k) ∷ rest)) = omega arith in e);
      same = λ a low apart base. two.apart a (inl low) ∙ one.apart a apart (inl (omega arith));
      spelled = (
        two.here,
        (
          two.apart (start + 16 + size_of before + k) (inr (omega (arith, least_k.0))) ∙ one.to_next
              ∙ ap (λ (p : ℕ). next_free p rest 0 - (start + 16 + size_of before + k)) (sym whole),
          (
            two.apart (start + 16 + size_of before + k + 4) (inr (omega arith)) ∙ one.length,
            rw whole (spells-kept (word_at (byte_at m)) (word_at (byte_at n)) (start + 16 + size_of before + t) rest 0 totals.1 words.1.1
                (λ a low high. two.apart a (inr (omega arith)) ∙ one.apart a (inr (omega (arith, link.high)))
                (inr (omega (arith, least.1, least_k.1))))),
          ),
        ),
      );
    }) same (λ a head apart out. two.other a out.0 ∙ one.other a apart out.1.0)
    (remarked (class_of m) (class_of n) (start + 16) before (Free t ∷ []) (Live k ∷ (Free (t - k) ∷ [])) rest heap.totals
    (still-same (start + 16 + size_of before) (Free t ∷ []) (Live k ∷ (Free (t - k) ∷ [])) rest (omega arith)) change)

-- the words of a claim in a free item, and its answer
pub claims_whole : (m n : AddressMap) (start end k from at t next : ℕ) (items : List Item) (g : ℕ → ℕ) (fit : IsFit start items k from at t)
    → IsHeapIn (bytes_of m) start end items → layout n ≡ layout m → t - k ≡ 0 → next ≡ next_free (at + t) fit.rest 0
    → IsWordWritten (byte_at m) g (link_at start from) (next - from) → IsWordWritten g (byte_at n) at k
    → Remarks (class_of m) (class_of n) at (Free t ∷ []) (Live k ∷ [])
    → Claims m n start end (Ok (at + 4)) (first_fit k items)
claims_whole m n start end k from at t next items g fit heap same none onward one two change =
    let e : t ≡ k = omega (arith, fit.fits) in
    let heap' : IsHeapIn (bytes_of m) start end (fit.before ++ Free t ∷ fit.rest) = subst (λ (ys : List Item). IsHeapIn (bytes_of m) start end ys) fit.split heap in
    let next' : next ≡ next_free (start + 16 + size_of fit.before + t) fit.rest 0 = onward ∙ ap (λ (p : ℕ). next_free (p + t) fit.rest 0) fit.place in
    let one' = rw (fit.last, next') at one in
    let two' = rw (fit.place, ← e) at two in
    let b : Becomes m n start end (fit.before ++ Live t ∷ fit.rest) = taken_whole m n start end fit.before fit.rest t g heap' same one' two' (rw fit.place at change) in
    rw (fit.first, none) (rw fit.place refl, rw (← e) b)

pub claims_part : (m n : AddressMap) (start end k from at t next : ℕ) (items : List Item) (g : ℕ → ℕ) (fit : IsFit start items k from at t)
    → IsHeapIn (bytes_of m) start end items → layout n ≡ layout m → is_total k ≡ true → t - k ≢ 0 → next ≡ next_free (at + t) fit.rest 0
    → IsFreed (byte_at m) g start from (at + k) (t - k) next → IsWordWritten g (byte_at n) at k
    → Remarks (class_of m) (class_of n) at (Free t ∷ []) (Live k ∷ (Free (t - k) ∷ []))
    → Claims m n start end (Ok (at + 4)) (first_fit k items)
claims_part m n start end k from at t next items g fit heap same total some onward one two change =
    let less : k < t = omega arith in
    let heap' : IsHeapIn (bytes_of m) start end (fit.before ++ Free t ∷ fit.rest) = subst (λ (ys : List Item). IsHeapIn (bytes_of m) start end ys) fit.split heap in
    let next' : next ≡ next_free (start + 16 + size_of fit.before + t) fit.rest 0 = onward ∙ ap (λ (p : ℕ). next_free (p + t) fit.rest 0) fit.place in
    let one' = rw (fit.last, fit.place, next') at one in
    let two' = rw fit.place at two in
    let b : Becomes m n start end (fit.before ++ Live k ∷ (Free (t - k) ∷ fit.rest)) = taken_part m n start end fit.before fit.rest t k g heap' same total less one' two' (rw fit.place at change) in
    rw (fit.first, ne_eqb (t - k) 0 some) (rw fit.place refl, b)

-- a block more behind all items
pub appended : (m n : AddressMap) (start end k : ℕ) (items : List Item) (g : ℕ → ℕ)
    → IsHeapIn (bytes_of m) start end (items ++ []) → layout n ≡ layout m → is_total k ≡ true → 16 + size_of items + k ≤ end
    → IsWordWritten (byte_at m) g (start + 16 + size_of items) k
    → IsWordWritten g (byte_at n) (start + 8) (16 + size_of items + k)
    → Remarks (class_of m) (class_of n) (start + 16 + size_of items) [] (Live k ∷ [])
    → Becomes m n start end (items ++ Live k ∷ [])
appended m n start end k items g heap same total room one two change =
    let front : AreTotals items = totals-front items [] heap.totals in
    let link : LinkFacts start (last_free start (start + 16) items) (start + 16 + size_of items) = link_facts start items heap.aligned front in
    let new_size : size_of (items ++ Live k ∷ []) ≡ size_of items + (k + 0) = size_of-append items (Live k ∷ []) in
    let spaced : AreSpaced items = subst AreSpaced (append-nil items) heap.spaced in
    becomes m n start end items [] (Live k ∷ []) heap (record {
      mapped = is_mapped-layout m n same;
      totals = (total, tt);
      spaced = spaced-join items (Live k ∷ []) spaced tt;
      inside = omega arith;
      link = two.apart (link_at start (last_free start (start + 16) items)) (elim link.other [ inl low ↦ inl low | inr high ↦ inr (omega arith) ])
          ∙ one.apart (link_at start (last_free start (start + 16) items)) (inl link.high)
          ∙ link_word (bytes_of m) start end items [] heap;
      base = two.here ∙ (let e : 16 + size_of items + k ≡ 16 + size_of (items ++ Live k ∷ []) = omega arith in e);
      same = λ a low apart base. two.apart a base ∙ one.apart a (inl low);
      spelled = (two.apart (start + 16 + size_of items) (inr (omega arith)) ∙ one.here, tt);
    }) same (λ a head apart out. two.other a (elim head [ inl low ↦ inl (omega arith) | inr high ↦ inr (omega arith) ]) ∙ one.other a out.0)
    (remarked (class_of m) (class_of n) (start + 16) items [] (Live k ∷ []) [] heap.totals (λ p. refl) change)

pub claims_base : (m n : AddressMap) (start end k base : ℕ) (items : List Item) (g : ℕ → ℕ)
    → IsHeapIn (bytes_of m) start end items → layout n ≡ layout m → is_total k ≡ true → base ≡ 16 + size_of items → base + k ≤ end
    → IsWordWritten (byte_at m) g (start + base) k → IsWordWritten g (byte_at n) (start + 8) (base + k)
    → Remarks (class_of m) (class_of n) (start + base) [] (Live k ∷ [])
    → Claims m n start end (Ok (start + base + 4)) (or_at_base k (end - 16) items None)
claims_base m n start end k base items g heap same total place room one two change =
    let heap' : IsHeapIn (bytes_of m) start end (items ++ []) = rw (append-nil items) heap in
    let at : start + base ≡ start + 16 + size_of items = omega arith in
    let one' = rw at at one in
    let two' = rw place at two in
    let fits : size_of items + k ≤ end - 16 = omega arith in
    let b : Becomes m n start end (items ++ Live k ∷ []) = appended m n start end k items g heap' same total (omega arith) one' two' (rw at at change) in
    rw (le-leb (size_of items + k) (end - 16) fits) (rw at refl, b)
