-- Fields that are written, one behind another.
use Rattle.std.proofs.Common.{◌≡◌, ◌∙◌, ℕ, zero, suc, Bool, true, false, List, [], ◌∷◌, ◌++◌, ◌+◌, ◌<◌, ◌≤◌, ◌==◌, arith, inl, inr, min, get_or, length, map, take, refl, sym, ap, subst, append_assoc}
use Rattle.std.proofs.lemmas.Bool.{cases_lt, eqb-true, false≢true}
use Rattle.std.proofs.lemmas.List.{append-nil, map_more}
use Rattle.trace_effects.specs.declared.shown_words.words.ShownWord.{ShownWord}
use Rattle.trace_effects.specs.declared.record_text.text.RecordText.{RecordText}
use Rattle.trace_effects.specs.record_text.Spelling.{comma_before}
use Rattle.trace_moments.specs.Fields.{HasMore, IsWhether, entries, follows_behind, unless_empty}

-- ENTRIES

follows_still : (xs : List (List ℕ)) → follows_behind true xs ≡ true
follows_still [] = refl
follows_still (x ∷ xs) = refl

follows_joined : (f : Bool) (xs ys : List (List ℕ)) → follows_behind f (xs ++ ys) ≡ follows_behind (follows_behind f xs) ys
follows_joined f [] ys = refl
follows_joined f (x ∷ xs) ys = sym (follows_still ys)

pub entries_joined : (f : Bool) (xs ys : List (List ℕ)) → entries f (xs ++ ys) ≡ entries f xs ++ entries (follows_behind f xs) ys
entries_joined f [] ys = refl
entries_joined f (x ∷ xs) ys =
    let rest : entries true (xs ++ ys) ≡ entries true xs ++ entries true ys =
    entries_joined true xs ys ∙ ap (λ (g : Bool). entries true xs ++ entries g ys) (follows_still xs) in
    ap (λ (t : List ℕ). comma_before f ++ (x ++ t)) rest ∙ sym (simp append_assoc)

-- WRITTEN

pub none_more : (a : RecordText) → HasMore a a []
none_more a = record { text = sym (append-nil a.bytes.items); follows = refl }

pub then_more : (a b c : RecordText) (xs ys : List (List ℕ)) → HasMore a b xs → HasMore b c ys → HasMore a c (xs ++ ys)
then_more a b c xs ys h k = record {
  text = k.text
      ∙ (ap (λ (t : List ℕ). t ++ entries b.follows ys) h.text
      ∙ (ap (λ (f : Bool). (a.bytes.items ++ entries a.follows xs) ++ entries f ys) h.follows
      ∙ (append_assoc a.bytes.items (entries a.follows xs) (entries (follows_behind a.follows xs) ys)
      ∙ ap (λ (t : List ℕ). a.bytes.items ++ t) (sym (entries_joined a.follows xs ys)))));
  follows = k.follows ∙ (ap (λ (f : Bool). follows_behind f ys) h.follows ∙ sym (follows_joined a.follows xs ys));
}

pub one_more : (a b : RecordText) (t : List ℕ) → b.bytes.items ≡ a.bytes.items ++ (comma_before a.follows ++ t) → b.follows ≡ true
    → HasMore a b (t ∷ [])
one_more a b t text follows = record {
  text = text ∙ ap (λ (u : List ℕ). a.bytes.items ++ (comma_before a.follows ++ u)) (sym (append-nil t));
  follows = follows;
}

pub ruleset one_or_none = (none_more, one_more)

-- what opens, what stands between, and what closes
pub enclosed : (a b c d : RecordText) (name first last : List ℕ) (xs : List (List ℕ))
    → b.bytes.items ≡ a.bytes.items ++ (comma_before a.follows ++ (name ++ first)) → b.follows ≡ false → HasMore b c xs
    → d.bytes.items ≡ c.bytes.items ++ last → d.follows ≡ true
    → HasMore a d ((name ++ (first ++ (entries false xs ++ last))) ∷ [])
enclosed a b c d name first last xs opens fresh inner closes follows =
    one_more a d (name ++ (first ++ (entries false xs ++ last)))
    (closes ∙ (ap (λ (t : List ℕ). t ++ last) inner.text
    ∙ (ap (λ (f : Bool). (b.bytes.items ++ entries f xs) ++ last) fresh
    ∙ (ap (λ (t : List ℕ). (t ++ entries false xs) ++ last) opens ∙ simp append_assoc))))
    follows

-- one more of a list
pub mapped_more : {X : Type 0} (text : X → List ℕ) (a b c : RecordText) (xs : List X) (i : ℕ) (d : X) → i < length xs
    → HasMore a b (map text (take i xs)) → HasMore b c (text (get_or xs i d) ∷ []) → HasMore a c (map text (take (i + 1) xs))
mapped_more text a b c xs i d inside h k =
    subst (λ (ts : List (List ℕ)). HasMore a c ts) (sym (map_more text xs i d inside))
    (then_more a b c (map text (take i xs)) (text (get_or xs i d) ∷ []) h k)

-- the field of a list, where it has something and where it is empty
pub some_mapped : {X : Type 0} (text : X → List ℕ) (a b : RecordText) (xs : List X) (field : List ℕ) → (length xs == 0) ≡ false
    → HasMore a b (field ∷ []) → HasMore a b (unless_empty (map text xs) field)
some_mapped text a b [] field is h = absurd (false≢true (sym is))
some_mapped text a b (x ∷ xs) field is h = h

pub none_mapped : {X : Type 0} (text : X → List ℕ) (a : RecordText) (xs : List X) (field : List ℕ) → (length xs == 0) ≡ true
    → HasMore a a (unless_empty (map text xs) field)
none_mapped text a [] field is = none_more a
none_mapped text a (x ∷ xs) field is = absurd (let none : length (x ∷ xs) ≡ 0 = eqb-true (length (x ∷ xs)) 0 is in omega (arith, none))

-- a field whose value isn't empty, and one whose value would be
pub some_there : (a b : RecordText) (xs : List (List ℕ)) (field : List ℕ) → IsWhether true xs → HasMore a b (field ∷ []) → HasMore a b (unless_empty xs field)
some_there a b [] field is h = absurd (false≢true (sym is))
some_there a b (x ∷ xs) field is h = h

pub none_there : (a : RecordText) (xs : List (List ℕ)) (field : List ℕ) → IsWhether false xs → HasMore a a (unless_empty xs field)
none_there a [] field is = none_more a
none_there a (x ∷ xs) field is = absurd (false≢true is)

taken_all : {X : Type 0} (n : ℕ) (xs : List X) → length xs ≤ n → take n xs ≡ xs
taken_all zero [] within = refl
taken_all (suc n) [] within = refl
taken_all {X = X} zero (x ∷ xs) within = absurd (omega (arith, within))
taken_all {X = X} (suc n) (x ∷ xs) within = ap (λ (ys : List X). x ∷ ys) (taken_all n xs (omega (arith, within)))

-- the most that are shown, of so many
pub most_taken : (ws : List ShownWord) (n : ℕ) → n ≡ min (length ws) 4096 → take n ws ≡ take 4096 ws
most_taken ws n is = elim (cases_lt (length ws) 4096) [
  | inl few ↦
      let all : n ≡ length ws = omega (arith, is, few) in
      ap (λ (k : ℕ). take k ws) all ∙ (taken_all (length ws) ws (omega arith) ∙ sym (taken_all 4096 ws (let at_most : length ws ≤ 4096 = omega (arith, few) in at_most)))
  | inr many ↦ ap (λ (k : ℕ). take k ws) (let most : n ≡ 4096 = omega (arith, is, many) in most)
]
