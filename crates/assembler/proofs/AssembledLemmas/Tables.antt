-- The entries of pieces: a label is found among them where one of the pieces has it.
use Rattle.std.proofs.Common.{◌≡◌, ◌≢◌, ℕ, Bool, true, false, List, [], ◌∷◌, ◌++◌, Option, Some, None, refl, ap, sym, subst, ◌∙◌, ◌⊎◌, inl, inr}
use Rattle.std.proofs.Math.Dec.{eqb-suc-zero}
use Rattle.std.proofs.lemmas.List.{append-nil, append_assoc}
use Rattle.std.proofs.lemmas.Slice.Eq.{bytes_eq-Decides}
use Rattle.std.specs.Prelude.{bytes_eq, if◌then◌else◌, is_some}
use Rattle.std.specs.Map.{lookup}
use Rattle.assembler_reading.specs.Expressions.{Lookup}
use Rattle.assembler_reading.specs.Labels.{Entries, address_of}
use Rattle.assembler.specs.Passes.{is_twice, with_label}
use Rattle.assembler.specs.assembled.Pieces.{HasLabel, HaveOwnLabels, Piece}
use Rattle.assembler.specs.assembled.Programs.{IsLabelTable}
use Rattle.assembler.specs.assembled.Refusals.{IsTwice, no_labels}

-- the entry of a label, where it is one
abbrev pub entry : List ℕ → ℕ → Entries
entry [] address = []
entry (c ∷ cs) address = (c ∷ cs, address) ∷ []

abbrev pub entries_of : List Piece → Entries
entries_of [] = []
entries_of (q ∷ qs) = entry q.label q.address ++ entries_of qs

pub with_entry : (es : Entries) (label : List ℕ) (address : ℕ) → with_label es label address ≡ es ++ entry label address
with_entry es [] address = sym (append-nil es)
with_entry es (c ∷ cs) address = rw eqb-suc-zero refl

pub entries-append : (qs rs : List Piece) → entries_of (qs ++ rs) ≡ entries_of qs ++ entries_of rs
entries-append [] rs = refl
entries-append (q ∷ qs) rs =
    ap (λ (es : Entries). entry q.label q.address ++ es) (entries-append qs rs) ∙ sym (append_assoc (entry q.label q.address) (entries_of qs) (entries_of rs))

-- a piece more in front
further : (q : Piece) (qs : List Piece) (name : List ℕ) (address : ℕ) → HasLabel qs name address → HasLabel (q ∷ qs) name address
further q qs name address h = record {
  before = q ∷ h.before;
  piece = h.piece;
  after = h.after;
  among = ap (λ (rs : List Piece). q ∷ rs) h.among;
  label = h.label;
  some = h.some;
  at = h.at;
}

pub found : (qs : List Piece) (name : List ℕ) (address : ℕ) → address_of (entries_of qs) name ≡ Some address → HasLabel qs name address
unfolding address_of
found [] name address e = absurd (cc)
found (q ∷ qs) name address e = by q.label refl e (found qs name address)
  where
    by_name : (c : ℕ) (cs : List ℕ) (b : Bool) → bytes_eq name (c ∷ cs) ≡ b → q.label ≡ c ∷ cs
        → (if b then Some q.address else lookup (bytes_eq name) (entries_of qs)) ≡ Some address
        → (lookup (bytes_eq name) (entries_of qs) ≡ Some address → HasLabel qs name address) → HasLabel (q ∷ qs) name address
    by_name c cs true same is e others =
        let named : name ≡ c ∷ cs = (bytes_eq-Decides name (c ∷ cs)).0 same in
        let at : q.address ≡ address = cc in
        let some : name ≢ [] = λ none. absurd (cc) in
        record { before = []; piece = q; after = qs; among = refl; label = is ∙ sym named; some = some; at = at }
    by_name c cs false other is e others = further q qs name address (others e)

    by : (label : List ℕ) → q.label ≡ label → lookup (bytes_eq name) (entry label q.address ++ entries_of qs) ≡ Some address
        → (lookup (bytes_eq name) (entries_of qs) ≡ Some address → HasLabel qs name address) → HasLabel (q ∷ qs) name address
    by [] is e others = further q qs name address (others e)
    by (c ∷ cs) is e others = by_name c cs (bytes_eq name (c ∷ cs)) refl is e others

own_behind : (q : Piece) (qs : List Piece) → HaveOwnLabels (q ∷ qs) → HaveOwnLabels qs
own_behind q qs own before between after r s e same = own (q ∷ before) between after r s (ap (λ (rs : List Piece). q ∷ rs) e) same

-- the label of the first piece, and another one
at_first : (label name : List ℕ) (address : ℕ) (es : Entries) → label ≡ name → name ≢ [] → lookup (bytes_eq name) (entry label address ++ es) ≡ Some address
at_first [] name address es same some = absurd (some (sym same))
at_first (c ∷ cs) name address es same some = rw ((bytes_eq-Decides name (c ∷ cs)).1 (sym same)) refl

past_first : (label name : List ℕ) (address : ℕ) (es : Entries) → label ≢ name ⊎ label ≡ []
    → lookup (bytes_eq name) (entry label address ++ es) ≡ lookup (bytes_eq name) es
past_first [] name address es other = refl
past_first (c ∷ cs) name address es (inr none) = absurd (cc)
past_first (c ∷ cs) name address es (inl other) = by (bytes_eq name (c ∷ cs)) refl
  where
    by : (b : Bool) → bytes_eq name (c ∷ cs) ≡ b → (if b then Some address else lookup (bytes_eq name) es) ≡ lookup (bytes_eq name) es
    by true same = absurd (other (sym ((bytes_eq-Decides name (c ∷ cs)).0 same)))
    by false same = refl

given_at : (before after : List Piece) (r : Piece) (name : List ℕ) → HaveOwnLabels (before ++ (r ∷ after)) → r.label ≡ name → name ≢ []
    → lookup (bytes_eq name) (entries_of (before ++ (r ∷ after))) ≡ Some r.address
given_at [] after r name own same some = at_first r.label name r.address (entries_of after) same some
given_at (q ∷ before) after r name own same some =
    let other : q.label ≢ name = λ e. some (sym e ∙ own [] before after q r refl (e ∙ sym same)) in
    past_first q.label name q.address (entries_of (before ++ (r ∷ after))) (inl other)
    ∙ given_at before after r name (own_behind q (before ++ (r ∷ after)) own) same some

pub given : (qs : List Piece) (name : List ℕ) (address : ℕ) → HaveOwnLabels qs → HasLabel qs name address → address_of (entries_of qs) name ≡ Some address
unfolding address_of
given qs name address own h =
    ap (λ (rs : List Piece). lookup (bytes_eq name) (entries_of rs)) h.among
    ∙ given_at h.before h.after h.piece name (subst HaveOwnLabels h.among own) h.label h.some
    ∙ ap (λ (a : ℕ). Some a) h.at

pub table : (qs : List Piece) → HaveOwnLabels qs → IsLabelTable (address_of (entries_of qs)) qs
table qs own name address = (found qs name address, given qs name address own)

-- There is one table of the labels of pieces.
pub one_table : (labels : Lookup) (qs : List Piece) → HaveOwnLabels qs → IsLabelTable labels qs → labels ≡ address_of (entries_of qs)
one_table labels qs own is = λ i name. same name i
  where
    by : (name : List ℕ) (a b : Option ℕ) → labels name ≡ a → address_of (entries_of qs) name ≡ b → a ≡ b
    by name None None p q = refl
    by name (Some a) b p q = sym (given qs name a own ((is name a).0 p)) ∙ q
    by name None (Some b) p q = sym p ∙ (is name b).1 (found qs name b q)

    same : (name : List ℕ) → labels name ≡ address_of (entries_of qs) name
    same name = by name (labels name) (address_of (entries_of qs) name) refl refl

pub no_table : no_labels ≡ address_of []
unfolding address_of
no_table = refl

-- the test of the first pass
pub twice : (qs : List Piece) (q : Piece) → HaveOwnLabels qs → IsTwice qs q → is_twice q.label (entries_of qs) ≡ true
twice qs q own h = by q.label refl
  where
    by : (label : List ℕ) → q.label ≡ label → is_twice label (entries_of qs) ≡ true
    by [] none = absurd (h.1.some none)
    by (c ∷ cs) is =
        let there : address_of (entries_of qs) (c ∷ cs) ≡ Some h.0 = ap (address_of (entries_of qs)) (sym is) ∙ given qs q.label h.0 own h.1 in
        rw (eqb-suc-zero, there) refl

pub not_twice : (qs : List Piece) (q : Piece) → (IsTwice qs q → ⊥) → is_twice q.label (entries_of qs) ≡ false
not_twice qs q new = by q.label refl
  where
    absent : (c : ℕ) (cs : List ℕ) (o : Option ℕ) → q.label ≡ c ∷ cs → address_of (entries_of qs) (c ∷ cs) ≡ o → is_some o ≡ false
    absent c cs None is e = refl
    absent c cs (Some a) is e = absurd (new (a, found qs q.label a (ap (address_of (entries_of qs)) is ∙ e)))

    by : (label : List ℕ) → q.label ≡ label → is_twice label (entries_of qs) ≡ false
    by [] is = refl
    by (c ∷ cs) is = rw eqb-suc-zero (absent c cs (address_of (entries_of qs) (c ∷ cs)) is refl)

pub is_twice_or_not : (qs : List Piece) (q : Piece) → HaveOwnLabels qs → IsTwice qs q ⊎ (IsTwice qs q → ⊥)
is_twice_or_not qs q own = by (address_of (entries_of qs) q.label) refl
  where
    by : (o : Option ℕ) → address_of (entries_of qs) q.label ≡ o → IsTwice qs q ⊎ (IsTwice qs q → ⊥)
    by None e = inr (λ t. let there : address_of (entries_of qs) q.label ≡ Some t.0 = given qs q.label t.0 own t.1 in absurd (cc))
    by (Some a) e = inl (a, found qs q.label a e)
