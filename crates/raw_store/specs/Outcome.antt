-- Calls that may refuse: a definition answers with a `Result`, and these relations tie a call to
-- it. On a refusal the error is the definition's, and everything is as before.
use Rattle.std.specs.Prelude.{◌≡◌, Result, Ok, Err}

-- go on with what was answered, or pass the refusal on
abbrev pub bind : {A B E : Type 0} → Result A E → (A → Result B E) → Result B E
bind (Ok a) next = next a
bind (Err e) next = Err e

-- the call leaves the state that the definition says, or refuses as it says and changes nothing
abbrev pub Leaves : {S U E : Type 0} → S → Result S E → Result U E → S → Type 0
Leaves old (Ok s) (Ok u) new = new ≡ s
Leaves old (Err f) (Err e) new = (e ≡ f) × (new ≡ old)
Leaves old (Ok s) (Err e) new = ⊥
Leaves old (Err f) (Ok u) new = ⊥

-- the same for a call with an answer of its own beside the state
abbrev pub Gives : {S U E : Type 0} → S → Result (S × U) E → Result U E → S → Type 0
Gives old (Ok r) (Ok u) new = (new ≡ r.0) × (u ≡ r.1)
Gives old (Err f) (Err e) new = (e ≡ f) × (new ≡ old)
Gives old (Ok r) (Err e) new = ⊥
Gives old (Err f) (Ok u) new = ⊥
