-- The loops of the two passes over the lines.
use Rattle.std.proofs.Common.{◌≡◌, ◌+◌, ◌-◌, ◌<◌, ◌≤◌, ℕ, zero, suc, List, [], ◌∷◌, take, Result, Ok, Err, refl, ap, ◌∙◌, arith}
use Rattle.assembler_reading.specs.Expressions.{Lookup}
use Rattle.assembler_reading.specs.Labels.{Entries, address_of}
use Rattle.assembler_reading.specs.Reason.{Reason}
use Rattle.assembler.specs.Line.{line}
use Rattle.assembler.specs.Passes.{Measured, first_pass, bytes_of_line, measured_with_line, error_with_line, second_pass}

abbrev no_texts : List (List ℕ)
no_texts = []

-- the next of so many lines
pub take_next : (count i : ℕ) (text : List ℕ) (others : List (List ℕ)) → i < count
    → take (count - i) (text ∷ others) ≡ text ∷ take (count - (i + 1)) others
take_next count i text others h = let k : count - i ≡ suc (count - (i + 1)) = omega arith in rw k refl

no_lines : (n : ℕ) → take n no_texts ≡ no_texts
no_lines zero = refl
no_lines (suc n) = refl

none_of : (count i : ℕ) (left : List (List ℕ)) → count ≤ i → take (count - i) left ≡ no_texts
none_of count i left h = let k : count - i ≡ 0 = omega arith in rw k refl

-- the first pass, where no line is left, and where so many were enough
pub first_stops : (count i origin number : ℕ) (m : Measured) (left : List (List ℕ)) → left ≡ []
    → first_pass origin number m (take (count - i) left) ≡ Ok m.entries
unfolding first_pass
first_stops count i origin number m left none =
    ap (first_pass origin number m) (ap (take (count - i)) none ∙ no_lines (count - i))

pub first_ends : (count i origin number : ℕ) (m : Measured) (left : List (List ℕ)) → count ≤ i
    → first_pass origin number m (take (count - i) left) ≡ Ok m.entries
unfolding first_pass
first_ends count i origin number m left h = ap (first_pass origin number m) (none_of count i left h)

pub first_goes_on : (count i origin number : ℕ) (entries after : Entries) (program more text : List ℕ) (others : List (List ℕ)) → i < count
    → measured_with_line origin (record { entries = entries; program = program }) (line (address_of []) origin program text) ≡ Ok (record { entries = after; program = more })
    → first_pass origin number (record { entries = entries; program = program }) (take (count - i) (text ∷ others))
    ≡ first_pass origin (number + 1) (record { entries = after; program = more }) (take (count - (i + 1)) others)
unfolding first_pass
first_goes_on count i origin number entries after program more text others h e =
    ap (first_pass origin number (record { entries = entries; program = program })) (take_next count i text others h)
    ∙ ap (λ (r : Result Measured Reason). error_with_line number r (λ next. first_pass origin (number + 1) next (take (count - (i + 1)) others))) e

pub first_refused : (count i origin number : ℕ) (entries : Entries) (program : List ℕ) (reason : Reason) (text : List ℕ) (others : List (List ℕ)) → i < count
    → measured_with_line origin (record { entries = entries; program = program }) (line (address_of []) origin program text) ≡ Err reason
    → first_pass origin number (record { entries = entries; program = program }) (take (count - i) (text ∷ others))
    ≡ Err (record { line = number; reason = reason })
unfolding first_pass
first_refused count i origin number entries program reason text others h e =
    ap (first_pass origin number (record { entries = entries; program = program })) (take_next count i text others h)
    ∙ ap (λ (r : Result Measured Reason). error_with_line number r (λ next. first_pass origin (number + 1) next (take (count - (i + 1)) others))) e

-- the second pass likewise
pub second_stops : (count i origin number : ℕ) (labels : Lookup) (program : List ℕ) (left : List (List ℕ)) → left ≡ []
    → second_pass labels origin number program (take (count - i) left) ≡ Ok program
unfolding second_pass
second_stops count i origin number labels program left none =
    ap (second_pass labels origin number program) (ap (take (count - i)) none ∙ no_lines (count - i))

pub second_ends : (count i origin number : ℕ) (labels : Lookup) (program : List ℕ) (left : List (List ℕ)) → count ≤ i
    → second_pass labels origin number program (take (count - i) left) ≡ Ok program
unfolding second_pass
second_ends count i origin number labels program left h = ap (second_pass labels origin number program) (none_of count i left h)

pub second_goes_on : (count i origin number : ℕ) (labels : Lookup) (program more text : List ℕ) (others : List (List ℕ)) → i < count
    → bytes_of_line origin (line labels origin program text) ≡ Ok more
    → second_pass labels origin number program (take (count - i) (text ∷ others)) ≡ second_pass labels origin (number + 1) more (take (count - (i + 1)) others)
unfolding second_pass
second_goes_on count i origin number labels program more text others h e =
    ap (second_pass labels origin number program) (take_next count i text others h)
    ∙ ap (λ (r : Result (List ℕ) Reason). error_with_line number r (λ after. second_pass labels origin (number + 1) after (take (count - (i + 1)) others))) e

pub second_refused : (count i origin number : ℕ) (labels : Lookup) (program : List ℕ) (reason : Reason) (text : List ℕ) (others : List (List ℕ)) → i < count
    → bytes_of_line origin (line labels origin program text) ≡ Err reason
    → second_pass labels origin number program (take (count - i) (text ∷ others)) ≡ Err (record { line = number; reason = reason })
unfolding second_pass
second_refused count i origin number labels program reason text others h e =
    ap (second_pass labels origin number program) (take_next count i text others h)
    ∙ ap (λ (r : Result (List ℕ) Reason). error_with_line number r (λ after. second_pass labels origin (number + 1) after (take (count - (i + 1)) others))) e

pub ruleset first_steps = (first_stops, first_ends, first_goes_on, first_refused)

pub ruleset second_steps = (second_stops, second_ends, second_goes_on, second_refused)
