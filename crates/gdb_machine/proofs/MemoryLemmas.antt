-- How the known bytes go on and end.
use Rattle.std.proofs.Common.{◌≡◌, ◌<◌, ◌-◌, ℕ, suc, List, [], ◌∷◌, ◌++◌, append_assoc, refl, ap, sym, ◌∙◌, arith}
use Rattle.std.specs.Prelude.{Result, Ok, Err}
use Rattle.std.proofs.lemmas.List.{append-nil}
use Rattle.profile.specs.Fault.{Fault}
use Rattle.address_map.specs.Bytes.{Bytes, byte_loaded}
use Rattle.gdb_machine.specs.Memory.{known_bytes, onto_known, bytes_further}

known_suc : (b : Bytes) (a left : ℕ) → known_bytes b a (suc left) ≡ onto_known (byte_loaded b a) (known_bytes b (bytes_further a 1) left)
unfolding known_bytes
known_suc b a left = refl

known_next : (b : Bytes) (a left : ℕ) → 0 < left
    → known_bytes b a left ≡ onto_known (byte_loaded b a) (known_bytes b (bytes_further a 1) (left - 1))
known_next b a left some =
    let split : left ≡ suc (left - 1) = omega arith in
    ap (known_bytes b a) split ∙ known_suc b a (left - 1)

-- what stands, and the known bytes that are left, is all
pub known_more : (b : Bytes) (a left byte : ℕ) (done all : List ℕ) → 0 < left → byte_loaded b a ≡ Ok byte
    → done ++ known_bytes b a left ≡ all
    → (done ++ byte ∷ []) ++ known_bytes b (bytes_further a 1) (left - 1) ≡ all
known_more b a left byte done all some loaded so =
    append_assoc done (byte ∷ []) (known_bytes b (bytes_further a 1) (left - 1))
    ∙ ap (λ (xs : List ℕ). done ++ xs) (sym (known_next b a left some
    ∙ ap (λ (r : Result ℕ Fault). onto_known r (known_bytes b (bytes_further a 1) (left - 1))) loaded)) ∙ so

pub known_fault : (b : Bytes) (a left : ℕ) (f : Fault) (done all : List ℕ) → 0 < left → byte_loaded b a ≡ Err f
    → done ++ known_bytes b a left ≡ all → done ≡ all
known_fault b a left f done all some loaded so =
    sym (append-nil done) ∙ ap (λ (xs : List ℕ). done ++ xs) (sym (known_next b a left some
    ∙ ap (λ (r : Result ℕ Fault). onto_known r (known_bytes b (bytes_further a 1) (left - 1))) loaded)) ∙ so

none_known : (b : Bytes) (a left : ℕ) → left ≡ 0 → known_bytes b a left ≡ []
unfolding known_bytes
none_known b a left e = rw e refl

pub known_end : (b : Bytes) (a left : ℕ) (done all : List ℕ) → left ≡ 0 → done ++ known_bytes b a left ≡ all → done ≡ all
known_end b a left done all none so =
    sym (append-nil done) ∙ ap (λ (xs : List ℕ). done ++ xs) (sym (none_known b a left none)) ∙ so

pub ruleset known_steps = (known_more, known_fault, known_end)
