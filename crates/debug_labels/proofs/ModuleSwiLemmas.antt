-- How the texts of a table of SWIs go on.
use Rattle.std.proofs.Common.{◌≡◌, ℕ, suc, ◌+◌, ◌-◌, ◌<◌, List, Option, None, refl, ap, ◌∙◌, arith}
use Rattle.debugger.specs.Bytes.{Bytes}
use Rattle.debug_labels.specs.ModuleSwis.{number_by, number_from, table_text}

number_suc : (more : ℕ) (b : Bytes) (name : List ℕ) (number at : ℕ) → number_from (suc more) b name number at
    ≡ number_by name number (λ size. number_from more b name (number + 1) (at + size)) (table_text b at)
unfolding number_from
number_suc more b name number at = refl

no_texts : (b : Bytes) (name : List ℕ) (number at : ℕ) → number_from 0 b name number at ≡ None
unfolding number_from
no_texts b name number at = refl

pub number_past : (b : Bytes) (name : List ℕ) (left number at : ℕ) → left ≡ 0 → number_from left b name number at ≡ None
number_past b name left number at e =
    ap (λ (n : ℕ). number_from n b name number at) e ∙ no_texts b name number at

-- of the texts from a number on, the first, and those behind it
pub number_next : (b : Bytes) (name : List ℕ) (number at : ℕ) → number < 64
    → number_from (64 - number) b name number at
    ≡ number_by name number (λ size. number_from (64 - (number + 1)) b name (number + 1) (at + size)) (table_text b at)
number_next b name number at below =
    let split : 64 - number ≡ suc (64 - (number + 1)) = omega (arith, below) in
    ap (λ (n : ℕ). number_from n b name number at) split ∙ number_suc (64 - (number + 1)) b name number at

pub ruleset number_steps = (number_past, number_next)
