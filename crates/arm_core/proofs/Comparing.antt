-- Conditions in pairs, and what they show after CMP.
use Rattle.std.proofs.Common.{◌≡◌, ℕ, zero, suc, ◌<◌, ◌^◌, Bool, true, false, not, ◌&&◌, ◌||◌, nat_eq, refl, sym, subst, arith, rules}
use Rattle.std.proofs.lemmas.Grind.{common_steps}
use Rattle.arm_decode.specs.Sums.{difference_of}
use Rattle.arm_decode.specs.Word.{bit_of}
use Rattle.arm_decode.specs.Sum.{Sum}
use Rattle.arm_decode.specs.declared.action.Operate.{Operate}
use Rattle.arm_decode.specs.declared.operation.Operation.TheVariants as operation
use Rattle.arm_core.specs.declared.psr.Psr.{Psr}
use Rattle.arm_core.specs.State.{State}
use Rattle.arm_core.specs.Effect.{plain_operand}
use Rattle.arm_core.specs.Operand.{operand_of, words_ahead}
use Rattle.arm_core.proofs.OperandWords.{plain_word, operand_word}
use Rattle.arm_core.specs.Operate.{state_after_operate}
use Rattle.arm_core.specs.Laws.{PairsDiffer, ShowsOrder, CompareShows}

not_not : (b : Bool) → b ≡ not (not b)
not_not true = refl
not_not false = refl

and_not : (b c : Bool) → (b && not c) ≡ not (not b || c)
and_not true c = refl
and_not false c = refl

not_and : (b c : Bool) → (not b && c) ≡ not (b || not c)
not_and true c = refl
not_and false c = not_not c

pub pairs : PairsDiffer
pairs zero p h = not_not _
pairs (suc zero) p h = not_not _
pairs (suc (suc zero)) p h = not_not _
pairs (suc (suc (suc zero))) p h = not_not _
pairs (suc (suc (suc (suc zero)))) p h = and_not _ _
pairs (suc (suc (suc (suc (suc zero))))) p h = not_not _
pairs (suc (suc (suc (suc (suc (suc zero)))))) p h = not_and _ _
pairs (suc (suc (suc (suc (suc (suc (suc zero))))))) p h = refl
pairs (suc (suc (suc (suc (suc (suc (suc (suc k)))))))) p h = absurd (omega arith)

-- the flags by which a difference shows
abbrev with_flags_of : Psr → Sum → Psr
with_flags_of p r = record p { negative = bit_of r.value 31; zero = nat_eq r.value 0; carry = r.carry; overflow = r.overflow }

abbrev compared : Psr → ℕ → ℕ → Psr
compared p x y = with_flags_of p (difference_of x y true)

order : (p : Psr) (x y : ℕ) → x < 2 ^ 32 → y < 2 ^ 32 → ShowsOrder (compared p x y) x y
order p x y h g = first_of (search rules, grind (arith, common_steps))

compares : (s : State) (o : Operate) → o.operation ≡ operation.Compare → nat_eq o.rd 15 ≡ false
    → (state_after_operate s o).psr ≡ compared s.psr (plain_operand s o.rn (words_ahead o.operand)) (operand_of s o.operand).value
unfolding state_after_operate
compares s o e h = rw (e, h) refl

pub compare_shows : CompareShows
compare_shows s o i f e h =
    let x = plain_operand s o.rn (words_ahead o.operand) in
    let y = (operand_of s o.operand).value in
    subst (λ (p : Psr). ShowsOrder p (plain_operand s o.rn (words_ahead o.operand)) (operand_of s o.operand).value) (sym (compares s o e h))
    (order s.psr x y (plain_word s o.rn (words_ahead o.operand) i) (operand_word s o.operand i f))
