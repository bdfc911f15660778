-- What is known by some operation is known by one that equals it.
use Rattle.std.proofs.Common.{◌≡◌, Bool, subst, false, true}
use Rattle.arm_core.specs.Condition.{Condition}
use Rattle.arm_core.specs.Indexing.{Indexing}
use Rattle.arm_core.specs.Operation.{Operation}
use Rattle.arm_predecode.specs.Kinds.{OperatesByImmediate, OperatesByRegister, OperatesByShift, Branches, MovesBlock, MovesToPc, MultipliesPlainly, TransfersByNumber, TransfersByRegister}
use Rattle.arm_predecode.specs.OpValue.{OpValue}

pub same_immediate : (op op' : Operation) (s s' : Bool) (r : OpValue) → op ≡ op' → s ≡ s' → OperatesByImmediate op s r → OperatesByImmediate op' s' r
same_immediate op op' s s' r o f h = subst (λ (x : Operation). OperatesByImmediate x s' r) o (subst (λ (b : Bool). OperatesByImmediate op b r) f h)

pub same_register : (op op' : Operation) (s s' : Bool) (r : OpValue) → op ≡ op' → s ≡ s' → OperatesByRegister op s r → OperatesByRegister op' s' r
same_register op op' s s' r o f h = subst (λ (x : Operation). OperatesByRegister x s' r) o (subst (λ (b : Bool). OperatesByRegister op b r) f h)

pub same_shifted : (op op' : Operation) (s s' : Bool) (r : OpValue) → op ≡ op' → s ≡ s' → OperatesByShift op s r → OperatesByShift op' s' r
same_shifted op op' s s' r o f h = subst (λ (x : Operation). OperatesByShift x s' r) o (subst (λ (b : Bool). OperatesByShift op b r) f h)

pub same_branch : (c c' : Condition) (r : OpValue) → c ≡ c' → Branches c false r → Branches c' false r
same_branch c c' r e h = subst (λ (x : Condition). Branches x false r) e h

pub same_link : (c c' : Condition) (r : OpValue) → c ≡ c' → Branches c true r → Branches c' true r
same_link c c' r e h = subst (λ (x : Condition). Branches x true r) e h

pub same_number : (l l' b b' : Bool) (x x' : Indexing) (r : OpValue) → l ≡ l' → b ≡ b' → x ≡ x' → TransfersByNumber l b x r → TransfersByNumber l' b' x' r
same_number l l' b b' x x' r e f g h =
    subst (λ (y : Indexing). TransfersByNumber l' b' y r) g (subst (λ (c : Bool). TransfersByNumber l' c x r) f (subst (λ (c : Bool). TransfersByNumber c b x r) e h))

pub same_offset : (l l' b b' : Bool) (x x' : Indexing) (r : OpValue) → l ≡ l' → b ≡ b' → x ≡ x' → TransfersByRegister l b x r → TransfersByRegister l' b' x' r
same_offset l l' b b' x x' r e f g h =
    subst (λ (y : Indexing). TransfersByRegister l' b' y r) g (subst (λ (c : Bool). TransfersByRegister l' c x r) f (subst (λ (c : Bool). TransfersByRegister c b x r) e h))

pub same_product : (a a' : Bool) (r : OpValue) → a ≡ a' → MultipliesPlainly a r → MultipliesPlainly a' r
same_product a a' r e h = subst (λ (x : Bool). MultipliesPlainly x r) e h

pub same_move : (f f' : Bool) (r : OpValue) → f ≡ f' → MovesToPc f r → MovesToPc f' r
same_move f f' r e h = subst (λ (x : Bool). MovesToPc x r) e h

pub same_block : (l l' u u' w w' pc : Bool) (r : OpValue) → l ≡ l' → u ≡ u' → w ≡ w' → MovesBlock l u w pc r → MovesBlock l' u' w' pc r
same_block l l' u u' w w' pc r e f g h =
    subst (λ (x : Bool). MovesBlock l' u' x pc r) g (subst (λ (x : Bool). MovesBlock l' x w pc r) f (subst (λ (x : Bool). MovesBlock x u w pc r) e h))
