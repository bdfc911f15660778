-- What holds of a line's answer where the writer failed or the block has a fault.
use Rattle.std.proofs.Common.{◌≡◌, ◌∙◌, ℕ, List, Option, Result, Ok, Err, ap, sym, subst}
use Rattle.std.specs.Prelude.{IfErr, OnErr, OnOk}
use Rattle.std.specs.Io.KnownBytes.{Appends}
use Rattle.assembler.specs.declared.error.AsmError.{AsmError}
use Rattle.command_shell.specs.Error.{IsLineError, written_end}
use Rattle.command_shell.specs.State.{ScriptState, Answered, IsAnswered, answer}
use Rattle.command_shell.specs.declared.error.RunError.{RunError}
use Rattle.command_shell.specs.declared.error.RunError.TheVariants as run
use Rattle.command_shell.proofs.AnswerLemmas.{shows_same, shows_text}

-- A line that has nothing left to do but to be written: what holds where it was written,
pub written_so : {U F : Type 0} (done : Result U F) (r : Result U RunError) (P : Type 0) → r ≡ written_end done → OnOk done P
    → OnOk r P
written_so {U} (Ok u) r P is holds = subst (λ (e : Result U RunError). OnOk e P) (sym is) holds
written_so {U} (Err fault) r P is holds = subst (λ (e : Result U RunError). OnOk e P) (sym is) tt

-- its answer,
pub written_answer : {U F : Type 0} (done : Result U F) (r : Result U RunError) (a b : Option (List ℕ)) (s : ScriptState)
    (text : List ℕ) (reported : Answered)
    → r ≡ written_end done → reported ≡ answer s text → OnOk done (Appends a b text) → OnOk r (IsAnswered a b s reported)
written_answer done r a b s text reported is same holds =
    written_so done r (IsAnswered a b s reported) is
    (shows_same done a b s (answer s text) reported same (shows_text done a b s text holds))

-- what holds where it was not,
pub written_fault : {U F : Type 0} (done : Result U F) (r : Result U RunError) (P : Type 0) → r ≡ written_end done → OnErr done P
    → r ≡ Err run.WriteFault → P
written_fault (Ok u) r P is holds fails = absurd (let both = sym is ∙ fails in cc)
written_fault (Err fault) r P is holds fails = holds

-- and that it ends by no other error
pub never_memory : {U F : Type 0} (done : Result U F) (r : Result U RunError) → r ≡ written_end done → r ≡ Err run.Memory → ⊥
never_memory (Ok u) r is memory = absurd (let both = sym is ∙ memory in cc)
never_memory (Err fault) r is memory = absurd (let both = sym is ∙ memory in cc)

pub written_error : {U F : Type 0} (done : Result U F) (r : Result U RunError) → r ≡ written_end done → IfErr r IsLineError
written_error {U} (Ok u) r is = subst (λ (e : Result U RunError). IfErr e IsLineError) (sym is) tt
written_error {U} (Err fault) r is = subst (λ (e : Result U RunError). IfErr e IsLineError) (sym is) tt

-- what holds however a line ends
pub at_ok : {U E : Type 0} (r : Result U E) (P : Type 0) → P → OnOk r P
at_ok (Ok u) P holds = holds
at_ok (Err e) P holds = tt

-- what is said of the error of a result, where the result is known
pub if_err_at_ok : {T E : Type 0} (r : Result T E) (value : T) (P : E → Type 0) → r ≡ Ok value → IfErr r P
if_err_at_ok (Ok x) value P is = tt
if_err_at_ok (Err e) value P is = absurd (cc)

pub if_err_at : {T E : Type 0} (r : Result T E) (error : E) (P : E → Type 0) → r ≡ Err error → P error → IfErr r P
if_err_at (Ok x) error P is holds = absurd (cc)
if_err_at (Err e) error P is holds =
    let same : error ≡ e = cc in
    subst P same holds

-- an error of the assembler, met twice
pub same_reason : {T : Type 0} (r : Result T AsmError) (error other : AsmError) → r ≡ Err error → r ≡ Err other
    → error.reason ≡ other.reason
same_reason r error other is at =
    let same : error ≡ other = (let both = sym is ∙ at in cc) in
    ap (λ (e : AsmError). e.reason) same
