-- What the proofs of the command line cite.
use Rattle.std.proofs.Common.{◌≡◌, ◌≢◌, ◌∙◌, ◌&&◌, ◌^◌, ◌⊎◌, inl, inr, ℕ, Bool, true, false, List, [], ◌∷◌, Some, None, Result, Ok, Err, refl, sym, ap, length, nat_lt, lt-ltb, ltb-true, true≢false}
use Rattle.std.specs.List.{list_all}
use Rattle.std.specs.Prelude.{if◌then◌else◌, option_and_then, option_map, unwrap_or, Option, IfErr, IfOk, IsErr, OnOk}
use Rattle.std.specs.Result.{result_ok}
use Rattle.std.specs.Char.{digit_value}
use Rattle.std.specs.Str.Parse.{AllDigits, ParsesUnsigned, digits_value, without_leading_plus}
use Rattle.clap.specs.Words.{App, FailsBy, HasKind, HasMatchesOf, IsAmong, Kinds, fault_of, first_value, found_of, is_simple, is_simple_and_free, kind_of, matches_of, rows_of}
use Rattle.clap.specs.declared.error.Error.{Error}
use Rattle.clap.specs.declared.error.kind.ErrorKind.{ErrorKind}
use Rattle.clap.specs.declared.error.kind.ErrorKind.TheVariants.{OutOfMemory}
use Rattle.clap.specs.declared.parser.matches.ArgMatches.{ArgMatches}
use Rattle.clap.specs.declared.parser.matches.Found.{Found}
use Rattle.clap.proofs.OnLiterals.{clap_on_literals}
use Rattle.clap.proofs.WalkLemmas.{first_value-rows, raw_values-rows}
use Rattle.rosm_settings.specs.declared.command_line.options.SettingsError.TheVariants.{Memory, Line}
use Rattle.rosm_settings.specs.command_line.Reasons.{option_text_of}
use Rattle.rosm_settings.specs.command_line.Settings.{is_empty, is_line, is_memory, is_numeral, number_of_option, option_number, refusal_of, rosm, rows_for}

-- ---- numbers

digits_pass : (ds : List ℕ) → AllDigits 10 ds → list_all (λ d. nat_lt (digit_value d) 10) ds ≡ true
digits_pass [] h = refl
digits_pass (d ∷ ds) h = rw (lt-ltb (digit_value d) 10 h.0) (digits_pass ds h.1)

both : (a b : Bool) → (a && b) ≡ true → (a ≡ true) × (b ≡ true)
both true b e = (refl, e)
both false b e = absurd (true≢false (sym e))

digits_from : (ds : List ℕ) → list_all (λ d. nat_lt (digit_value d) 10) ds ≡ true → AllDigits 10 ds
digits_from [] e = tt
digits_from (d ∷ ds) e =
    let parts = both _ _ e in
    (ltb-true _ _ parts.0, digits_from ds parts.1)

-- what `parse` makes of a text is its number
pub number_of-parsed : {E : Type 0} (bits : ℕ) (text : List ℕ) (r : Result ℕ E) → ParsesUnsigned bits 10 text r → result_ok r ≡ number_of_option bits text
unfolding number_of_option
number_of-parsed bits text (Ok n) h =
    let ds = without_leading_plus text in
    rw (lt-ltb 0 (length ds) h.0.0.0, digits_pass ds h.0.0.1, lt-ltb (digits_value 10 ds) (2 ^ bits) h.0.1) (ap Some h.1)
number_of-parsed bits text (Err e) h = go (is_numeral bits (without_leading_plus text)) refl
  where
    go : (b : Bool) → is_numeral bits (without_leading_plus text) ≡ b → None ≡ number_of_option bits text
    go false t = rw t refl
    go true t =
        let outer = both _ _ t in
        let inner = both _ _ outer.0 in
        absurd (h ((ltb-true _ _ inner.0, digits_from (without_leading_plus text) inner.1), ltb-true _ _ outer.1))

pub option_number-read : {E : Type 0} (bits : ℕ) (f : Found) (name text : List ℕ) (r : Result ℕ E) → Some text ≡ first_value f name
    → ParsesUnsigned bits 10 text r → result_ok r ≡ option_number bits (rows_of f) name
unfolding option_number
option_number-read bits f name text r is h =
    number_of-parsed bits text r h ∙ ap (option_and_then (number_of_option bits)) (is ∙ first_value-rows f name)

pub option_number-none : (bits : ℕ) (f : Found) (name : List ℕ) → None ≡ first_value f name → None ≡ option_number bits (rows_of f) name
unfolding option_number
option_number-none bits f name is = ap (option_and_then (number_of_option bits)) (is ∙ first_value-rows f name)

lent : {T : Type 0} (read : T → List ℕ) (o : Option T) (none : T) (first : Option (List ℕ))
    → option_map read o ≡ first → read none ≡ [] → read (unwrap_or o none) ≡ unwrap_or first []
lent read None none first is empty = empty ∙ ap (λ (t : Option (List ℕ)). unwrap_or t []) is
lent read (Some x) none first is empty = ap (λ (t : Option (List ℕ)). unwrap_or t []) is

-- the text of an option, as its matches lend it
pub text_of-lent : {T : Type 0} (read : T → List ℕ) (o : Option T) (none : T) (r : T) (f : Found) (name : List ℕ)
    → r ≡ unwrap_or o none → option_map read o ≡ first_value f name → read none ≡ [] → read r ≡ option_text_of (rows_of f) name
text_of-lent read o none r f name is reported empty =
    ap read is ∙ lent read o none (first_value f name) reported empty
    ∙ ap (λ (t : Option (List ℕ)). unwrap_or t []) (first_value-rows f name)

-- ---- the words

line_alone : Line ≡ Memory → ⊥
line_alone e = cc

rosm_is_simple : is_simple rosm ≡ true
unfolding rosm clap_on_literals
rosm_is_simple = refl

rosm_is_free : is_simple_and_free rosm ≡ true
unfolding rosm clap_on_literals
rosm_is_free = refl

module _ (a : App) (words : List (List ℕ)) (is : a ≡ rosm) where
  pub line_taken : (is_simple_and_free a ≡ true → fault_of a words ≡ []) → is_line words ≡ true
  unfolding is_line
  line_taken h = ap is_empty (ap (λ x. fault_of x words) (sym is) ∙ h (ap is_simple_and_free is ∙ rosm_is_free))

  pub rows_taken : (m : ArgMatches) → HasMatchesOf a words m → rows_of (found_of m) ≡ rows_for words
  unfolding rows_for
  rows_taken m h = (h (ap is_simple is ∙ rosm_is_simple)).0 ∙ ap (λ x. matches_of x words) is

  not_empty : (k : ErrorKind) (kinds : Kinds) → (k ≡ OutOfMemory) ⊎ IsAmong k kinds → refusal_of k ≢ Memory → is_empty kinds ≡ false
  not_empty k kinds (inl e) other = absurd (other (ap refusal_of e))
  not_empty k [] (inr h) other = absurd h
  not_empty k (x ∷ xs) (inr h) other = refl

  else_line : (b : Bool) → (if b then Memory else Line) ≢ Memory → (if b then Memory else Line) ≡ Line
  else_line true other = absurd (other refl)
  else_line false other = refl

  pub line_refused : (e : Error) → (is_simple_and_free a ≡ true → HasKind (fault_of a words) e) → refusal_of (kind_of e) ≢ Memory
      → (refusal_of (kind_of e) ≡ Line) × (is_line words ≡ false)
  unfolding is_line
  line_refused e h other = (
    else_line (is_memory (kind_of e)) other,
    ap (λ x. is_empty (fault_of x words)) (sym is)
        ∙ not_empty (kind_of e) (fault_of a words) (h (ap is_simple_and_free is ∙ rosm_is_free)) other,
  )

  pub outcome_taken : (r : Result ArgMatches Error) → (is_simple_and_free a ≡ true → FailsBy (fault_of a words) r)
      → OnOk r (is_line words ≡ true)
  outcome_taken (Ok m) h = line_taken h
  outcome_taken (Err e) h = tt

  pub outcome_refused : (r : Result ArgMatches Error) → (is_simple_and_free a ≡ true → FailsBy (fault_of a words) r)
      → IfErr r (λ e. refusal_of (kind_of e) ≢ Memory → (refusal_of (kind_of e) ≡ Line) × (is_line words ≡ false))
  outcome_refused (Ok m) h = tt
  outcome_refused (Err e) h = line_refused e h

-- Words that are a line are refused for want of memory alone, and then no reason is shown.
pub no_reason : {A E : Type 0} (words : List (List ℕ)) (e : Error) (r : Result A E) (P : A → Type 0)
    → (refusal_of (kind_of e) ≢ Memory → (refusal_of (kind_of e) ≡ Line) × (is_line words ≡ false))
    → is_line words ≡ true → (is_memory (kind_of e) ≡ true → IsErr r) → IfOk r P
no_reason words e (Err x) P h line err = tt
no_reason words e (Ok x) P h line err = by_kind (is_memory (kind_of e)) refl
  where
    by_kind : (b : Bool) → is_memory (kind_of e) ≡ b → P x
    by_kind true m = absurd (true≢false (sym (err m)))
    by_kind false m =
        let reported : Line ≡ refusal_of (kind_of e) = ap (λ (b : Bool). if b then Memory else Line) (sym m) in
        let other : refusal_of (kind_of e) ≢ Memory = λ memory. line_alone (reported ∙ memory) in
        absurd (true≢false (sym line ∙ (h other).1))

pub ruleset file_steps = (raw_values-rows)
