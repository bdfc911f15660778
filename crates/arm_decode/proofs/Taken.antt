-- A word that decodes has a form, and decodes into the fields of that form, which nothing refuses;
-- and an instruction decodes from its own word.
use Rattle.std.proofs.Common.{◌≡◌, ℕ, ◌^◌, ◌<◌, ap, ◌∙◌, sym, Option, Some, None, Result, Ok, Err, IfOk, refl}
use Rattle.profile.specs.Fault.{Fault}
use Rattle.arm_decode.proofs.Recut.{recut, IsCutInto}
use Rattle.arm_decode.proofs.Respelled.{respelled}
use Rattle.arm_decode.proofs.Rows.{HasBits, form-has_bits, form-from_bits}
use Rattle.arm_decode.specs.Decoded.{unless_refused, instruction_unless_refused, decoded_as, instruction_of_word}
use Rattle.arm_decode.specs.Diagrams.{word_of_instruction}
use Rattle.arm_decode.specs.Fields.{condition_in, action_in}
use Rattle.arm_decode.specs.Ranges.{FitsFields}
use Rattle.arm_decode.specs.Refusals.{refusal}
use Rattle.arm_decode.specs.Table.{form_of}
use Rattle.arm_decode.specs.declared.action.Action.{Action}
use Rattle.arm_decode.specs.declared.condition.Condition.{Condition}
use Rattle.arm_decode.specs.declared.form.Form.{Form}

unless_refused-ok : (o : Option Fault) (i j : Condition × Action) → unless_refused o i ≡ Ok j → i ≡ j
unless_refused-ok None i j h = cc
unless_refused-ok (Some f) i j h = cc

-- the form of a word that decodes, and that its fields are the instruction
pub record IsTaken (w : ℕ) (i : Condition × Action) : Type 0 where
  pub form : Form
  pub bits : HasBits form w
  pub fields : (condition_in w, action_in form w) ≡ i

taken-as : (r : Result Form Fault) (w : ℕ) (i : Condition × Action) → form_of w ≡ r → decoded_as r w ≡ Ok i → IsTaken w i
taken-as (Ok f) w i e h = record {
  form = f;
  bits = form-has_bits f w e;
  fields = unless_refused-ok (refusal (action_in f w)) (condition_in w, action_in f w) i h;
}
taken-as (Err x) w i e h = absurd (cc)

pub taken : (w : ℕ) (i : Condition × Action) → instruction_of_word w ≡ Ok i → IsTaken w i
unfolding instruction_of_word
taken w i h = taken-as (form_of w) w i refl h

pub word_comes_back : (w : ℕ) (i : Condition × Action) → w < 2 ^ 32 → instruction_of_word w ≡ Ok i → word_of_instruction i ≡ w
word_comes_back w i h e =
    let t = taken w i e in
    ap word_of_instruction (sym t.fields) ∙ respelled t.form w h t.bits

pub comes_back_if_ok : (w : ℕ) (r : Result (Condition × Action) Fault) → w < 2 ^ 32 → r ≡ instruction_of_word w → IfOk r (λ i. word_of_instruction i ≡ w)
comes_back_if_ok w (Ok i) h e = word_comes_back w i h (sym e)
comes_back_if_ok w (Err f) h e = tt

pub decoded-of_form : (w : ℕ) (f : Form) → form_of w ≡ Ok f → instruction_of_word w ≡ instruction_unless_refused (condition_in w, action_in f w)
unfolding instruction_of_word
decoded-of_form w f e = ap (λ r. decoded_as r w) e

pub instruction_comes_back : (i : Condition × Action) → FitsFields i.1 → refusal i.1 ≡ None → instruction_of_word (word_of_instruction i) ≡ Ok i
instruction_comes_back i h r =
    let w = word_of_instruction i in
    let t : IsCutInto w i.0 i.1 = recut w i.0 i.1 h refl in
    let row : form_of w ≡ Ok t.form = form-from_bits t.form w t.bits in
    let whole : (condition_in w, action_in t.form w) ≡ i = ap (λ c. (c, action_in t.form w)) t.condition ∙ ap (λ a. (i.0, a)) t.action in
    decoded-of_form w t.form row ∙ ap instruction_unless_refused whole ∙ ap (λ o. unless_refused o i) r
