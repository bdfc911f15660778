-- Pieces of a printed text are read back: words, commas, registers.
use Rattle.std.proofs.Common.{◌≡◌, ◌<◌, ℕ, zero, suc, Bool, true, false, List, [], ◌∷◌, ◌++◌, length, Some, None, refl, ap, arith}
use Rattle.std.proofs.Math.Seq.{take-append_seam, drop-append_seam}
use Rattle.std.specs.List.{prefix_len, list_all}
use Rattle.assembler_text.specs.Names.{register_text}
use Rattle.assembler_text.specs.naming.Expressions.{sign}
use Rattle.assembler_text.specs.naming.Names.{register, register_named}
use Rattle.assembler_text.specs.naming.Words.{after_spaces, after_word, byte, comma, is_word_byte, word}

-- the front of a text that passes
pub front_len : (p : ℕ → Bool) (w rest : List ℕ) → list_all p w ≡ true → prefix_len p rest ≡ 0 → prefix_len p (w ++ rest) ≡ length w
front_len p [] rest all none = none
front_len p (x ∷ w) rest all none = by (p x) refl (front_len p w rest)
  where
    by : (b : Bool) → p x ≡ b → (list_all p w ≡ true → prefix_len p rest ≡ 0 → prefix_len p (w ++ rest) ≡ length w)
        → prefix_len p ((x ∷ w) ++ rest) ≡ length (x ∷ w)
    by true e more = let others = rw e at all in rw (e, more others none) (omega arith)
    by false e more = let others = rw e at all in absurd cc

-- a word before something that is no letter, digit or `_`
pub word_before : (w rest : List ℕ) → list_all is_word_byte w ≡ true → prefix_len is_word_byte rest ≡ 0 → word (w ++ rest) ≡ w
unfolding word
word_before w rest all apart = rw (front_len is_word_byte w rest all apart) (take-append_seam w rest)

pub after_before : (w rest : List ℕ) → list_all is_word_byte w ≡ true → prefix_len is_word_byte rest ≡ 0 → after_word (w ++ rest) ≡ rest
unfolding after_word
after_before w rest all apart = rw (front_len is_word_byte w rest all apart) (drop-append_seam w rest)

-- what may follow an operand: neither a word, a comma nor a sign
pub record Ends (rest : List ℕ) : Type 0 where
  pub apart : prefix_len is_word_byte rest ≡ 0
  pub no_comma : comma rest ≡ None
  pub no_sign : sign rest ≡ None

pub ends_nothing : Ends []
unfolding comma byte after_spaces sign
ends_nothing = record { apart = refl; no_comma = refl; no_sign = refl }

pub ends_bracket : (rest : List ℕ) → Ends (93 ∷ rest)
unfolding comma byte after_spaces sign
ends_bracket rest = record { apart = refl; no_comma = refl; no_sign = refl }

pub comma_then : (x : List ℕ) → after_spaces x ≡ x → comma (44 ∷ x) ≡ Some x
unfolding comma byte after_spaces
comma_then x h = ap Some h

register_read : (name rest : List ℕ) (n : ℕ) → list_all is_word_byte name ≡ true → register_named name ≡ Some n → prefix_len is_word_byte rest ≡ 0
    → register (name ++ rest) ≡ Some (n, rest)
unfolding register
register_read name rest n letters named apart = rw (word_before name rest letters apart, after_before name rest letters apart, named) refl

-- a register's name: no other operand begins so
pub record IsRegister (n : ℕ) (rest : List ℕ) : Type 0 where
  pub named : register_named (register_text n) ≡ Some n
  pub letters : list_all is_word_byte (register_text n) ≡ true
  pub no_hash : byte 35 (register_text n ++ rest) ≡ None
  pub no_bracket : byte 91 (register_text n ++ rest) ≡ None
  pub no_minus : byte 45 (register_text n ++ rest) ≡ None
  pub no_space : after_spaces (register_text n ++ rest) ≡ register_text n ++ rest

pub is_register : (n : ℕ) (rest : List ℕ) → n < 16 → IsRegister n rest
unfolding register_named byte after_spaces
is_register zero rest h = record { named = refl; letters = refl; no_hash = refl; no_bracket = refl; no_minus = refl; no_space = refl }
is_register (suc zero) rest h = record { named = refl; letters = refl; no_hash = refl; no_bracket = refl; no_minus = refl; no_space = refl }
is_register (suc (suc zero)) rest h = record { named = refl; letters = refl; no_hash = refl; no_bracket = refl; no_minus = refl; no_space = refl }
is_register (suc (suc (suc zero))) rest h = record { named = refl; letters = refl; no_hash = refl; no_bracket = refl; no_minus = refl; no_space = refl }
is_register (suc (suc (suc (suc zero)))) rest h = record { named = refl; letters = refl; no_hash = refl; no_bracket = refl; no_minus = refl; no_space = refl }
is_register (suc (suc (suc (suc (suc zero))))) rest h = record { named = refl; letters = refl; no_hash = refl; no_bracket = refl; no_minus = refl; no_space = refl }
is_register (suc (suc (suc (suc (suc (suc zero)))))) rest h = record { named = refl; letters = refl; no_hash = refl; no_bracket = refl; no_minus = refl; no_space = refl }
is_register (suc (suc (suc (suc (suc (suc (suc zero))))))) rest h = record { named = refl; letters = refl; no_hash = refl; no_bracket = refl; no_minus = refl; no_space = refl }
is_register (suc (suc (suc (suc (suc (suc (suc (suc zero)))))))) rest h = record { named = refl; letters = refl; no_hash = refl; no_bracket = refl; no_minus = refl; no_space = refl }
is_register (suc (suc (suc (suc (suc (suc (suc (suc (suc zero))))))))) rest h = record { named = refl; letters = refl; no_hash = refl; no_bracket = refl; no_minus = refl; no_space = refl }
is_register (suc (suc (suc (suc (suc (suc (suc (suc (suc (suc zero)))))))))) rest h = record { named = refl; letters = refl; no_hash = refl; no_bracket = refl; no_minus = refl; no_space = refl }
is_register (suc (suc (suc (suc (suc (suc (suc (suc (suc (suc (suc zero))))))))))) rest h = record { named = refl; letters = refl; no_hash = refl; no_bracket = refl; no_minus = refl; no_space = refl }
is_register (suc (suc (suc (suc (suc (suc (suc (suc (suc (suc (suc (suc zero)))))))))))) rest h = record { named = refl; letters = refl; no_hash = refl; no_bracket = refl; no_minus = refl; no_space = refl }
is_register (suc (suc (suc (suc (suc (suc (suc (suc (suc (suc (suc (suc (suc zero))))))))))))) rest h = record { named = refl; letters = refl; no_hash = refl; no_bracket = refl; no_minus = refl; no_space = refl }
is_register (suc (suc (suc (suc (suc (suc (suc (suc (suc (suc (suc (suc (suc (suc zero)))))))))))))) rest h = record { named = refl; letters = refl; no_hash = refl; no_bracket = refl; no_minus = refl; no_space = refl }
is_register (suc (suc (suc (suc (suc (suc (suc (suc (suc (suc (suc (suc (suc (suc (suc zero))))))))))))))) rest h = record { named = refl; letters = refl; no_hash = refl; no_bracket = refl; no_minus = refl; no_space = refl }
is_register (suc (suc (suc (suc (suc (suc (suc (suc (suc (suc (suc (suc (suc (suc (suc (suc n)))))))))))))))) rest h = absurd (omega (arith, h))

pub register_again : (n : ℕ) (rest : List ℕ) → n < 16 → prefix_len is_word_byte rest ≡ 0 → register (register_text n ++ rest) ≡ Some (n, rest)
register_again n rest h apart = let r = is_register n rest h in register_read (register_text n) rest n r.letters r.named apart
