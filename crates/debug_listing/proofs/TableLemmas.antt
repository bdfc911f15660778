-- How the entries of a table go on.
use Rattle.std.proofs.Common.{◌≡◌, ℕ, suc, ◌+◌, ◌-◌, ◌<◌, ◌≤◌, List, [], ◌∷◌, ◌++◌, refl, ap, sym, ◌∙◌, arith, append_assoc}
use Rattle.std.specs.Prelude.{Bool, true, false}
use Rattle.std.proofs.lemmas.List.{append-nil}
use Rattle.address_map.specs.Bytes.{Bytes}
use Rattle.debug_listing.specs.Tables.{command_entry_at, no_commands, command_table_by, table_from}
use Rattle.debug_listing.specs.declared.tables.CommandEntry.{CommandEntry}
use Rattle.debug_listing.specs.declared.tables.EntryRead.{EntryRead}
use Rattle.debug_listing.specs.declared.tables.EntryRead.TheVariants as read

table_suc : (more : ℕ) (b : Bytes) (limit at : ℕ) → table_from (suc more) b limit at
    ≡ command_table_by (λ next. table_from more b limit next) (command_entry_at b limit at)
unfolding table_from
table_suc more b limit at = refl

no_entries : (b : Bytes) (limit at : ℕ) → table_from 0 b limit at ≡ no_commands false
unfolding table_from
no_entries b limit at = refl

table_past : (b : Bytes) (limit left at : ℕ) → left ≡ 0 → table_from left b limit at ≡ no_commands false
table_past b limit left at e = ap (λ (n : ℕ). table_from n b limit at) e ∙ no_entries b limit at

-- of the entries from a number on, the first, and those behind it
table_next : (b : Bytes) (limit number at : ℕ) → number < 256 → table_from (256 - number) b limit at
    ≡ command_table_by (λ next. table_from (256 - (number + 1)) b limit next) (command_entry_at b limit at)
table_next b limit number at below =
    let split : 256 - number ≡ suc (256 - (number + 1)) = omega (arith, below) in
    ap (λ (n : ℕ). table_from n b limit at) split ∙ table_suc (256 - (number + 1)) b limit at

-- what is read and what is left are all, and the whole is as what is left
pub record IsReadSoFar (b : Bytes) (limit at number place : ℕ) (entries : List CommandEntry) : Type 0 where
  pub all : entries ++ (table_from (256 - number) b limit place).entries ≡ (table_from 256 b limit at).entries
  pub whole : (table_from (256 - number) b limit place).is_whole ≡ (table_from 256 b limit at).is_whole

-- where the table ends, or leads outside, or has too many entries
pub record IsReadAll (b : Bytes) (limit at : ℕ) (entries : List CommandEntry) (is_whole : Bool) : Type 0 where
  pub all : entries ≡ (table_from 256 b limit at).entries
  pub whole : is_whole ≡ (table_from 256 b limit at).is_whole

read_by : (b : Bytes) (limit at number place : ℕ) (entries : List CommandEntry) (is_whole : Bool)
    → table_from (256 - number) b limit place ≡ no_commands is_whole → IsReadSoFar b limit at number place entries
    → IsReadAll b limit at entries is_whole
read_by b limit at number place entries is_whole left so_far = record {
  all = sym (append-nil entries) ∙ sym (ap (λ t. entries ++ t.entries) left) ∙ so_far.all;
  whole = sym (ap (λ t. t.is_whole) left) ∙ so_far.whole;
}

pub read_to_end : (b : Bytes) (limit at number place : ℕ) (entries : List CommandEntry) (r : EntryRead) → number < 256
    → r ≡ command_entry_at b limit place → r ≡ read.End → IsReadSoFar b limit at number place entries
    → IsReadAll b limit at entries true
read_to_end b limit at number place entries r below is ends =
    read_by b limit at number place entries true (table_next b limit number place below
    ∙ ap (λ x. command_table_by (λ next. table_from (256 - (number + 1)) b limit next) x) (sym is ∙ ends))

pub read_outside : (b : Bytes) (limit at number place : ℕ) (entries : List CommandEntry) (r : EntryRead) → number < 256
    → r ≡ command_entry_at b limit place → r ≡ read.Outside → IsReadSoFar b limit at number place entries
    → IsReadAll b limit at entries false
read_outside b limit at number place entries r below is ends =
    read_by b limit at number place entries false (table_next b limit number place below
    ∙ ap (λ x. command_table_by (λ next. table_from (256 - (number + 1)) b limit next) x) (sym is ∙ ends))

pub read_too_many : (b : Bytes) (limit at number place : ℕ) (entries : List CommandEntry) → 256 ≤ number
    → IsReadSoFar b limit at number place entries → IsReadAll b limit at entries false
read_too_many b limit at number place entries past =
    read_by b limit at number place entries false (table_past b limit (256 - number) place (omega (arith, past)))

-- one entry more
pub read_more : (b : Bytes) (limit at number place next : ℕ) (entries more : List CommandEntry) (e : CommandEntry) (r : EntryRead)
    → number < 256 → r ≡ command_entry_at b limit place → r ≡ read.Entry e next → more ≡ entries ++ e ∷ []
    → IsReadSoFar b limit at number place entries → IsReadSoFar b limit at (number + 1) next more
read_more b limit at number place next entries more e r below is entry pushed so_far =
    let step = table_next b limit number place below
    ∙ ap (λ x. command_table_by (λ next. table_from (256 - (number + 1)) b limit next) x) (sym is ∙ entry) in
    let rest = (table_from (256 - (number + 1)) b limit next).entries in record {
      all = ap (λ (xs : List CommandEntry). xs ++ rest) pushed ∙ append_assoc entries (e ∷ []) rest
          ∙ sym (ap (λ t. entries ++ t.entries) step) ∙ so_far.all;
      whole = sym (ap (λ t. t.is_whole) step) ∙ so_far.whole;
    }

pub read_first : (b : Bytes) (limit at : ℕ) (entries : List CommandEntry) → entries ≡ [] → IsReadSoFar b limit at 0 at entries
read_first b limit at entries none = record {
  all = ap (λ (xs : List CommandEntry). xs ++ (table_from 256 b limit at).entries) none;
  whole = refl;
}
