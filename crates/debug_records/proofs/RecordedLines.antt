-- How the records of lines are put together.
use Rattle.std.proofs.Common.{List, [], ◌∷◌, ◌++◌, ℕ, sym, subst, append_assoc}
use Rattle.std.proofs.lemmas.List.{append-nil}
use Rattle.debug_records.specs.LineRecords.{AreRecords, IsOfForm, RecordForm, no_records, then_records}

-- RECORDS

pub records_joined : (hs ks : List RecordForm) (s t : List ℕ) → AreRecords hs s → AreRecords ks t → AreRecords (hs ++ ks) (s ++ t)
records_joined hs ks s t no_records k = k
records_joined hs ks s t (then_records {form = h} {forms = more} {rest = rest} x is are) k =
    subst (λ (text : List ℕ). AreRecords (h ∷ (more ++ ks)) text) (sym (append_assoc x rest t))
    (then_records x is (records_joined more ks rest t are k))

pub one_record : (h : RecordForm) (t : List ℕ) → IsOfForm h t → AreRecords (h ∷ []) t
one_record h t is = subst (λ (text : List ℕ). AreRecords (h ∷ []) text) (append-nil t) (then_records t is no_records)

-- records, and one behind them
pub record_added : (hs : List RecordForm) (h : RecordForm) (s t : List ℕ) → AreRecords hs s → IsOfForm h t → AreRecords (hs ++ (h ∷ [])) (s ++ t)
record_added hs h s t are is = records_joined hs (h ∷ []) s t are (one_record h t is)
