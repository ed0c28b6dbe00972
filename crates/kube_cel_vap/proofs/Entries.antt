-- Maps that are built entry by entry, and lists of strings.
use Rattle.cel_value.specs.Data.{Data, Entries, text, text_key}
use Rattle.cel_value.specs.Keys.{put}
use Rattle.cel_value.specs.View.{view}
use Rattle.cel_value.specs.declared.value.Value.{Value}
use Rattle.kube_cel_vap.specs.Requests.{entries_with}
use Rattle.kube_types.specs.Refused.{Refused}
use Rattle.std.proofs.Common.{◌≡◌, ℕ, List, ◌∷◌, IfOk, IsOk, OnOk, Ok, Err, Result, refl, sym, ap, ◌∙◌, true≢false}
use Rattle.std.proofs.lemmas.Result.{IfOk-weaker}
use Rattle.std.specs.Result.{IsOkAnd}

-- one more entry
pub one_more : (k : List ℕ) (d d' : Data) (e f : Entries) (es : List (List ℕ × Data)) → f ≡ put (text_key k) d e → d ≡ d' → e ≡ entries_with es → f ≡ entries_with ((k, d') ∷ es)
one_more k d d' e f es h p q = h ∙ (λ i. put (text_key k) (p i) (q i))

-- one more entry, with a string
pub one_text_more : (k s s' : List ℕ) (e f : Entries) (es : List (List ℕ × Data)) → f ≡ put (text_key k) (text s) e → s ≡ s' → e ≡ entries_with es → f ≡ entries_with ((k, text s') ∷ es)
one_text_more k s s' e f es h p q = one_more k (text s) (text s') e f es h (ap text p) q

-- a value that was made is put under a key
pub put_made : (k : List ℕ) (r : Result Value Refused) (d : Data) (e f : Entries) → IsOkAnd r (λ v. f ≡ put (text_key k) (view v) e) → IfOk r (λ v. view v ≡ d) → f ≡ put (text_key k) d e
put_made k (Ok v) d e f h p = h ∙ ap (λ d. put (text_key k) d e) p
put_made k (Err x) d e f h p = absurd h

-- one more entry, whose value was made
pub one_made : (k : List ℕ) (r : Result Value Refused) (d : Data) (e f : Entries) (es : List (List ℕ × Data)) → IsOkAnd r (λ v. f ≡ put (text_key k) (view v) e) → IfOk r (λ v. view v ≡ d)
    → e ≡ entries_with es → f ≡ entries_with ((k, d) ∷ es)
one_made k r d e f es h p q = one_more k d d e f es (put_made k r d e f h p) refl q

-- a map all of whose entries were inserted
pub all_inserted : {U : Type 0} (o : Result U Refused) (r : Result Value Refused) (m d : Data) → IfOk r (λ v. IsOk o × (view v ≡ m)) → OnOk o (m ≡ d) → IfOk r (λ v. view v ≡ d)
all_inserted (Ok u) r m d h p = IfOk-weaker r _ _ (λ v q. q.1 ∙ p) h
all_inserted (Err x) r m d h p = IfOk-weaker r _ _ (λ v q. absurd (true≢false (sym q.0))) h
