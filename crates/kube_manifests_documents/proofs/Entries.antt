-- Lists that are read one entry after another.
use Rattle.kube_manifests_documents.specs.Faults.{◌>>=◌}
use Rattle.kube_manifests_documents.specs.Policies.{ItemData, entries_after, next_entry}
use Rattle.kube_manifests_documents.specs.declared.item.Item.{Item}
use Rattle.kube_manifests_documents.specs.declared.item.PolicyList.{PolicyList}
use Rattle.serde_json.specs.View.{items_view, view}
use Rattle.serde_json.specs.declared.value.Value.{Value}
use Rattle.std.proofs.Common.{◌≡◌, ℕ, ◌+◌, ◌<◌, ◌≤◌, List, [], ◌∷◌, ◌++◌, add-one, length, get_or, drop, drop-cons, None, Ok, sym, ap, ◌∙◌}
use Rattle.std.proofs.lemmas.List.{drop_all}

-- the entry after the last one
abbrev pub no_item : Item
no_item = record { index = 0; label = record { ref_ptr = (0, 0); now = [] }; expression = record { ref_ptr = (0, 0); now = [] }; message = None; message_expression = None }

-- the entry at this index, then those after it
pub one_read : (l : PolicyList) (done : List ItemData) (vs : List Value) (i : ℕ) (v : Value) → i < length vs → v ≡ get_or vs i v
    → entries_after l done (items_view (drop i vs)) ≡ (next_entry l done (length done) (view v) >>= (λ x. entries_after l (done ++ x ∷ []) (items_view (drop (i + 1) vs))))
unfolding entries_after
one_read l done vs i v below is = ap (λ ws. entries_after l done (items_view ws)) (drop-cons vs i v below ∙ (λ j. sym is j ∷ drop (sym (add-one i) j) vs))

-- no entry remains
pub all_read : (l : PolicyList) (done : List ItemData) (vs : List Value) (i : ℕ) → length vs ≤ i → entries_after l done (items_view (drop i vs)) ≡ Ok done
unfolding entries_after
all_read l done vs i h = ap (λ ws. entries_after l done (items_view ws)) (drop_all i vs h)
