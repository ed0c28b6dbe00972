-- Variables that don't read each other, in either order.
use Rattle.cel.specs.Book.{Book}
use Rattle.cel.specs.Bindings.{binding}
use Rattle.cel.specs.Members.{new_entry, put_in}
use Rattle.cel.specs.Outcome.{Outcome}
use Rattle.cel_syntax.specs.Reading.{tree_of}
use Rattle.cel_syntax.specs.Term.{Term}
use Rattle.cel_value.specs.Data.{Data, Entries, map_of, text, text_key}
use Rattle.cel_value.specs.Faults.{duplicate_key, no_key}
use Rattle.cel_value.specs.Find.{find}
use Rattle.cel_value.specs.Keys.{key_order, put}
use Rattle.kube_manifests_documents.specs.Faults.{◌>>=◌}
use Rattle.kube_manifests_policies.proofs.Near.{Members, Near, near}
use Rattle.kube_manifests_names.specs.Inputs.{first_missing}
use Rattle.kube_manifests_policies.specs.Laws.{HasVariables, IsApartFrom, SameVariables}
use Rattle.kube_manifests_documents.specs.Policies.{ItemData}
use Rattle.kube_manifests_policies.specs.Scopes.{Reach, ScopeData, evaluation, fault_report, first_stop, outcome_in, outcome_or_reason, outcome_unless, policy_library, stopped_by, stops, tree_or, unread_text, variable_step, why_not, with_stored, with_values, with_variable, without_value}
use Rattle.kube_manifests_names.specs.Uses.{asks}
use Rattle.kube_manifests_policies.specs.Verdicts.{Labelled, ItemReportData, not_compiled, with_report}
use Rattle.kube_schema_values.proofs.Found.{find-put, find-put_other}
use Rattle.std.proofs.Common.{◌≡◌, ℕ, List, [], ◌∷◌, ◌++◌, Bool, true, false, Option, Some, None, Result, Ok, Err, codes, if◌then◌else◌, refl, sym, ap, ◌∙◌, subst, true≢false, inl, inr, append_assoc}
use Rattle.std.proofs.lemmas.Bool.{false_from_ne_true}
use Rattle.std.proofs.lemmas.Map.Text.{is_eq-slice_cmp}
use Rattle.std.proofs.lemmas.Slice.Eq.{bytes_eq-Decides}
use Rattle.std.specs.Option.{option_map_or}
use Rattle.std.specs.Ordering.{eq_by_cmp}
use Rattle.std.specs.Str.{bytes_eq}

-- ---- names

turned : (x y : List ℕ) → bytes_eq x y ≡ false → bytes_eq y x ≡ false
turned x y h = false_from_ne_true _ (λ k. true≢false (sym ((bytes_eq-Decides x y).1 (sym ((bytes_eq-Decides y x).0 k))) ∙ h))

key_apart : (k l : List ℕ) → bytes_eq k l ≡ false → eq_by_cmp key_order (text_key k) (text_key l) ≡ false
key_apart k l h = is_eq-slice_cmp k l ∙ h

found_other : (z k : List ℕ) (d : Data) (es : Entries) → bytes_eq z k ≡ false → find (text_key z) (put (text_key k) d es) ≡ find (text_key z) es
found_other z k d es h = find-put_other (text_key z) (text_key k) d es (key_apart z k h)

found_itself : (z k : List ℕ) (d : Data) (es : Entries) → bytes_eq z k ≡ true → find (text_key z) (put (text_key k) d es) ≡ Some d
found_itself z k d es h = subst (λ w. find (text_key w) (put (text_key k) d es) ≡ Some d) (sym ((bytes_eq-Decides z k).0 h)) (find-put (text_key k) d es)

two_puts : (c e : Bool) (z x y : List ℕ) (v w : Data) (es : Entries) → bytes_eq x y ≡ false → bytes_eq z y ≡ c → bytes_eq z x ≡ e
    → find (text_key z) (put (text_key y) w (put (text_key x) v es)) ≡ find (text_key z) (put (text_key x) v (put (text_key y) w es))
two_puts true true z x y v w es h p q =
    absurd (true≢false (sym ((bytes_eq-Decides x y).1 (sym ((bytes_eq-Decides z x).0 q) ∙ (bytes_eq-Decides z y).0 p)) ∙ h))
two_puts true false z x y v w es h p q =
    found_itself z y w (put (text_key x) v es) p ∙ sym (found_itself z y w es p) ∙ sym (found_other z x v (put (text_key y) w es) q)
two_puts false true z x y v w es h p q =
    found_other z y w (put (text_key x) v es) p ∙ found_itself z x v es q ∙ sym (found_itself z x v (put (text_key y) w es) q)
two_puts false false z x y v w es h p q =
    found_other z y w (put (text_key x) v es) p ∙ found_other z x v es q ∙ sym (found_other z y w es p) ∙ sym (found_other z x v (put (text_key y) w es) q)

-- ---- the effect of a variable on a scope

abbrev effect_of : Outcome → Option Data → Result Data ItemReportData
effect_of (Err f) o = Err (fault_report f)
effect_of (Ok v) None = Ok v
effect_of (Ok v) (Some old) = Err (fault_report duplicate_key)

abbrev effect : Option Data → Result Outcome ItemReportData → Result Data ItemReportData
effect o (Err reported) = Err reported
effect o (Ok r) = effect_of r o

abbrev applied : ScopeData → Entries → List ℕ → Result Data ItemReportData → ScopeData
applied s es name (Ok v) = with_values s (map_of (put (text_key name) v es))
applied s es name (Err reported) = without_value s name reported

abbrev after : Entries → List ℕ → Result Data ItemReportData → Entries
after es name (Ok v) = put (text_key name) v es
after es name (Err reported) = es

stored_by : (s : ScopeData) (es : Entries) (name : List ℕ) (v : Data) (o : Option Data) → with_stored s name (new_entry es v o (text_key name)) ≡ applied s es name (effect_of (Ok v) o)
stored_by s es name v None = refl
stored_by s es name v (Some old) = refl

is_applied : (s : ScopeData) (es : Entries) → s.values ≡ map_of es → (name : List ℕ) (r : Result Outcome ItemReportData)
    → with_variable s name r ≡ applied s es name (effect (find (text_key name) es) r)
is_applied s es h name (Err reported) = refl
is_applied s es h name (Ok (Err f)) = refl
is_applied s es h name (Ok (Ok v)) = ap (λ m. with_stored s name (put_in m (text name) v)) h ∙ stored_by s es name v (find (text_key name) es)

values_after : (s : ScopeData) (es : Entries) → s.values ≡ map_of es → (name : List ℕ) (e : Result Data ItemReportData) → (applied s es name e).values ≡ map_of (after es name e)
values_after s es h name (Ok v) = refl
values_after s es h name (Err reported) = h

found_after : (es : Entries) (z name : List ℕ) (e : Result Data ItemReportData) → bytes_eq z name ≡ false → find (text_key z) (after es name e) ≡ find (text_key z) es
found_after es z name (Ok v) h = found_other z name v es h
found_after es z name (Err reported) h = refl

-- ---- expressions that don't read the variable

stop_more : (rs : List Labelled) (r : Labelled) (t : Term) → stops t r ≡ false → first_stop (rs ++ r ∷ []) t ≡ first_stop rs t
stop_more [] r t h = rw h refl
stop_more (q ∷ qs) r t h = ap (λ o. if stops t q then Some q.reported else o) (stop_more qs r t h)

near_values : (s : ScopeData) (es : Entries) → s.values ≡ map_of es → binding (codes "variables") s.bindings ≡ Some s.values → (y : List ℕ) (v : Data)
    → Near (put (text_key y) v es) es ((codes "variables", map_of (put (text_key y) v es)) ∷ s.bindings) s.bindings
near_values s es h bound y v = record {
  here = refl;
  there = bound ∙ ap Some h;
  others = λ x k. rw (turned (codes "variables") x k) refl;
}

reach_apart : (b : Book) (s : ScopeData) (es : Entries) → s.values ≡ map_of es → binding (codes "variables") s.bindings ≡ Some s.values → (y : List ℕ) (e : Result Data ItemReportData) (t : Term)
    → ((k : Bool) → asks (codes "variables") y k t ≡ false) → outcome_or_reason b (applied s es y e) t ≡ outcome_or_reason b s t
unfolding outcome_or_reason outcome_in
reach_apart b s es h bound y (Ok v) t apart =
    let members : Members y (put (text_key y) v es) es = λ z k. found_other z y v es (turned y z k) in
    ap (λ o. outcome_unless (why_not s t) o)
    (near policy_library b y (put (text_key y) v es) es members t ((codes "variables", map_of (put (text_key y) v es)) ∷ s.bindings) s.bindings (near_values s es h bound y v) (apart true))
reach_apart b s es h bound y (Err reported) t apart =
    ap (λ o. outcome_unless (stopped_by (first_missing s.absent t) o) (outcome_in b s.bindings t)) (stop_more s.missing (with_report y reported) t (apart _))

evaluated_by : (r q : Reach) (reported : ItemReportData) (o : Option Term) → ((t : Term) → o ≡ Some t → r t ≡ q t) → (tree_or reported o >>= r) ≡ (tree_or reported o >>= q)
evaluated_by r q reported None h = refl
evaluated_by r q reported (Some t) h = h t refl

-- ---- both orders

one_then : (b : Book) (s : ScopeData) (h : HasVariables s) (x y : ItemData) → IsApartFrom x y → bytes_eq y.label x.label ≡ false → (e : Result Data ItemReportData)
    → variable_step b (applied s h.entries x.label e) y
    ≡ applied (applied s h.entries x.label e) (after h.entries x.label e) y.label (effect (find (text_key y.label) h.entries) (evaluation (outcome_or_reason b s) y.expression))
unfolding variable_step
one_then b s h x y apart other e =
    let t = applied s h.entries x.label e in
    let es = after h.entries x.label e in
    is_applied t es (values_after s h.entries h.values x.label e) y.label (evaluation (outcome_or_reason b t) y.expression)
    ∙ (λ i. applied t es y.label (effect (found_after h.entries y.label x.label e other i)
    (evaluated_by (outcome_or_reason b t) (outcome_or_reason b s) (not_compiled (unread_text y.expression)) (tree_of y.expression) (λ u is. reach_apart b s h.entries h.values h.bound x.label e u (λ k. apart u k is)) i)))

both_ways : (s : ScopeData) (es : Entries) (x y : List ℕ) (e f : Result Data ItemReportData) → bytes_eq x y ≡ false
    → SameVariables (applied (applied s es x e) (after es x e) y f) (applied (applied s es y f) (after es y f) x e)
both_ways s es x y (Ok v) (Ok w) h = record {
  values = λ z. ap (λ o. option_map_or Ok o (Err (no_key (text_key z)))) (two_puts (bytes_eq z y) (bytes_eq z x) z x y v w es h refl refl);
  missing = inl refl;
}
both_ways s es x y (Ok v) (Err u) h = record { values = λ z. refl; missing = inl refl }
both_ways s es x y (Err t) (Ok w) h = record { values = λ z. refl; missing = inl refl }
both_ways s es x y (Err t) (Err u) h = record {
  values = λ z. refl;
  missing = inr (s.missing, with_report x t, with_report y u, append_assoc s.missing (with_report x t ∷ []) (with_report y u ∷ []), append_assoc s.missing (with_report y u ∷ []) (with_report x t ∷ []));
}

pub either_order : (b : Book) (s : ScopeData) (x y : ItemData) → HasVariables s → IsApartFrom x y → IsApartFrom y x → bytes_eq x.label y.label ≡ false
    → SameVariables (variable_step b (variable_step b s x) y) (variable_step b (variable_step b s y) x)
unfolding variable_step
either_order b s x y h p q other =
    let es = h.entries in
    let e = effect (find (text_key x.label) es) (evaluation (outcome_or_reason b s) x.expression) in
    let f = effect (find (text_key y.label) es) (evaluation (outcome_or_reason b s) y.expression) in
    let sx = is_applied s es h.values x.label (evaluation (outcome_or_reason b s) x.expression) in
    let sy = is_applied s es h.values y.label (evaluation (outcome_or_reason b s) y.expression) in
    let xy = ap (λ t. variable_step b t y) sx ∙ one_then b s h x y p (turned x.label y.label other) e in
    let yx = ap (λ t. variable_step b t x) sy ∙ one_then b s h y x q other f in
    subst (λ t. SameVariables t (variable_step b (variable_step b s y) x)) (sym xy)
    (subst (λ t. SameVariables (applied (applied s es x.label e) (after es x.label e) y.label f) t) (sym yx) (both_ways s es x.label y.label e f other))
