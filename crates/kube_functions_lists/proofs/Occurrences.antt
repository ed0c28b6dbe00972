-- The occurrences that `distinct` keeps, and the values that two equivalent lists share.
use Rattle.std.proofs.Common.{◌≡◌, ◌↔◌, List, [], ◌∷◌, ◌++◌, Bool, true, false, cond, not, ◌||◌, Some, refl, ap, sym, ◌∙◌}
use Rattle.std.proofs.lemmas.List.{append-nil}
use Rattle.std.proofs.lemmas.List.Elements.{filter-append}
use Rattle.std.specs.List.{filter, find, list_all, AllByRecursion, IsDistinct}
use Rattle.cel_value.specs.Data.{Data}
use Rattle.cel_value.specs.Same.{same}
use Rattle.cel_value.specs.SameLaws.{same-equiv}
use Rattle.kube_functions_lists.specs.Lists.{distinct_items}
use Rattle.kube_functions_lists.specs.Sets.{is_in, has_all, have_same}
use Rattle.kube_functions_lists.proofs.Distinct.{among_same}
use Rattle.kube_functions_lists.proofs.Stable.{both, and_true}

-- ---- first occurrences

find_cond : (p : Data → Bool) (b : Bool) (d : Data) (ds es : List Data) → (p d ≡ true → b ≡ true) → find p ds ≡ find p es → find p (cond b (d ∷ ds) ds) ≡ find p (d ∷ es)
find_cond p true d ds es h r = ap (cond (p d) (Some d)) r
find_cond p false d ds es h r = at (p d) refl
  where
    at : (b : Bool) → p d ≡ b → find p ds ≡ find p (d ∷ es)
    at true k = let no : false ≡ true = h k in absurd (cc)
    at false k = r ∙ ap (λ b. cond b (Some d) (find p es)) (sym k)

-- a filter passes whatever is searched for
find_filter : (p q : Data → Bool) → ((e : Data) → p e ≡ true → q e ≡ true) → (ds : List Data) → find p (filter q ds) ≡ find p ds
find_filter p q h [] = refl
find_filter p q h (d ∷ ds) = find_cond p (q d) d (filter q ds) ds (h d) (find_filter p q h ds)

apart : (v d e : Data) → same v d ≡ false → same v e ≡ true → not (same d e) ≡ true
apart v d e h k = ap not (same-equiv.symm d e ∙ sym (same-equiv.congr v e d k) ∙ h)

first_cond : (v d : Data) (b : Bool) (ds es : List Data) → same v d ≡ b → (b ≡ false → find (same v) ds ≡ find (same v) es) → cond b (Some d) (find (same v) ds) ≡ cond b (Some d) (find (same v) es)
first_cond v d true ds es h r = refl
first_cond v d false ds es h r = r refl

pub first_kept : (v : Data) (ds : List Data) → find (same v) (distinct_items ds) ≡ find (same v) ds
first_kept v [] = refl
first_kept v (d ∷ ds) =
    let r = first_kept v ds in
    first_cond v d (same v d) (filter (λ e. not (same d e)) (distinct_items ds)) ds refl
    (λ h. find_filter (same v) (λ e. not (same d e)) (λ e k. apart v d e h k) (distinct_items ds) ∙ r)

-- one more value at the end, among those that differ from an earlier one
next_at : (x d : Data) (es : List Data) (s m : Bool) → same x d ≡ s
    → filter (λ e. not (same x e)) (cond m es (es ++ d ∷ [])) ≡ cond (s || m) (filter (λ e. not (same x e)) es) (filter (λ e. not (same x e)) es ++ d ∷ [])
next_at x d es true true h = refl
next_at x d es false true h = refl
next_at x d es true false h =
    filter-append (λ e. not (same x e)) es (d ∷ []) ∙ ap (λ b. filter (λ e. not (same x e)) es ++ cond (not b) (d ∷ []) []) h ∙ append-nil (filter (λ e. not (same x e)) es)
next_at x d es false false h =
    filter-append (λ e. not (same x e)) es (d ∷ []) ∙ ap (λ b. filter (λ e. not (same x e)) es ++ cond (not b) (d ∷ []) []) h

before_both : (b : Bool) (x : Data) (ds es : List Data) → x ∷ cond b ds es ≡ cond b (x ∷ ds) (x ∷ es)
before_both true x ds es = refl
before_both false x ds es = refl

-- a value at the end is kept exactly if it equals none of the others
pub next_kept : (ds : List Data) (d : Data) → distinct_items (ds ++ d ∷ []) ≡ cond (is_in ds d) (distinct_items ds) (distinct_items ds ++ d ∷ [])
next_kept [] d = refl
next_kept (x ∷ ds) d =
    ap (λ es. x ∷ filter (λ e. not (same x e)) es) (next_kept ds d)
    ∙ ap (λ es. x ∷ es) (next_at x d (distinct_items ds) (same d x) (is_in ds d) (same-equiv.symm x d))
    ∙ before_both (same d x || is_in ds d) x _ _

-- ---- no two kept items are equal

kept_cond : (P : Data → Type 0) (b : Bool) (d : Data) (ds : List Data) → (b ≡ true → P d) → AllByRecursion P ds → AllByRecursion P (cond b (d ∷ ds) ds)
kept_cond P true d ds h r = (h refl, r)
kept_cond P false d ds h r = r

others_apart : (d : Data) (ds : List Data) → AllByRecursion (λ y. same d y ≡ false) (filter (λ e. not (same d e)) ds)
others_apart d [] = tt
others_apart d (e ∷ es) = kept_cond (λ y. same d y ≡ false) (not (same d e)) e (filter (λ e. not (same d e)) es) (from (same d e)) (others_apart d es)
  where
    from : (b : Bool) → not b ≡ true → b ≡ false
    from true h = absurd (cc)
    from false h = refl

all_filtered : (P : Data → Type 0) (q : Data → Bool) (ds : List Data) → AllByRecursion P ds → AllByRecursion P (filter q ds)
all_filtered P q [] h = tt
all_filtered P q (d ∷ ds) h = kept_cond P (q d) d (filter q ds) (λ _. h.0) (all_filtered P q ds h.1)

once_cond : (b : Bool) (d : Data) (ds : List Data) → AllByRecursion (λ y. same d y ≡ false) ds → IsDistinct same ds → IsDistinct same (cond b (d ∷ ds) ds)
unfolding IsDistinct
once_cond true d ds h r = (h, r)
once_cond false d ds h r = r

once_filtered : (q : Data → Bool) (ds : List Data) → IsDistinct same ds → IsDistinct same (filter q ds)
unfolding IsDistinct
once_filtered q [] h = tt
once_filtered q (d ∷ ds) h = once_cond (q d) d (filter q ds) (all_filtered (λ y. same d y ≡ false) q ds h.0) (once_filtered q ds h.1)

pub each_once : (ds : List Data) → IsDistinct same (distinct_items ds)
unfolding IsDistinct
each_once [] = tt
each_once (d ∷ ds) = (others_apart d (distinct_items ds), once_filtered (λ e. not (same d e)) (distinct_items ds) (each_once ds))

-- ---- members

or_right : (a b : Bool) → b ≡ true → (a || b) ≡ true
or_right true b h = refl
or_right false b h = h

carried_by : (b : Bool) (ds es : List Data) (v d : Data) → same v d ≡ b → is_in es d ≡ true → (b || is_in ds v) ≡ true → (is_in ds v ≡ true → is_in es v ≡ true) → is_in es v ≡ true
carried_by true ds es v d k f h r = among_same v d k es ∙ f
carried_by false ds es v d k f h r = r h

carried : (ds es : List Data) (v : Data) → has_all es ds ≡ true → is_in ds v ≡ true → is_in es v ≡ true
carried [] es v f h = absurd (cc)
carried (d ∷ ds) es v f h =
    let a = both (is_in es d) (has_all es ds) f in
    carried_by (same v d) ds es v d refl a.0 h (λ k. carried ds es v a.1 k)

all_in : (p : Data → Bool) (es : List Data) → ((e : Data) → is_in es e ≡ true → p e ≡ true) → list_all p es ≡ true
all_in p [] h = refl
all_in p (e ∷ es) h = and_true _ _ (h e (ap (λ b. b || is_in es e) (same-equiv.refl e))) (all_in p es (λ d k. h d (or_right (same d e) (is_in es d) k)))

two_ways : (s t : Bool) → (s ≡ true → t ≡ true) → (t ≡ true → s ≡ true) → s ≡ t
two_ways true t f g = sym (f refl)
two_ways false true f g = g refl
two_ways false false f g = refl

pub same_members : (ds es : List Data) → (have_same ds es ≡ true) ↔ ((v : Data) → is_in ds v ≡ is_in es v)
same_members ds es = (to, from)
  where
    to : have_same ds es ≡ true → (v : Data) → is_in ds v ≡ is_in es v
    to h v = let a = both (has_all ds es) (has_all es ds) h in two_ways (is_in ds v) (is_in es v) (carried ds es v a.1) (carried es ds v a.0)

    from : ((v : Data) → is_in ds v ≡ is_in es v) → have_same ds es ≡ true
    from f = and_true _ _ (all_in (is_in ds) es (λ e h. f e ∙ h)) (all_in (is_in es) ds (λ d h. sym (f d) ∙ h))
