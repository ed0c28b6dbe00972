-- The map of variables with one more variable.
use Rattle.cel.proofs.Bound.{bound}
use Rattle.cel.specs.Bindings.{Bindings, binding}
use Rattle.cel.specs.Members.{new_entry, put_in}
use Rattle.cel_value.specs.Data.{Data, Entries, KeyData, bool, bytes, cidr, double, duration, format, int, ip, list, map_of, null, optional, quantity, semver, text, text_key, timestamp, uint, url}
use Rattle.cel_value.specs.Faults.{Fault}
use Rattle.cel_value.specs.Find.{find}
use Rattle.cel_value.specs.View.{view}
use Rattle.cel_value.specs.declared.value.Value.{Value}
use Rattle.kube_manifests_policies.specs.Scopes.{is_new}
use Rattle.std.proofs.Common.{◌≡◌, ℕ, List, ◌∷◌, Bool, true, false, not, if◌then◌else◌, is_some, Option, Some, None, Err, MatchOption, codes, refl, sym, ap, ◌∙◌, true≢false}
use Rattle.std.specs.Str.{bytes_eq}

not_true : {A : Type 0} → false ≡ true → A
not_true h = absurd (true≢false (sym h))

entry_taken : {A : Type 0} (es : Entries) (v : Data) (k : KeyData) (o : Option Data) (f : Fault) → not (is_some o) ≡ true → Err f ≡ new_entry es v o k → A
entry_taken es v k None f h e = cc
entry_taken es v k (Some d) f h e = not_true h

-- a map takes every new name
pub never_refused : {A : Type 0} (m : Data) (name : List ℕ) (v : Data) (f : Fault) → is_new m name ≡ true → Err f ≡ put_in m (text name) v → A
never_refused (map_of es) name v f h e = entry_taken es v (text_key name) (find (text_key name) es) f h e
never_refused null name v f h e = not_true h
never_refused (bool b) name v f h e = not_true h
never_refused (int n) name v f h e = not_true h
never_refused (uint n) name v f h e = not_true h
never_refused double name v f h e = not_true h
never_refused (text s) name v f h e = not_true h
never_refused (bytes s) name v f h e = not_true h
never_refused (list ds) name v f h e = not_true h
never_refused (timestamp t o) name v f h e = not_true h
never_refused (duration n) name v f h e = not_true h
never_refused (optional ds) name v f h e = not_true h
never_refused (ip a) name v f h e = not_true h
never_refused (cidr c) name v f h e = not_true h
never_refused (quantity q) name v f h e = not_true h
never_refused (semver x) name v f h e = not_true h
never_refused (url u) name v f h e = not_true h
never_refused (format x) name v f h e = not_true h

collapse : {A : Type 0} (b : Bool) (p q r : A) → (if b then p else (if b then q else r)) ≡ (if b then p else r)
collapse true p q r = refl
collapse false p q r = refl

-- `variables` is taken out of the context, and bound anew
pub taken : (o : Option Value) (m : Data) (e0 e1 e2 : Bindings)
    → MatchOption o (e1 ≡ e0) (λ v. (Some (view v) ≡ binding (codes "variables") e0) × ((x : List ℕ) → binding x e1 ≡ (if bytes_eq (codes "variables") x then Some null else binding x e0)))
    → ((x : List ℕ) → binding x e2 ≡ (if bytes_eq (codes "variables") x then Some m else binding x e1)) → (x : List ℕ) → binding x e2 ≡ binding x ((codes "variables", m) ∷ e0)
taken None m e0 e1 e2 same added x = bound x (codes "variables") m m (binding x e2) (binding x e1) e0 (added x) refl (ap (λ e. binding x e) same)
taken (Some v) m e0 e1 e2 h added x =
    let b = bytes_eq (codes "variables") x in
    bound x (codes "variables") m m (binding x e2) (binding x e0) e0
    (added x ∙ ap (λ o. if b then Some m else o) (h.1 x) ∙ collapse b (Some m) (Some null) (binding x e0)) refl refl
