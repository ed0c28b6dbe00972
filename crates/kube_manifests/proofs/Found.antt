-- Facts about the version that is found.
use Rattle.std.proofs.Common.{◌≡◌, ◌&&◌, ℕ, zero, suc, List, [], ◌∷◌, cond, Bool, true, false, Option, Some, None, Result, Ok, Err, refl, sym, ap, ◌∙◌, if◌then◌else◌, arith}
use Rattle.std.proofs.lemmas.Slice.Eq.{bytes_eq-Decides}
use Rattle.std.specs.List.{Contains, find, list_any}
use Rattle.std.specs.Str.{bytes_eq}
use Rattle.std.specs.Prelude.{codes}
use Rattle.kube_cel.specs.Answers.{report_of}
use Rattle.kube_cel.specs.Errors.{ErrorData}
use Rattle.kube_manifests.specs.declared.judgement.Judgement.TheVariants.{Judged}
use Rattle.kube_manifests.specs.declared.judgement.NotJudged.{NotJudged}
use Rattle.kube_manifests.specs.declared.judgement.NotJudged.TheVariants as reason
use Rattle.kube_manifests.specs.Laws.{FindsNothing, IsOwn}
use Rattle.kube_manifests.specs.Sets.{IsJudgement}
use Rattle.kube_manifests.specs.Versions.{chosen_version, chosen_by, if_served, is_of_kind}
use Rattle.kube_manifests_documents.specs.Versions.{Version, api_version, is_of_version, or_reason, text_at}
use Rattle.kube_schema.specs.Rules.{◌>>=◌}
use Rattle.serde_json.specs.Data.{Data, Members}
use Rattle.serde_json.specs.Find.{as_object}

-- ---- the first of a list that passes a test

abbrev IsFound : {A : Type 0} → (A → Bool) → List A → A → Type 0
IsFound p xs v = (p v ≡ true) × Contains xs v

behind : {A : Type 0} (p : A → Bool) (x : A) (xs : List A) (v : A) → IsFound p xs v → IsFound p (x ∷ xs) v
behind p x xs v (passes, (k, below, there)) = (passes, (suc k, omega (arith, below), there))

found_at : {A : Type 0} (p : A → Bool) (x : A) (xs : List A) (v : A) (b : Bool) → b ≡ p x → cond b (Some x) (find p xs) ≡ Some v
    → (find p xs ≡ Some v → IsFound p xs v) → IsFound p (x ∷ xs) v
found_at p x xs v true is e rest =
    let same : x ≡ v = cc in (ap p (sym same) ∙ sym is, (zero, omega arith, same))
found_at p x xs v false is e rest = behind p x xs v (rest e)

find_found : {A : Type 0} (p : A → Bool) (xs : List A) (v : A) → find p xs ≡ Some v → IsFound p xs v
find_found p [] v e = cc
find_found p (x ∷ xs) v e = found_at p x xs v (p x) refl e (find_found p xs v)

-- ---- the version that is served

both : (a b : Bool) → (a && b) ≡ true → (a ≡ true) × (b ≡ true)
both true true e = (refl, refl)
both true false e = cc
both false b e = cc

served_of : {S : Type 0} (b : Bool) (w v : Version S) → w.served ≡ b → ◌≡◌ {A = Result (Version S) NotJudged} (if b then Ok w else Err reason.NotServed) (Ok v)
    → (w ≡ v) × (v.served ≡ true)
served_of true w v is e = let same : w ≡ v = cc in (same, ap (λ (x : Version _). x.served) (sym same) ∙ is)
served_of false w v is e = cc

found_served : {S : Type 0} (known : Bool) (o : Option (Version S)) (v : Version S) → if_served known o ≡ Ok v → (o ≡ Some v) × (v.served ≡ true)
found_served known None v e = cc
found_served known (Some w) v e = let s = served_of w.served w v refl e in (ap Some s.0, s.1)

of_version : {S : Type 0} (text kind : List ℕ) (v : Version S) → is_of_version text kind v ≡ true → (text ≡ api_version v) × (kind ≡ v.kind)
of_version text kind v e =
    let parts = both (bytes_eq (api_version v) text) (bytes_eq v.kind kind) e in
    (sym ((bytes_eq-Decides (api_version v) text).0 parts.0), sym ((bytes_eq-Decides v.kind kind).0 parts.1))

module _ {S : Type 0} (versions : List (Version S)) (value : Data) (v : Version S) where
  by_texts : (text kind : List ℕ) → text_at (codes "apiVersion") value ≡ Some text → text_at (codes "kind") value ≡ Some kind
      → chosen_by versions text kind ≡ Ok v → IsOwn versions value v
  by_texts text kind is_text is_kind e =
      let served = found_served (list_any (is_of_kind text kind) versions) (find (is_of_version text kind) versions) v e in
      let found = find_found (is_of_version text kind) versions v served.0 in
      let own = of_version text kind v found.0 in
      (found.1, served.1, is_text ∙ ap Some own.0, is_kind ∙ ap Some own.1)

  by_kind : (text : List ℕ) (kind : Option (List ℕ)) → text_at (codes "apiVersion") value ≡ Some text → text_at (codes "kind") value ≡ kind
      → (or_reason reason.NoKind kind >>= chosen_by versions text) ≡ Ok v → IsOwn versions value v
  by_kind text None is_text is_kind e = cc
  by_kind text (Some kind) is_text is_kind e = by_texts text kind is_text is_kind e

  by_version : (text : Option (List ℕ)) → text_at (codes "apiVersion") value ≡ text
      → (or_reason reason.NoApiVersion text >>= λ t. or_reason reason.NoKind (text_at (codes "kind") value) >>= chosen_by versions t) ≡ Ok v → IsOwn versions value v
  by_version None is_text e = cc
  by_version (Some text) is_text e = by_kind text (text_at (codes "kind") value) is_text refl e

  by_object : (members : Option Members)
      → (or_reason reason.NotAnObject members >>= λ _. or_reason reason.NoApiVersion (text_at (codes "apiVersion") value)
      >>= λ t. or_reason reason.NoKind (text_at (codes "kind") value) >>= chosen_by versions t) ≡ Ok v → IsOwn versions value v
  by_object None e = cc
  by_object (Some ms) e = by_version (text_at (codes "apiVersion") value) refl e

  pub own_version : chosen_version versions value ≡ Ok v → IsOwn versions value v
  unfolding chosen_version
  own_version e = by_object (as_object value) e

-- ---- no errors

nothing_reported : (es : List ErrorData) → Ok tt ≡ report_of es → es ≡ []
nothing_reported [] e = refl
nothing_reported (x ∷ es) e = cc

pub finds_nothing : (versions : List (Version Data)) (value : Data) (old : Option Data) → IsJudgement versions value old (Judged (Ok tt))
    → (v : Version Data) × (chosen_version versions value ≡ Ok v) × FindsNothing v value old
finds_nothing versions value old (v, is, (b, book, the_report, places)) = (v, is, (b, book, nothing_reported _ the_report))
