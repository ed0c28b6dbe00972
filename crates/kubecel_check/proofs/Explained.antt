-- What is said of an object that isn't judged, by versions with schemas or with trees.
use Rattle.kube_manifests.specs.DocumentsVersions.{is_defined, TypeMeta, Version, api_version, type_meta_of}
use Rattle.kube_manifests.specs.Explanations.{explanation, is_of_near_kind, is_of_near_version, listed, meant, names_of, no_kind_text, no_version_text, not_served_text, served_explanation, sought_explanation, version_explanation}
use Rattle.kube_manifests.specs.Sets.{with_tree}
use Rattle.kube_manifests.specs.Versions.{is_of_kind}
use Rattle.kube_manifests.specs.declared.judgement.Judgement.{Judgement}
use Rattle.kube_manifests.specs.declared.judgement.Judgement.TheVariants as judgement
use Rattle.kube_manifests.specs.declared.judgement.NotJudged.{NotJudged}
use Rattle.kube_manifests.specs.declared.judgement.NotJudged.TheVariants as reason
use Rattle.kube_schema.specs.Tree.{Node}
use Rattle.kubecel_check.specs.Judgements.{item_of, judged_item, named_reason, remark, verdict_for, why_not}
use Rattle.kubecel_io.specs.Reads.{Found}
use Rattle.kubecel_report.specs.Items.{FindingData}
use Rattle.serde_json.specs.Data.{Data}
use Rattle.std.proofs.Common.{◌≡◌, ℕ, List, [], ◌∷◌, ◌&&◌, ◌||◌, cond, map, Bool, false, true, Option, Some, None, option_map, Ok, Err, refl, ap, ◌∙◌}
use Rattle.std.specs.List.{filter, find}
use Rattle.std.specs.Option.{option_or}

-- what is found among the one is found among the other
found_alike : (p : Version Node → Bool) (q : Version Data → Bool) → ((v : Version Data) → p (with_tree v) ≡ q v) → (vs : List (Version Data))
    → find p (map with_tree vs) ≡ option_map with_tree (find q vs)
found_alike p q same [] = refl
found_alike p q same (v ∷ vs) = ap (λ b. cond b (Some (with_tree v)) (find p (map with_tree vs))) (same v) ∙ by (q v) (found_alike p q same vs)
  where
    by : (b : Bool) → find p (map with_tree vs) ≡ option_map with_tree (find q vs) → cond b (Some (with_tree v)) (find p (map with_tree vs)) ≡ option_map with_tree (cond b (Some v) (find q vs))
    by true rest = refl
    by false rest = rest

kind_alike : (o : Option (Version Data)) → option_map (λ v. v.kind) (option_map with_tree o) ≡ option_map (λ v. v.kind) o
kind_alike None = refl
kind_alike (Some v) = refl

version_alike : (o : Option (Version Data)) → option_map api_version (option_map with_tree o) ≡ option_map api_version o
version_alike None = refl
version_alike (Some v) = refl

meant_alike : (vs : List (Version Data)) (text kind : List ℕ) → meant (map with_tree vs) text kind ≡ meant vs text kind
meant_alike vs text kind =
    let near = found_alike (is_of_near_kind text kind) (is_of_near_kind text kind) (λ v. refl) vs in
    let other = found_alike (is_of_near_version text kind) (is_of_near_version text kind) (λ v. refl) vs in
    ap (λ o. option_or (option_map (λ v. v.kind) o) (option_map api_version (find (is_of_near_version text kind) (map with_tree vs)))) near
    ∙ ap (λ o. option_or o (option_map api_version (find (is_of_near_version text kind) (map with_tree vs)))) (kind_alike (find (is_of_near_kind text kind) vs))
    ∙ ap (λ o. option_or (option_map (λ v. v.kind) (find (is_of_near_kind text kind) vs)) (option_map api_version o)) other
    ∙ ap (option_or (option_map (λ v. v.kind) (find (is_of_near_kind text kind) vs))) (version_alike (find (is_of_near_version text kind) vs))

names_alike : (all : Bool) (group kind : List ℕ) (vs : List (Version Data)) → names_of all group kind (map with_tree vs) ≡ names_of all group kind vs
names_alike all group kind [] = refl
names_alike all group kind (v ∷ vs) = by (is_defined group kind v && (all || v.served)) (names_alike all group kind vs)
  where
    by : (b : Bool) → names_of all group kind (map with_tree vs) ≡ names_of all group kind vs
        → map (λ w. w.name) (cond b (with_tree v ∷ filter (λ w. is_defined group kind w && (all || w.served)) (map with_tree vs))
        (filter (λ w. is_defined group kind w && (all || w.served)) (map with_tree vs)))
        ≡ map (λ w. w.name) (cond b (v ∷ filter (λ w. is_defined group kind w && (all || w.served)) vs) (filter (λ w. is_defined group kind w && (all || w.served)) vs))
    by true rest = ap (λ ns. v.name ∷ ns) rest
    by false rest = rest

versions_alike : (vs : List (Version Data)) (text kind : List ℕ) (o : Option (Version Data))
    → version_explanation (map with_tree vs) text kind (option_map with_tree o) ≡ version_explanation vs text kind o
versions_alike vs text kind None = refl
versions_alike vs text kind (Some v) = ap (λ ns. no_version_text text kind (listed ns)) (names_alike true v.group v.kind vs)

served_alike : (vs : List (Version Data)) (text kind : List ℕ) (o : Option (Version Data))
    → served_explanation (map with_tree vs) text kind (option_map with_tree o) ≡ served_explanation vs text kind o
served_alike vs text kind None = refl
served_alike vs text kind (Some v) = ap (λ ns. not_served_text text kind (listed ns)) (names_alike false v.group v.kind vs)

sought_alike : (vs : List (Version Data)) (o : Option TypeMeta) (r : NotJudged) → sought_explanation (map with_tree vs) o r ≡ sought_explanation vs o r
sought_alike vs None r = refl
sought_alike vs (Some s) reason.NotAnObject = refl
sought_alike vs (Some s) reason.NoApiVersion = refl
sought_alike vs (Some s) reason.NoKind = refl
sought_alike vs (Some s) reason.NoSuchKind = ap (no_kind_text s.api_version s.kind) (meant_alike vs s.api_version s.kind)
sought_alike vs (Some s) reason.NoSuchVersion =
    ap (version_explanation (map with_tree vs) s.api_version s.kind) (found_alike (is_of_kind s.api_version s.kind) (is_of_kind s.api_version s.kind) (λ v. refl) vs)
    ∙ versions_alike vs s.api_version s.kind (find (is_of_kind s.api_version s.kind) vs)
sought_alike vs (Some s) reason.NotServed =
    ap (served_explanation (map with_tree vs) s.api_version s.kind) (found_alike (is_of_kind s.api_version s.kind) (is_of_kind s.api_version s.kind) (λ v. refl) vs)
    ∙ served_alike vs s.api_version s.kind (find (is_of_kind s.api_version s.kind) vs)

explained_alike : (vs : List (Version Data)) (d : Data) (r : NotJudged) → explanation (map with_tree vs) d r ≡ explanation vs d r
unfolding explanation
explained_alike vs d reason.NotAnObject = refl
explained_alike vs d reason.NoApiVersion = refl
explained_alike vs d reason.NoKind = refl
explained_alike vs d reason.NoSuchKind = sought_alike vs (type_meta_of d) reason.NoSuchKind
explained_alike vs d reason.NoSuchVersion = sought_alike vs (type_meta_of d) reason.NoSuchVersion
explained_alike vs d reason.NotServed = sought_alike vs (type_meta_of d) reason.NotServed

why_alike : (vs : List (Version Data)) (f : Found) (r : NotJudged) → why_not (map with_tree vs) f r ≡ why_not vs f r
why_alike vs f r = rw (explained_alike vs f.value (named_reason f.value r)) refl

-- with trees in place of schemas, the same is reported
pub reported_alike : (ignores_missing : Bool) (set : List (Version Node)) (versions : List (Version Data)) → set ≡ map with_tree versions
    → (f : Found) (j : Judgement) (hints : List FindingData) → judged_item ignores_missing set f j hints ≡ judged_item ignores_missing versions f j hints
reported_alike ignores_missing set versions same f (judgement.Judged (Ok u)) hints = refl
reported_alike ignores_missing set versions same f (judgement.Judged (Err es)) hints = refl
reported_alike ignores_missing set versions same f (judgement.NotJudged r) hints =
    ap (λ text. item_of f (verdict_for ignores_missing f r) (remark text)) (ap (λ vs. why_not vs f r) same ∙ why_alike versions f r)
