-- Old objects of the definitions of a set.
use Rattle.kube_manifests.proofs.Choices.{chosen_alike}
use Rattle.kube_manifests.proofs.Formed.{mapped}
use Rattle.kube_manifests.specs.Sets.{rules_of, with_tree}
use Rattle.kube_manifests.specs.DocumentsVersions.{Version}
use Rattle.kube_manifests.specs.Versions.{chosen_version}
use Rattle.kube_manifests.specs.declared.judgement.NotJudged.{NotJudged}
use Rattle.kube_manifests.specs.declared.judgement.NotJudged.TheVariants as reason
use Rattle.kube_schema.specs.Tree.{Node}
use Rattle.kube_schema.specs.View.{view_of}
use Rattle.kubecel_io.specs.Objects.{objects_of}
use Rattle.kubecel_io.specs.Reads.{Found}
use Rattle.kubecel_check.specs.Judgements.{AreUsable, is_unusable, is_unusable_for}
use Rattle.kubecel_check.specs.Objects.{AreDefined, all_judged, all_subjects, has_definition, holds_object, is_defined, is_held, subjects_in, unless_definition}
use Rattle.serde_json.specs.Data.{Data}
use Rattle.std.proofs.Common.{◌≡◌, ℕ, List, [], ◌∷◌, ◌++◌, ◌&&◌, ◌||◌, cond, flat_map, map, Bool, false, true, Result, Ok, Err, refl, sym, ap, ◌∙◌}
use Rattle.std.specs.List.{list_all, list_any}
use Rattle.std.specs.Str.{bytes_eq}

-- a result of another type with the same reason
mapped_alike : {A B : Type 0} (f : A → B) (r : Result A NotJudged) → has_definition (mapped f r) ≡ has_definition r
mapped_alike f (Ok v) = refl
mapped_alike f (Err reason.NotAnObject) = refl
mapped_alike f (Err reason.NoApiVersion) = refl
mapped_alike f (Err reason.NoKind) = refl
mapped_alike f (Err reason.NoSuchKind) = refl
mapped_alike f (Err reason.NoSuchVersion) = refl
mapped_alike f (Err reason.NotServed) = refl

-- the number of rules is known, or not, for the same reason
pub counted_alike : (r : Result (Version Node) NotJudged) → has_definition (rules_of r) ≡ has_definition r
counted_alike (Ok v) = refl
counted_alike (Err reason.NotAnObject) = refl
counted_alike (Err reason.NoApiVersion) = refl
counted_alike (Err reason.NoKind) = refl
counted_alike (Err reason.NoSuchKind) = refl
counted_alike (Err reason.NoSuchVersion) = refl
counted_alike (Err reason.NotServed) = refl

pub unusable_counted : (ignores_missing : Bool) (f : Found) (r : Result (Version Node) NotJudged)
    → is_unusable_for ignores_missing f (rules_of r) ≡ is_unusable_for ignores_missing f r
unusable_counted ignores_missing f (Ok v) = refl
unusable_counted ignores_missing f (Err r) = refl

all_alike : {A : Type 0} (p q : A → Bool) → ((x : A) → p x ≡ q x) → (xs : List A) → list_all p xs ≡ list_all q xs
all_alike p q same [] = refl
all_alike p q same (x ∷ xs) = ap (λ b. b && list_all p xs) (same x) ∙ ap (λ b. q x && b) (all_alike p q same xs)

any_alike : {A : Type 0} (p q : A → Bool) → ((x : A) → p x ≡ q x) → (xs : List A) → list_any p xs ≡ list_any q xs
any_alike p q same [] = refl
any_alike p q same (x ∷ xs) = ap (λ b. b || list_any p xs) (same x) ∙ ap (λ b. q x || b) (any_alike p q same xs)

-- with trees in place of schemas, the same objects are of a definition
same_defined : (set : List (Version Node)) (versions : List (Version Data)) → set ≡ map with_tree versions → (f : Found) → is_defined set f ≡ is_defined versions f
same_defined set versions same f = ap (λ vs. has_definition (chosen_version vs f.value)) same
    ∙ (ap has_definition (chosen_alike (view_of 65) versions f.value) ∙ mapped_alike with_tree (chosen_version versions f.value))

pub defined_alike : (ignores_missing allows_none : Bool) (set : List (Version Node)) (versions : List (Version Data)) → set ≡ map with_tree versions → (objects : List Found)
    → AreDefined ignores_missing allows_none set objects → AreDefined ignores_missing allows_none versions objects
defined_alike false allows_none set versions same objects are = tt
defined_alike true true set versions same objects are = tt
defined_alike true false set versions same objects are = sym (any_alike (is_defined set) (is_defined versions) (same_defined set versions same) objects) ∙ are

pub held_alike : (set : List (Version Node)) (versions : List (Version Data)) → set ≡ map with_tree versions → (olds : List Found) (paths : List (List ℕ))
    → list_all (holds_object set olds) paths ≡ true → list_all (holds_object versions olds) paths ≡ true
held_alike set versions same olds paths held =
    let one = λ (path : List ℕ) (f : Found). ap (λ b. b && bytes_eq path f.file) (same_defined set versions same f) in
    sym (all_alike (holds_object set olds) (holds_object versions olds) (λ path. any_alike (is_held set path) (is_held versions path) (one path) olds) paths) ∙ held

unusable_mapped : {A B : Type 0} (ignores_missing : Bool) (f : Found) (g : A → B) (r : Result A NotJudged)
    → is_unusable_for ignores_missing f (mapped g r) ≡ is_unusable_for ignores_missing f r
unusable_mapped ignores_missing f g (Ok v) = refl
unusable_mapped ignores_missing f g (Err r) = refl

same_unusable : (ignores_missing : Bool) (set : List (Version Node)) (versions : List (Version Data)) → set ≡ map with_tree versions → (f : Found)
    → is_unusable ignores_missing set f ≡ is_unusable ignores_missing versions f
same_unusable ignores_missing set versions same f = ap (λ vs. is_unusable_for ignores_missing f (chosen_version vs f.value)) same
    ∙ (ap (is_unusable_for ignores_missing f) (chosen_alike (view_of 65) versions f.value)
    ∙ unusable_mapped ignores_missing f with_tree (chosen_version versions f.value))

pub usable_alike : (ignores_missing : Bool) (set : List (Version Node)) (versions : List (Version Data)) → set ≡ map with_tree versions → (olds : List Found)
    → AreUsable ignores_missing set olds → AreUsable ignores_missing versions olds
usable_alike ignores_missing set versions same olds are =
    sym (any_alike (is_unusable ignores_missing set) (is_unusable ignores_missing versions) (same_unusable ignores_missing set versions same) olds) ∙ are

mapped_over : {A B : Type 0} (f g : A → List B) → ((x : A) → f x ≡ g x) → (xs : List A) → flat_map f xs ≡ flat_map g xs
mapped_over f g same [] = refl
mapped_over f g same (x ∷ xs) = ap (λ ys. ys ++ flat_map f xs) (same x) ∙ ap (λ ys. g x ++ ys) (mapped_over f g same xs)

-- and documents have the same objects
pub subjects_alike : (set : List (Version Node)) (versions : List (Version Data)) → set ≡ map with_tree versions → (fs : List Found) → all_subjects set fs ≡ all_subjects versions fs
subjects_alike set versions same fs = mapped_over (subjects_in set) (subjects_in versions) (λ f. ap (λ b. cond b (f ∷ []) (objects_of f)) (same_defined set versions same f)) fs

-- of which the same are judged
pub judged_alike : (set : List (Version Node)) (versions : List (Version Data)) → set ≡ map with_tree versions → (fs : List Found) → all_judged set fs ≡ all_judged versions fs
judged_alike set versions same fs = ap (flat_map unless_definition) (subjects_alike set versions same fs)
