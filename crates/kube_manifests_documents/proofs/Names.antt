-- Sets of the names of entries.
use Rattle.kube_manifests_documents.specs.Policies.{HasNames, ItemData, is_unique}
use Rattle.kube_manifests_documents.specs.declared.item.PolicyList.{PolicyList}
use Rattle.kube_manifests_texts.proofs.TextSets.{any_more}
use Rattle.std.proofs.Common.{◌≡◌, ℕ, List, [], ◌∷◌, ◌++◌, Bool, true, false, ◌||◌, ◌&&◌, refl, sym, ap, ◌∙◌, String}
use Rattle.std.specs.BTreeSet.{BTreeSet, contains_text}
use Rattle.std.specs.List.{list_any}
use Rattle.std.specs.Str.{bytes_eq}
use Rattle.std.specs.declared.alloc.Global.{Global}

pub one_name_more : (l : PolicyList) (s n : BTreeSet (String Global)) (done more : List ItemData) (x : ItemData) → more ≡ done ++ x ∷ [] → HasNames l s done
    → (is_unique l ≡ true → (z : List ℕ) → contains_text n z ≡ (contains_text s z || bytes_eq z x.label)) → HasNames l n more
one_name_more l s n done more x e h k u z =
    k u z ∙ ap (λ c. c || bytes_eq z x.label) (h u z) ∙ sym (any_more (λ y. bytes_eq z y.label) done x) ∙ ap (list_any (λ y. bytes_eq z y.label)) (sym e)

same_and : (u c d : Bool) → (u ≡ true → c ≡ d) → (u && c) ≡ (u && d)
same_and true c d h = h refl
same_and false c d h = refl

-- a name is repeated if an earlier entry has it
pub repeated_is : (l : PolicyList) (s : BTreeSet (String Global)) (done : List ItemData) (name : List ℕ) → HasNames l s done
    → (is_unique l && contains_text s name) ≡ (is_unique l && list_any (λ y. bytes_eq name y.label) done)
repeated_is l s done name h = same_and (is_unique l) (contains_text s name) (list_any (λ y. bytes_eq name y.label) done) (λ u. h u name)
