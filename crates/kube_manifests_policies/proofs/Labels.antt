-- The names of variables, and refused variables, one after another.
use Rattle.kube_manifests_texts.proofs.TextSets.{any_more}
use Rattle.kube_manifests_documents.specs.Policies.{ItemData, item_view}
use Rattle.kube_manifests_documents.specs.declared.item.Item.{Item}
use Rattle.kube_manifests_names.specs.Names.{NamesData}
use Rattle.kube_manifests_policies.specs.Refusals.{is_label, names_with, refused_item, refused_variables}
use Rattle.kube_manifests_policies.specs.Verdicts.{Labelled}
use Rattle.std.proofs.Common.{◌≡◌, ◌+◌, ◌<◌, ◌≤◌, ℕ, Bool, true, ◌||◌, List, [], ◌∷◌, ◌++◌, map, get_or, length, drop, take, Some, String, sym, ap, ◌∙◌, append_assoc}
use Rattle.std.proofs.lemmas.List.{append-nil, at_drop_all, at_drop_more, map_more}
use Rattle.std.specs.BTreeSet.{BTreeSet, contains_text}
use Rattle.std.specs.Str.{bytes_eq}
use Rattle.std.specs.declared.alloc.Global.{Global}

-- the set has the names of these entries
abbrev pub HasLabels : BTreeSet (String Global) → List ItemData → Type 0
HasLabels s xs = (x : List ℕ) → contains_text s x ≡ is_label xs x

-- the views of the first entries, with one more
first_more : (items : List Item) (i : ℕ) (y : Item) → i < length items → y ≡ get_or items i y → map item_view (take (i + 1) items) ≡ map item_view (take i items) ++ item_view y ∷ []
first_more items i y below is = map_more item_view items i y below ∙ ap (λ z. map item_view (take i items) ++ item_view z ∷ []) (sym is)

-- a set with the name of one more entry
pub label_more : (items : List Item) (i : ℕ) (y : Item) (s n : BTreeSet (String Global)) → i < length items → y ≡ get_or items i y → HasLabels s (map item_view (take i items))
    → ((x : List ℕ) → contains_text n x ≡ (contains_text s x || bytes_eq x y.label.now)) → HasLabels n (map item_view (take (i + 1) items))
label_more items i y s n below is h k x =
    let done = map item_view (take i items) in
    k x ∙ ap (λ c. c || bytes_eq x y.label.now) (h x) ∙ sym (any_more (λ z. bytes_eq x z.label) done (item_view y)) ∙ ap (λ xs. is_label xs x) (sym (first_more items i y below is))

-- what is seen where the variables of this set are
abbrev pub seen_with : Bool → BTreeSet (String Global) → NamesData
seen_with params s = record { params = params; authorizer = true; variables = Some (contains_text s) }

pub seen_alike : (params : Bool) (s : BTreeSet (String Global)) (xs : List ItemData) → HasLabels s xs → seen_with params s ≡ names_with params xs
seen_alike params s xs h = λ i. record { params = params; authorizer = true; variables = Some (λ x. h x i) }

-- one more variable
pub variables_next : (params : Bool) (items : List Item) (i : ℕ) (y : Item) (had new : List Labelled) (s : BTreeSet (String Global)) → i < length items → y ≡ get_or items i y
    → HasLabels s (map item_view (take i items)) → new ≡ had ++ refused_item (seen_with params s) (item_view y)
    → new ++ refused_variables params (map item_view (take (i + 1) items)) (map item_view (drop (i + 1) items)) ≡ had ++ refused_variables params (map item_view (take i items)) (map item_view (drop i items))
variables_next params items i y had new s below is h q =
    let done = map item_view (take i items) in
    let rest = map item_view (drop (i + 1) items) in
    let step = refused_item (names_with params done) (item_view y) in
    let then = refused_variables params (done ++ item_view y ∷ []) rest in
    let before = at_drop_more (λ ws. had ++ refused_variables params done (map item_view ws)) items i y below
    ∙ ap (λ z. had ++ (refused_item (names_with params done) (item_view z) ++ refused_variables params (done ++ item_view z ∷ []) rest)) (sym is) in
    ap (λ xs. new ++ refused_variables params xs rest) (first_more items i y below is)
    ∙ ap (λ ls. ls ++ then) (q ∙ ap (λ n. had ++ refused_item n (item_view y)) (seen_alike params s done h)) ∙ append_assoc had step then ∙ sym before

-- no variable remains
pub variables_last : (params : Bool) (before : List ItemData) (items : List Item) (i : ℕ) (had : List Labelled) → length items ≤ i
    → had ++ refused_variables params before (map item_view (drop i items)) ≡ had
variables_last params before items i had past = at_drop_all (λ ws. had ++ refused_variables params before (map item_view ws)) items i past ∙ append-nil had
