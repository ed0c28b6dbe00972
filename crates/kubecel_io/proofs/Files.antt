-- Files read one after another.
use Rattle.kubecel_io.specs.Documents.{documents}
use Rattle.kubecel_report.specs.Items.{ItemData, item_view}
use Rattle.kubecel_io.specs.Reads.{AreRead, AreTried, Found, IsRead, IsTried, IsUnread, are_none, document_view, unusable_item, unusable_of, with_indices, without_mark}
use Rattle.kubecel_report.specs.declared.item.Item.{Item}
use Rattle.kubecel_io.specs.declared.sources.Document.{Document}
use Rattle.kubecel_io.specs.declared.sources.Stop.{Stop}
use Rattle.serde_json.specs.Data.{Data}
use Rattle.serde_json.specs.View.{view}
use Rattle.serde_json.specs.declared.value.Value.{Value}
use Rattle.std.proofs.Common.{◌≡◌, ℕ, ◌+◌, List, [], ◌∷◌, ◌++◌, ◌<◌, ◌⊎◌, inl, inr, get_or, take, map, length, codes, string_bytes, true, Option, Some, None, IfErr, IfSome, Result, Ok, Err, refl, arith, sym, ap, subst, ◌∙◌, false}
use Rattle.std.proofs.lemmas.Bool.{false≢true}
use Rattle.std.proofs.lemmas.List.{append_assoc, append-nil, map-append, take_more}
use denote.Ref.{Bor}

-- a file without a document
pub no_document : {S : Type 0} (reads : S → List ℕ → Option (List ℕ) → S → Type 0) (a b : S) (path reason bytes text : List ℕ) (values : List Value)
    → reads a path (Some text) b → bytes ≡ without_mark text → documents bytes ≡ Some (map view values) → length values ≡ 0 → reason ≡ codes "no document"
    → IsUnread reads a path reason b
no_document reads a b path reason bytes text [] given same means none said = inr (inr (text, given, ap documents (sym same) ∙ means, said))
no_document reads a b path reason bytes text (v ∷ vs) given same means none said = absurd (omega arith)

-- no file was tried yet
pub none_tried : {S : Type 0} (reads : S → List ℕ → Option (List ℕ) → S → Type 0) (a : S) (found : List Document) (unusable : List Item) → found ≡ [] → unusable ≡ []
    → AreTried reads a [] [] [] (map document_view found) (map item_view unusable) a
unfolding AreTried
none_tried reads a found unusable f u = (ap (map document_view) (sym f), ap (map item_view) (sym u), refl)

-- one more file was tried
pub one_more_tried : {S : Type 0} (reads : S → List ℕ → Option (List ℕ) → S → Type 0) (a b c : S) (paths : List (List ℕ)) (path : List ℕ) (f g h : List Found) (u v w : List ItemData)
    → AreTried reads a paths f u g v b → IsTried reads b path g v h w c → AreTried reads a (paths ++ path ∷ []) f u h w c
unfolding AreTried
one_more_tried reads a b c [] path f g h u v w are last =
    let from = subst (λ s. IsTried reads s path g v h w c) (sym are.2) last in
    let of_found = subst (λ x. IsTried reads a path x v h w c) (sym are.0) from in
    (c, h, w, subst (λ x. IsTried reads a path f x h w c) (sym are.1) of_found, (refl, refl, refl))
one_more_tried reads a b c (first ∷ more) path f g h u v w are last = (are.0, are.1, are.2, are.3, one_more_tried reads are.0 b c more path are.1 g h are.2 v w are.4 last)

not_empty : {A : Type 0} (xs : List A) (x : A) → xs ++ x ∷ [] ≡ [] → ⊥
not_empty [] x e = absurd cc
not_empty (y ∷ ys) x e = absurd cc

none_before : {S : Type 0} (reads : S → List ℕ → Option (List ℕ) → S → Type 0) (a b : S) (path : List ℕ) (f g : List Found) (u v : List ItemData)
    → IsTried reads a path f u g v b → v ≡ [] → u ≡ []
none_before reads a b path f g u v (inl read) none = sym read.3 ∙ none
none_before reads a b path f g u v (inr unread) none = absurd (not_empty u (unusable_item path unread.0) (sym unread.3 ∙ none))

-- if all files are used in the end, all were so far
none_so_far : {S : Type 0} (reads : S → List ℕ → Option (List ℕ) → S → Type 0) (a b : S) (paths : List (List ℕ)) (f g : List Found) (u v : List ItemData)
    → AreTried reads a paths f u g v b → v ≡ [] → u ≡ []
unfolding AreTried
none_so_far reads a b [] f g u v are none = are.1 ∙ none
none_so_far reads a b (path ∷ paths) f g u v are none = none_before reads a are.0 path f are.1 u are.2 are.3 (none_so_far reads are.0 b paths are.1 g are.2 v are.4 none)

-- the documents of files that are all used
abbrev Finds : {S : Type 0} (reads : S → List ℕ → Option (List ℕ) → S → Type 0) → S → List (List ℕ) → List Found → List Found → S → Type 0
Finds reads a paths f g b = (found : List Found) × AreRead reads a paths found b × (g ≡ f ++ found)

one_found : {S : Type 0} (reads : S → List ℕ → Option (List ℕ) → S → Type 0) (a b c : S) (path : List ℕ) (paths : List (List ℕ)) (f g h : List Found) (u v : List ItemData)
    → IsTried reads a path f u g v b → v ≡ [] → Finds reads b paths g h c → Finds reads a (path ∷ paths) f h c
unfolding AreRead
one_found reads a b c path paths f g h u v (inl read) none rest =
    let all = with_indices path 0 read.0 in
    (all ++ rest.0, (b, read.0, rest.0, read.1, rest.1, refl), rest.2 ∙ ap (λ fs. fs ++ rest.0) read.2 ∙ append_assoc f all rest.0)
one_found reads a b c path paths f g h u v (inr unread) none rest = absurd (not_empty u (unusable_item path unread.0) (sym unread.3 ∙ none))

found_in : {S : Type 0} (reads : S → List ℕ → Option (List ℕ) → S → Type 0) (a b : S) (paths : List (List ℕ)) (f g : List Found) (u v : List ItemData)
    → AreTried reads a paths f u g v b → v ≡ [] → Finds reads a paths f g b
unfolding AreTried AreRead
found_in reads a b [] f g u v are none = ([], (refl, are.2), sym are.0 ∙ sym (append-nil f))
found_in reads a b (path ∷ paths) f g u v are none =
    one_found reads a are.0 b path paths f are.1 g u are.2 are.3 (none_so_far reads are.0 b paths are.1 g are.2 v are.4 none) (found_in reads are.0 b paths are.1 g are.2 v are.4 none)

pub none_are : (items : List ItemData) → are_none items ≡ true → items ≡ []
none_are [] none = refl
none_are (i ∷ is) none = absurd (false≢true none)

-- files that are all used were read
pub all_read : {S : Type 0} (reads : S → List ℕ → Option (List ℕ) → S → Type 0) (a b : S) (paths : List (List ℕ)) (found : List Found) (unusable : List ItemData)
    → AreTried reads a paths [] [] found unusable b → unusable ≡ [] → AreRead reads a paths found b
all_read reads a b paths found unusable are none =
    let all = found_in reads a b paths [] found [] unusable are none in
    subst (λ fs. AreRead reads a paths fs b) (sym all.2) all.1

some_unusable : (P : List ItemData → Type 0) (unusable : List ItemData) (o : Option (List ItemData)) → IfSome o (λ u. u ≡ unusable) → P unusable → IfSome o P
some_unusable P unusable None same p = tt
some_unusable P unusable (Some u) same p = subst P (sym same) p

-- what holds of files that aren't used holds of those for which a run stops
pub stops_for : {A : Type 0} (P : List ItemData → Type 0) (unusable : List ItemData) (r : Result A Stop) → IfErr r (λ stop. IfSome (unusable_of stop) (λ u. u ≡ unusable)) → P unusable
    → IfErr r (λ stop. IfSome (unusable_of stop) P)
stops_for P unusable (Ok v) same p = tt
stops_for P unusable (Err stop) same p = some_unusable P unusable (unusable_of stop) same p

-- one more document is appended
pub one_more_document : (file : List ℕ) (n : ℕ) (v : Value) (rest : List Data) (d : Document) (done after : List Document)
    → string_bytes d.file ≡ file → d.index ≡ n → d.value ≡ v → after ≡ done ++ d ∷ []
    → map document_view done ++ with_indices file n (view v ∷ rest) ≡ map document_view after ++ with_indices file (n + 1) rest
unfolding with_indices
one_more_document file n v rest d done after same_file same_index same_value pushed =
    let all = with_indices file (n + 1) rest in
    let same : document_view d ≡ record { file = file; index = n; is_item = false; value = view v } = rw (same_file, same_index, same_value) refl in
    ap (λ f. map document_view done ++ f ∷ all) (sym same)
    ∙ sym (append_assoc (map document_view done) (document_view d ∷ []) all)
    ∙ ap (λ fs. fs ++ all) (sym (ap (map document_view) pushed ∙ map-append document_view done (d ∷ [])))

-- no document remains
pub no_document_left : (file : List ℕ) (n : ℕ) (vs : List Value) (done : List Found) → length vs ≡ 0 → done ++ with_indices file n (map view vs) ≡ done
unfolding with_indices
no_document_left file n [] done e = append-nil done
no_document_left file n (v ∷ vs) done e = absurd (omega arith)

pub fewer_left : (xs ys : List Value) (v : Value) (m n : ℕ) → xs ≡ v ∷ ys → n + 1 ≡ m → m ≡ length xs → n ≡ length ys
fewer_left xs ys v m n e one all = let longer : length xs ≡ length ys + 1 = rw e (omega arith) in omega (arith, longer, one, all)

-- one more path
pub one_more_path : (paths : List (Bor (List ℕ))) (i : ℕ) (d : Bor (List ℕ)) → i < length paths
    → map (λ p. p.now) (take i paths) ++ (get_or paths i d).now ∷ [] ≡ map (λ p. p.now) (take (i + 1) paths)
one_more_path paths i d below = sym (ap (map (λ p. p.now)) (take_more paths i d below) ∙ map-append (λ p. p.now) (take i paths) (get_or paths i d ∷ []))
