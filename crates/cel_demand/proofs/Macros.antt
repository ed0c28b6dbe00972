-- The results of macros over items that are alike.
use Rattle.std.proofs.Common.{◌≡◌, ℕ, List, [], ◌∷◌, map, length, nat_eq, codes, Bool, true, false, Option, Some, None, Result, Ok, Err, refl, ap, sym, suc, subst, inl, inr}
use Rattle.cel_semantics.specs.Decisions.{decision, truth}
use Rattle.cel_semantics.specs.Macros.{macro_name, IterationResult, item_if, image_if, iteration_result_of, with_result, all_results, made_of, macro_of}
use Rattle.cel_semantics.specs.Outcome.{Outcome, and_then}
use Rattle.cel_semantics.specs.Ranges.{items_list, range_of}
use Rattle.cel_syntax_ast.specs.declared.expr.MacroKind.{MacroKind}
use Rattle.cel_syntax_ast.specs.declared.expr.MacroKind.TheVariants.{All, Exists, ExistsOne, Map, Filter}
use Rattle.cel_value.specs.Data.{Data, bool, list}
use Rattle.cel_value.specs.Faults.{Fault}
use Rattle.cel_value.specs.View.{items_of}
use Rattle.cel_demand.specs.Alike.{OptionsAlike, ListsAlike, Alike}
use Rattle.cel_demand.specs.Part.{Part, nothing, whole, each_item, some_members, in_items}
use Rattle.cel_demand.specs.Reads.{kept_part, body_part}
use Rattle.cel_demand.proofs.Results.{ResultsAlike, results_equal, whole_results, results_then, range_alike, images_alike, lists_equal}

-- the part that is read of what an item adds to the result
abbrev result_part : MacroKind → Part → Part
result_part All p = nothing
result_part Exists p = nothing
result_part ExistsOne p = nothing
result_part Map p = in_items p
result_part Filter p = in_items p

abbrev IterationResultsAlike : (Data → Data → Type 0) → IterationResult → IterationResult → Type 0
IterationResultsAlike R = ResultsAlike (OptionsAlike R)

item_if_alike : (R : Data → Data → Type 0) (v w : Data) → R v w → (t : Result Bool Fault) → IterationResultsAlike R (and_then t (λ b. Ok (item_if v b))) (and_then t (λ b. Ok (item_if w b)))
item_if_alike R v w h (Ok true) = h
item_if_alike R v w h (Ok false) = tt
item_if_alike R v w h (Err a) = refl

item_if_by : (R : Data → Data → Type 0) (v w : Data) → R v w → (name : List ℕ) (r s : Outcome) → ResultsAlike (Alike whole) r s → IterationResultsAlike R (and_then (truth name r) (λ b. Ok (item_if v b))) (and_then (truth name s) (λ b. Ok (item_if w b)))
item_if_by R v w h name r s k = subst (λ z. IterationResultsAlike R (and_then (truth name r) (λ b. Ok (item_if v b))) (and_then (truth name z) (λ b. Ok (item_if w b)))) (whole_results r s k) (item_if_alike R v w h (truth name r))

image_alike : (R : Data → Data → Type 0) (r s : Outcome) → ResultsAlike R r s → IterationResultsAlike R (and_then r (λ v. Ok (Some v))) (and_then s (λ v. Ok (Some v)))
image_alike R r s k = results_then R (OptionsAlike R) (λ v. Ok (Some v)) (λ v. Ok (Some v)) (λ v w h. h) r s k

image_by : (R : Data → Data → Type 0) (r s : Outcome) → ResultsAlike R r s → (t : Result Bool Fault) → IterationResultsAlike R (and_then t (image_if r)) (and_then t (image_if s))
image_by R r s k (Ok true) = image_alike R r s k
image_by R r s k (Ok false) = tt
image_by R r s k (Err a) = refl

iteration_result_alike : (kind : MacroKind) (p : Part) (v w : Data) (filters : List Outcome) (r s : Outcome) → Alike (kept_part kind p) v w → ResultsAlike (Alike (body_part kind p)) r s → IterationResultsAlike (Alike (result_part kind p)) (iteration_result_of kind v filters r) (iteration_result_of kind w filters s)
iteration_result_alike All p v w filters r s h k = item_if_by (Alike nothing) v w h (codes "all") r s k
iteration_result_alike Exists p v w filters r s h k = item_if_by (Alike nothing) v w h (codes "exists") r s k
iteration_result_alike ExistsOne p v w filters r s h k = item_if_by (Alike nothing) v w h (codes "exists_one") r s k
iteration_result_alike Filter p v w filters r s h k = item_if_by (Alike (in_items p)) v w h (codes "filter") r s k
iteration_result_alike Map p v w [] r s h k = image_alike (Alike (in_items p)) r s k
iteration_result_alike Map p v w (t ∷ ts) r s h k = image_by (Alike (in_items p)) r s k (truth (codes "map") t)

with_result_alike : (R : Data → Data → Type 0) (o q : Option Data) → OptionsAlike R o q → (vs ws : List Data) → ListsAlike R vs ws → ListsAlike R (with_result o vs) (with_result q ws)
with_result_alike R None None h vs ws k = k
with_result_alike R None (Some w) h vs ws k = absurd h
with_result_alike R (Some v) None h vs ws k = absurd h
with_result_alike R (Some v) (Some w) h vs ws k = (h, k)

all_results_alike : (R : Data → Data → Type 0) (gs hs : List IterationResult) → ListsAlike (IterationResultsAlike R) gs hs → ResultsAlike (ListsAlike R) (all_results gs) (all_results hs)
all_results_alike R [] [] k = tt
all_results_alike R [] (h ∷ hs) k = absurd k
all_results_alike R (g ∷ gs) [] k = absurd k
all_results_alike R (g ∷ gs) (h ∷ hs) k = results_then (OptionsAlike R) (ListsAlike R) (λ o. and_then (all_results gs) (λ vs. Ok (with_result o vs))) (λ q. and_then (all_results hs) (λ ws. Ok (with_result q ws)))
    (λ o q a. results_then (ListsAlike R) (ListsAlike R) (λ vs. Ok (with_result o vs)) (λ ws. Ok (with_result q ws)) (λ vs ws b. with_result_alike R o q a vs ws b) (all_results gs) (all_results hs) (all_results_alike R gs hs k.1))
    g h k.0

same_length : {A : Type 0} (R : A → A → Type 0) (vs ws : List A) → ListsAlike R vs ws → length vs ≡ length ws
same_length R [] [] h = refl
same_length R [] (w ∷ ws) h = absurd h
same_length R (v ∷ vs) [] h = absurd h
same_length R (v ∷ vs) (w ∷ ws) h = ap suc (same_length R vs ws h.1)

listed_again : (vs : List Data) → items_list (items_of vs) ≡ vs
listed_again [] = refl
listed_again (v ∷ vs) = ap (λ z. v ∷ z) (listed_again vs)

-- a list of items that are alike
pub list_alike : (p : Part) (vs ws : List Data) → ListsAlike (Alike (in_items p)) vs ws → Alike p (list (items_of vs)) (list (items_of ws))
list_alike nothing vs ws h = tt
list_alike whole vs ws h = ap (λ z. list (items_of z)) (lists_equal (Alike whole) (λ v w e. e) vs ws h)
list_alike (each_item p) vs ws h = inr (subst (λ z. ListsAlike (Alike p) z (items_list (items_of ws))) (sym (listed_again vs)) (subst (λ z. ListsAlike (Alike p) vs z) (sym (listed_again ws)) h))
list_alike (some_members ms) vs ws h = inl (ap (λ z. list (items_of z)) (lists_equal (Alike whole) (λ v w e. e) vs ws h))

decision_alike : (b : Bool) (name : List ℕ) (p : Part) (rs ss : List Outcome) → ListsAlike (ResultsAlike (Alike whole)) rs ss → ResultsAlike (Alike p) (decision b name rs) (decision b name ss)
decision_alike b name p rs ss h = results_equal p (decision b name rs) (decision b name ss) (ap (decision b name) (lists_equal (ResultsAlike (Alike whole)) whole_results rs ss h))

made_alike : (p : Part) (gs hs : List IterationResult) → ListsAlike (IterationResultsAlike (Alike (in_items p))) gs hs → ResultsAlike (Alike p) (and_then (all_results gs) (λ vs. Ok (list (items_of vs)))) (and_then (all_results hs) (λ vs. Ok (list (items_of vs))))
made_alike p gs hs h = results_then (ListsAlike (Alike (in_items p))) (Alike p) (λ vs. Ok (list (items_of vs))) (λ vs. Ok (list (items_of vs))) (list_alike p) (all_results gs) (all_results hs) (all_results_alike (Alike (in_items p)) gs hs h)

one_alike : (p : Part) (gs hs : List IterationResult) → ListsAlike (IterationResultsAlike (Alike nothing)) gs hs → ResultsAlike (Alike p) (and_then (all_results gs) (made_of ExistsOne)) (and_then (all_results hs) (made_of ExistsOne))
one_alike p gs hs h = results_then (ListsAlike (Alike nothing)) (Alike p) (made_of ExistsOne) (made_of ExistsOne)
    (λ vs ws k. results_equal p (made_of ExistsOne vs) (made_of ExistsOne ws) (ap (λ n. Ok (bool (nat_eq n 1))) (same_length (Alike nothing) vs ws k))) (all_results gs) (all_results hs) (all_results_alike (Alike nothing) gs hs h)

macro_alike : (kind : MacroKind) (p : Part) (rs ss : List Outcome) (gs hs : List IterationResult) → ListsAlike (ResultsAlike (Alike (body_part kind p))) rs ss → ListsAlike (IterationResultsAlike (Alike (result_part kind p))) gs hs → ResultsAlike (Alike p) (macro_of kind rs gs) (macro_of kind ss hs)
macro_alike All p rs ss gs hs h k = decision_alike false (codes "all") p rs ss h
macro_alike Exists p rs ss gs hs h k = decision_alike true (codes "exists") p rs ss h
macro_alike ExistsOne p rs ss gs hs h k = one_alike p gs hs k
macro_alike Map p rs ss gs hs h k = made_alike p gs hs k
macro_alike Filter p rs ss gs hs h k = made_alike p gs hs k

-- the result of a macro over its items
abbrev made_over : MacroKind → (Data → Outcome) → (Data → List Outcome) → List Data → Outcome
made_over kind body filter items = macro_of kind (map body items) (map (λ d. iteration_result_of kind d (filter d) (body d)) items)

iteration_results_over : (kind : MacroKind) (p q : Part) (body_e body_f : Data → Outcome) (filter_e filter_f : Data → List Outcome)
    → ((v w : Data) → Alike q v w → ResultsAlike (Alike (body_part kind p)) (body_e v) (body_f w))
    → ((v w : Data) → Alike q v w → filter_e v ≡ filter_f w)
    → ((v w : Data) → Alike q v w → Alike (kept_part kind p) v w)
    → (v w : Data) → Alike q v w → IterationResultsAlike (Alike (result_part kind p)) (iteration_result_of kind v (filter_e v) (body_e v)) (iteration_result_of kind w (filter_f w) (body_f w))
iteration_results_over kind p q body_e body_f filter_e filter_f bodies filters keeps v w a =
    subst (λ z. IterationResultsAlike (Alike (result_part kind p)) (iteration_result_of kind v (filter_e v) (body_e v)) (iteration_result_of kind w z (body_f w))) (filters v w a)
    (iteration_result_alike kind p v w (filter_e v) (body_e v) (body_f w) (keeps v w a) (bodies v w a))

-- over items that are alike in what filter and body read and in what is kept
pub made_over_alike : (kind : MacroKind) (p q : Part) (body_e body_f : Data → Outcome) (filter_e filter_f : Data → List Outcome)
    → ((v w : Data) → Alike q v w → ResultsAlike (Alike (body_part kind p)) (body_e v) (body_f w))
    → ((v w : Data) → Alike q v w → filter_e v ≡ filter_f w)
    → ((v w : Data) → Alike q v w → Alike (kept_part kind p) v w)
    → (r s : Outcome) → ResultsAlike (Alike (each_item q)) r s
    → ResultsAlike (Alike p) (and_then r (λ v. and_then (range_of (macro_name kind) v) (made_over kind body_e filter_e)))
    (and_then s (λ v. and_then (range_of (macro_name kind) v) (made_over kind body_f filter_f)))
made_over_alike kind p q body_e body_f filter_e filter_f bodies filters keeps r s h =
    results_then (Alike (each_item q)) (Alike p) (λ v. and_then (range_of (macro_name kind) v) (made_over kind body_e filter_e)) (λ v. and_then (range_of (macro_name kind) v) (made_over kind body_f filter_f))
    (λ v w a. results_then (ListsAlike (Alike q)) (Alike p) (made_over kind body_e filter_e) (made_over kind body_f filter_f)
    (λ vs ws b. macro_alike kind p (map body_e vs) (map body_f ws) (map (λ d. iteration_result_of kind d (filter_e d) (body_e d)) vs) (map (λ d. iteration_result_of kind d (filter_f d) (body_f d)) ws)
    (images_alike (Alike q) (ResultsAlike (Alike (body_part kind p))) body_e body_f bodies vs ws b)
    (images_alike (Alike q) (IterationResultsAlike (Alike (result_part kind p))) (λ d. iteration_result_of kind d (filter_e d) (body_e d)) (λ d. iteration_result_of kind d (filter_f d) (body_f d))
    (iteration_results_over kind p q body_e body_f filter_e filter_f bodies filters keeps) vs ws b))
    (range_of (macro_name kind) v) (range_of (macro_name kind) w) (range_alike (macro_name kind) q v w a))
    r s h
