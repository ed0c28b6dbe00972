-- Trusted by the headline.
-- The results of macros (CEL language definition, "Macros").
use Rattle.std.specs.Prelude.{ℕ, List, [], ◌∷◌, length, nat_eq, codes, Bool, true, false, Option, Some, None, option_map, Result, Ok, Err, if◌then◌else◌}
use Rattle.cel_syntax_ast.specs.declared.expr.MacroKind.{MacroKind}
use Rattle.cel_syntax_ast.specs.declared.expr.MacroKind.TheVariants.{All, Exists, ExistsOne, Map, Filter}
use Rattle.cel_value.specs.Data.{Data, bool, list}
use Rattle.cel_value.specs.Faults.{Fault, fault_view}
use Rattle.cel_value.specs.View.{view, items_of}
use Rattle.cel_value.specs.declared.error.ExecutionError.{ExecutionError}
use Rattle.cel_value.specs.declared.value.Value.{Value}
use Rattle.cel_semantics.specs.Decisions.{decision, truth}
use Rattle.cel_semantics.specs.Outcome.{Outcome, and_then}

abbrev pub macro_name : MacroKind → List ℕ
macro_name All = codes "all"
macro_name Exists = codes "exists"
macro_name ExistsOne = codes "exists_one"
macro_name Map = codes "map"
macro_name Filter = codes "filter"

-- what an item adds to the result: a value, nothing, or an error
abbrev pub IterationResult : Type 0
IterationResult = Result (Option Data) Fault

abbrev pub iteration_result_view : Result (Option Value) ExecutionError → IterationResult
iteration_result_view (Ok o) = Ok (option_map view o)
iteration_result_view (Err e) = Err (fault_view e)

-- the item, if the predicate is true
abbrev pub item_if : Data → Bool → Option Data
item_if d b = if b then Some d else None

-- the value of the body, if the filter keeps the item; otherwise the body is ignored
abbrev pub image_if : Outcome → Bool → IterationResult
image_if r b = if b then and_then r (λ v. Ok (Some v)) else Ok None

-- what an item adds, given the outcome of the body there; `filters` is the
-- outcome of the filter there, if the macro has one
abbrev pub iteration_result_of : MacroKind → Data → List Outcome → Outcome → IterationResult
iteration_result_of All d filters r = and_then (truth (codes "all") r) (λ b. Ok (item_if d b))
iteration_result_of Exists d filters r = and_then (truth (codes "exists") r) (λ b. Ok (item_if d b))
iteration_result_of ExistsOne d filters r = and_then (truth (codes "exists_one") r) (λ b. Ok (item_if d b))
iteration_result_of Filter d filters r = and_then (truth (codes "filter") r) (λ b. Ok (item_if d b))
iteration_result_of Map d [] r = and_then r (λ v. Ok (Some v))
iteration_result_of Map d (p ∷ ps) r = and_then (truth (codes "map") p) (image_if r)

-- the results with what one more item adds in front
abbrev pub with_result : Option Data → List Data → List Data
with_result None ds = ds
with_result (Some d) ds = d ∷ ds

-- what all items add, or the first error
abbrev pub all_results : List IterationResult → Result (List Data) Fault
all_results [] = Ok []
all_results (g ∷ gs) = and_then g (λ o. and_then (all_results gs) (λ ds. Ok (with_result o ds)))

-- the result of a macro from what its items added; `all` and `exists` don't use it
abbrev pub made_of : MacroKind → List Data → Outcome
made_of All ds = Ok (list (items_of ds))
made_of Exists ds = Ok (list (items_of ds))
made_of ExistsOne ds = Ok (bool (nat_eq (length ds) 1))
made_of Map ds = Ok (list (items_of ds))
made_of Filter ds = Ok (list (items_of ds))

-- the outcome of a macro, given the outcomes of its body at each item and what each item adds;
-- `all` and `exists` use all outcomes, the others stop at the first error
abbrev pub macro_of : MacroKind → List Outcome → List IterationResult → Outcome
macro_of All rs gs = decision false (codes "all") rs
macro_of Exists rs gs = decision true (codes "exists") rs
macro_of ExistsOne rs gs = and_then (all_results gs) (made_of ExistsOne)
macro_of Map rs gs = and_then (all_results gs) (made_of Map)
macro_of Filter rs gs = and_then (all_results gs) (made_of Filter)
