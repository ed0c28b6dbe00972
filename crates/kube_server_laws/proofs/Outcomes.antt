-- Outcomes of macros and conditions, by those of their parts.
use Rattle.std.proofs.Common.{◌≡◌, [], ◌∷◌, map, codes, Bool, true, Option, Some, None, Ok, Err, refl, ap, ◌∙◌, pos}
use Rattle.std.specs.Prelude.{is_some}
use Rattle.std.specs.Option.{option_map_or}
use Rattle.cel_value.specs.Data.{KeyData, Data, bool, int, list, map_of, no_items, item}
use Rattle.cel_value.specs.Faults.{no_key}
use Rattle.cel_value.specs.Find.{find, option_items}
use Rattle.cel_value.specs.View.{items_of}
use Rattle.cel_semantics.specs.Decisions.{truth, branch_outcome}
use Rattle.cel_semantics.specs.Macros.{macro_name, macro_of, iteration_result_of, all_results, made_of}
use Rattle.cel_semantics.specs.Meaning.{strictly}
use Rattle.cel_semantics.specs.Members.{selection, has_member, index_outcome}
use Rattle.cel_semantics.specs.Outcome.{Outcome, and_then, all_values}
use Rattle.cel_semantics.specs.Ranges.{range_of}
use Rattle.cel_syntax_ast.specs.declared.expr.MacroKind.{MacroKind}
use Rattle.cel_syntax_ast.specs.declared.expr.MacroKind.TheVariants.{Map, Exists}

-- ---- conditions

pub condition : (c d r s : Outcome) → c ≡ d → branch_outcome (truth (codes "?:") c) r s ≡ branch_outcome (truth (codes "?:") d) r s
condition c d r s h = ap (λ z. branch_outcome (truth (codes "?:") z) r s) h

-- ---- macros

-- the outcome of a macro without a filter, given the outcomes of its range and, at an item, of its body
abbrev pub over : MacroKind → (Data → Outcome) → Outcome → Outcome
over kind body r =
    and_then r (λ v. and_then (range_of (macro_name kind) v)
    (λ items. macro_of kind (map body items) (map (λ d. iteration_result_of kind d [] (body d)) items)))

-- of one with a filter
abbrev pub filtered : (Data → Outcome) → (Data → Outcome) → Outcome → Outcome
filtered filter body r =
    and_then r (λ v. and_then (range_of (codes "map") v)
    (λ items. macro_of Map (map body items) (map (λ d. iteration_result_of Map d (filter d ∷ []) (body d)) items)))

abbrev pub alone : Outcome → Outcome
alone r = and_then (all_values (r ∷ [])) (λ vs. Ok (list (items_of vs)))

-- the list of what is held
abbrev pub listed_item : Outcome → Outcome
listed_item r = and_then r (λ v. Ok (list (item v no_items)))

pub alone_listed : (r : Outcome) → alone r ≡ listed_item r
alone_listed (Ok v) = refl
alone_listed (Err e) = refl

one_image : (v : Data) (r : Outcome) → and_then (all_results (iteration_result_of Map v [] r ∷ [])) (made_of Map) ≡ listed_item r
one_image v (Ok w) = refl
one_image v (Err e) = refl

pub over_one : (body : Data → Outcome) (v : Data) → over Map body (Ok (list (item v no_items))) ≡ listed_item (body v)
over_one body v = one_image v (body v)

first_of_one : (r : Outcome) → strictly index_outcome (listed_item r) (Ok (int (pos 0))) ≡ r
first_of_one (Ok w) = refl
first_of_one (Err e) = refl

-- a value with a name
pub named : (e : Outcome) (body : Data → Outcome) → strictly index_outcome (over Map body (alone e)) (Ok (int (pos 0))) ≡ and_then e body
named (Err a) body = refl
named (Ok v) body = ap (λ z. strictly index_outcome z (Ok (int (pos 0)))) (one_image v (body v)) ∙ first_of_one (body v)

-- whether a list of at most one item has one
pub is_held_of : (o : Option Data) → over Exists (λ d. Ok (bool true)) (Ok (list (option_items o))) ≡ Ok (bool (is_some o))
is_held_of None = refl
is_held_of (Some v) = refl

-- the item, or else another outcome
pub held_or : (o : Option Data) (other : Outcome)
    → branch_outcome (truth (codes "?:") (over Exists (λ d. Ok (bool true)) (Ok (list (option_items o)))))
    (strictly index_outcome (Ok (list (option_items o))) (Ok (int (pos 0)))) other ≡ option_map_or Ok o other
held_or None other = refl
held_or (Some v) other = refl

-- ---- members

abbrev pub truth_of : Bool → Outcome
truth_of b = Ok (bool b)

found : (k : KeyData) (o : Option Data) (d : Data) → option_map_or Ok o (Err (no_key k)) ≡ Ok d → truth_of (is_some o) ≡ truth_of true
found k (Some e) d h = refl
found k None d h = cc

member_found : (k : KeyData) (v d : Data) → selection k v ≡ Ok d → has_member k v ≡ Ok (bool true)
member_found k (map_of es) d h = found k (find k es) d h
member_found k v d h = cc

-- what has been selected is there
pub selected_is_there : (k : KeyData) (r : Outcome) (d : Data) → and_then r (λ v. selection k v) ≡ Ok d → and_then r (λ v. has_member k v) ≡ Ok (bool true)
selected_is_there k (Ok v) d h = member_found k v d h
selected_is_there k (Err e) d h = cc
