-- Trusted by the headline.
-- The strings of a list joined into one (documentation of CEL-Go, "Strings": `join`). A list with
-- an item that isn't a string is an error.
use Rattle.std.specs.Prelude.{ℕ, List, [], ◌∷◌, ◌++◌, codes, map, option_map, Option, Some, None, Result, Ok, Err, Vec}
use Rattle.std.specs.Option.{option_map_or, option_zip}
use Rattle.std.specs.declared.alloc.Global.{Global}
use Rattle.cel_value.specs.Data.{Data, text}
use Rattle.cel_value.specs.Faults.{Fault, function_error}
use Rattle.cel_value.specs.Kinds.{kind_name}
use Rattle.cel_value.specs.Parts.{text_in, items_in}
use Rattle.cel_value.specs.View.{kind_of}
use Rattle.cel_value.specs.declared.kind.Kind.{Kind}
use Rattle.cel_semantics.specs.Outcome.{Outcome}
use Rattle.cel_semantics.specs.Ranges.{items_list}
use Rattle.kube_functions_strings.specs.Operands.{answer_with}
use Rattle.kube_functions_strings.specs.Pieces.{text_with_separators}
use denote.Ref.{Bor}

-- a text put before the others, unless they are an error
abbrev pub one_before : List ℕ → Result (List (List ℕ)) Kind → Result (List (List ℕ)) Kind
one_before t (Ok ts) = Ok (t ∷ ts)
one_before t (Err k) = Err k

-- the texts of the values, or the kind of the first value that isn't a string
abbrev pub texts_of : List Data → Result (List (List ℕ)) Kind
texts_of [] = Ok []
texts_of (d ∷ ds) = option_map_or (λ t. one_before t (texts_of ds)) (text_in d) (Err (kind_of d))

abbrev pub cannot_join : Kind → Fault
cannot_join k = function_error (codes "join") (codes "cannot join a value of kind " ++ kind_name k)

abbrev pub joined_or_fault : List ℕ → Result (List (List ℕ)) Kind → Outcome
joined_or_fault sep (Ok ts) = Ok (text (text_with_separators sep ts))
joined_or_fault sep (Err k) = Err (cannot_join k)

-- the separator, which is empty if the argument is absent
abbrev pub separator_in : Option Data → Option (List ℕ)
separator_in None = Some []
separator_in (Some v) = text_in v

-- the items of a list
abbrev pub listed_in : Data → Option (List Data)
listed_in v = option_map items_list (items_in v)

abbrev pub join : Data → Option Data → Outcome
join v s = answer_with (codes "join") (λ p. joined_or_fault p.1 (texts_of p.0))
    (option_zip (listed_in v) (separator_in s))

-- the texts that the items of a `Vec` borrow
abbrev pub texts_view : Result (Vec (Bor (List ℕ)) Global) Kind → Result (List (List ℕ)) Kind
texts_view (Ok v) = Ok (map (λ s. s.now) v.items)
texts_view (Err k) = Err k
