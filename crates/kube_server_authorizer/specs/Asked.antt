-- Trusted by the clauses of other library calls.
-- What is asked of an authorizer, and the answers that it has (Kubernetes documentation, "CEL in
-- Kubernetes", "Kubernetes authorizer library"). An authorizer is a map: its key `@authorizer` has the
-- list of answers, and what was asked so far are its attributes, by their names. An answer is a map of
-- attributes, too, with `allowed`, `reason` and `error`. An attribute that isn't there is the empty
-- text. No rule can write the value of an authorizer, since it is given from outside.
use Rattle.std.specs.Prelude.{ℕ, List, [], ◌∷◌, ◌++◌, length, codes, Bool, false, ◌==◌, ◌&&◌, Option, Some, None, is_some, if◌then◌else◌}
use Rattle.std.specs.List.{flat_map}
use Rattle.std.specs.Option.{option_map_or, unwrap_or}
use Rattle.std.specs.Str.{bytes_eq}
use Rattle.cel_value.specs.Data.{text_key, Data, list, map_of, Items, no_items, item, Entries}
use Rattle.cel_value.specs.Faults.{Fault, undeclared}
use Rattle.cel_value.specs.Find.{find}
use Rattle.cel_value.specs.Parts.{text_in}

-- the text of an attribute
abbrev pub text_at : List ℕ → Entries → List ℕ
text_at name es = option_map_or (λ v. unwrap_or (text_in v) []) (find (text_key name) es) []

abbrev pub is_there : List ℕ → Entries → Bool
is_there name es = is_some (find (text_key name) es)

-- ---- which answer it is

abbrev pub agree : List ℕ → Entries → Entries → Bool
agree name asked answer = bytes_eq (text_at name asked) (text_at name answer)

-- whether an answer is one to what was asked and this verb
abbrev pub agree_in_all : Entries → List ℕ → Entries → Bool
agree_in_all asked verb answer =
    bytes_eq verb (text_at (codes "verb") answer)
    && (agree (codes "path") asked answer && (agree (codes "serviceAccount") asked answer
    && (agree (codes "group") asked answer && (agree (codes "resource") asked answer
    && (agree (codes "subresource") asked answer && (agree (codes "namespace") asked answer
    && agree (codes "name") asked answer))))))

abbrev pub answers_to : Entries → List ℕ → Data → Bool
answers_to asked verb (map_of answer) = agree_in_all asked verb answer
answers_to asked verb _ = false

-- the first of the answers that is
abbrev pub first_answer : Entries → List ℕ → Items → Option Data
first_answer asked verb no_items = None
first_answer asked verb (item d ds) = if answers_to asked verb d then Some d else first_answer asked verb ds

abbrev pub answer_among : Data → Entries → List ℕ → Option Data
answer_among (list ds) asked verb = first_answer asked verb ds
answer_among _ asked verb = None

-- ---- what has no answer

-- an attribute, after a blank, unless it is empty
abbrev pub attribute_text : List ℕ → List ℕ → List ℕ
attribute_text name s = if length s == 0 then [] else 32 ∷ (name ++ (61 ∷ s))

-- the verb and the attributes that were asked
abbrev pub asked_words : Entries → List ℕ → List ℕ
asked_words asked verb =
    codes "authorizer" ++ (attribute_text (codes "verb") verb
    ++ flat_map (λ name. attribute_text name (text_at name asked))
    (codes "path" ∷ codes "serviceAccount" ∷ codes "group" ∷ codes "resource" ∷ codes "subresource"
    ∷ codes "namespace" ∷ codes "name" ∷ []))

-- the error of what has no answer: that of a name that isn't declared, which says what was asked
abbrev pub no_answer : Entries → List ℕ → Fault
no_answer asked verb = undeclared (asked_words asked verb)
