-- Trusted by the clauses of other library calls.
-- The answers to calls on an authorizer, on checks and on decisions (Kubernetes documentation, "CEL in
-- Kubernetes", "Kubernetes authorizer library"). An authorizer of which a path was asked is a check of
-- a path; one of which a group was asked is a check of a group, and then of a resource. A decision is a
-- map whose key `@decision` has the answer. Selectors aren't answered.
use Rattle.std.specs.Prelude.{ℕ, List, [], ◌∷◌, ◌++◌, length, codes, Bool, true, false, not, ◌==◌, ◌&&◌, ◌||◌, Option, Some, None, Ok, Err, if◌then◌else◌}
use Rattle.std.specs.Option.{option_and_then, option_map_or, unwrap_or}
use Rattle.cel_value.specs.Data.{text_key, Data, bool, text, map_of, Entries, no_entries, entry}
use Rattle.cel_value.specs.Faults.{Fault, undeclared, no_overload, duplicate_key}
use Rattle.cel_value.specs.Find.{find}
use Rattle.cel_value.specs.Parts.{bool_in, entries_in}
use Rattle.cel_semantics.specs.Members.{put_in}
use Rattle.cel_semantics.specs.Outcome.{Outcome}
use Rattle.kube_server_authorizer.specs.Asked.{text_at, is_there, answer_among, no_answer}

-- ---- what a map is

abbrev pub is_authorizer : Entries → Bool
is_authorizer es =
    is_there (codes "@authorizer") es && not (is_there (codes "path") es || is_there (codes "group") es)

abbrev pub is_group_check : Entries → Bool
is_group_check es = is_there (codes "group") es && not (is_there (codes "resource") es)

abbrev pub is_resource_check : Entries → Bool
is_resource_check es = is_there (codes "resource") es

abbrev pub is_check : Entries → Bool
is_check es = is_there (codes "path") es || is_there (codes "resource") es

-- ---- attributes

-- an attribute that is asked twice isn't answered
abbrev pub twice_limit : List ℕ → Fault
twice_limit name = undeclared (codes "authorizer with another " ++ name)

abbrev pub once : List ℕ → Outcome → Outcome
once name (Err duplicate_key) = Err (twice_limit name)
once name r = r

abbrev pub asked : Bool → List ℕ → Data → Data → Outcome
asked true name v (text s) = once name (put_in v (text name) (text s))
asked may_be name v w = Err (no_overload name)

-- a call that asks one attribute more, of a map that may be asked it
abbrev pub attribute : List ℕ → (Entries → Bool) → Data → Data → Outcome
attribute name may_be (map_of es) w = asked (may_be es) name (map_of es) w
attribute name may_be v w = Err (no_overload name)

abbrev pub path : Data → Data → Outcome
path = attribute (codes "path") is_authorizer

abbrev pub group : Data → Data → Outcome
group = attribute (codes "group") is_authorizer

abbrev pub resource : Data → Data → Outcome
resource = attribute (codes "resource") is_group_check

abbrev pub subresource : Data → Data → Outcome
subresource = attribute (codes "subresource") is_resource_check

abbrev pub namespace : Data → Data → Outcome
namespace = attribute (codes "namespace") is_resource_check

abbrev pub name : Data → Data → Outcome
name = attribute (codes "name") is_resource_check

-- a service account's namespace and name, with a colon between
abbrev pub account_text : List ℕ → List ℕ → List ℕ
account_text space account = space ++ (58 ∷ account)

abbrev pub service_account : Data → Data → Data → Outcome
service_account v (text space) (text account) =
    attribute (codes "serviceAccount") is_authorizer v (text (account_text space account))
service_account v w x = Err (no_overload (codes "serviceAccount"))

-- ---- decisions

abbrev pub decision : Data → Data
decision answer = map_of (entry (text_key (codes "@decision")) answer no_entries)

-- the decision on what was asked and this verb, by these answers
abbrev pub decided : Entries → List ℕ → Option Data → Outcome
decided asked verb answers =
    option_map_or (λ answer. Ok (decision answer))
    (option_map_or (λ ds. answer_among ds asked verb) answers None) (Err (no_answer asked verb))

unfoldable pub checked : Entries → List ℕ → Outcome
checked es verb =
    if is_check es then decided es verb (find (text_key (codes "@authorizer")) es)
    else Err (no_overload (codes "check"))

abbrev pub check_of : Entries → Data → Outcome
check_of es (text verb) = checked es verb
check_of es w = Err (no_overload (codes "check"))

abbrev pub check : Data → Data → Outcome
check (map_of es) w = check_of es w
check v w = Err (no_overload (codes "check"))

-- the answer behind a decision
abbrev pub answer_of : Data → Option Entries
answer_of (map_of es) = option_and_then entries_in (find (text_key (codes "@decision")) es)
answer_of v = None

abbrev pub is_allowed : Entries → Bool
is_allowed es = option_map_or (λ v. unwrap_or (bool_in v) false) (find (text_key (codes "allowed")) es) false

abbrev pub allowed : Data → Outcome
allowed v = option_map_or (λ es. Ok (bool (is_allowed es))) (answer_of v) (Err (no_overload (codes "allowed")))

abbrev pub reason : Data → Outcome
reason v = option_map_or (λ es. Ok (text (text_at (codes "reason") es))) (answer_of v)
    (Err (no_overload (codes "reason")))

abbrev pub error : Data → Outcome
error v = option_map_or (λ es. Ok (text (text_at (codes "error") es))) (answer_of v)
    (Err (no_overload (codes "error")))

abbrev pub errored : Data → Outcome
errored v = option_map_or (λ es. Ok (bool (not (length (text_at (codes "error") es) == 0)))) (answer_of v)
    (Err (no_overload (codes "errored")))
