-- Trusted by the clauses of manifests.
-- The candidate findings of one node of a rule's tree: calls that can't work, and refused literals.
-- Source: Kubernetes documentation, "CEL in Kubernetes"; the functions are those of
-- `kube_functions`; that doubles are refused is this project's own decision.
use Rattle.std.specs.Prelude.{ℕ, List, [], ◌∷◌, ◌++◌, length, Bool, true, false, Option, Some, None, is_some, if◌then◌else◌, codes, decimal, string_bytes}
use Rattle.std.specs.List.{list_any, slice_get}
use Rattle.std.specs.Option.{option_and_then}
use Rattle.std.specs.Str.{bytes_eq}
use Rattle.cel.specs.Form.{Form}
use Rattle.cel.specs.Form.TheVariants.{Unknown, Wrong, Known}
use Rattle.cel_syntax.specs.Term.{Term, literal, ident, call, qualified, Terms, no_terms, term_and}
use Rattle.cel_value.specs.Data.{Data}
use Rattle.cel_value.specs.Parts.{text_in}
use Rattle.cel_value.specs.Same.{has_double}
use Rattle.kube_functions.specs.Kube.{all_library}
use Rattle.kube_manifests_review.specs.Candidates.{Candidate, When, always, refused, fails}
use Rattle.kube_manifests_review.specs.Features.{doubles_text, is_lacked, lacking_text}
use Rattle.kube_manifests_review.specs.declared.finding.ReviewKind.{ReviewKind}
use Rattle.kube_manifests_review.specs.declared.finding.ReviewKind.TheVariants as kind
use Rattle.kube_manifests_review.specs.declared.text.Text as code

-- an expression of a rule: its pointer into the document, the rule's own source, and whether it is
-- the rule's messageExpression
pub record Text : Type 0 where
  pub pointer : List ℕ
  pub rule : List ℕ
  pub is_message : Bool

abbrev pub text_view : code.Text → Text
text_view t = record { pointer = t.pointer.now; rule = string_bytes t.rule.now.value; is_message = t.is_message }

-- a candidate finding of an expression of a rule
abbrev pub text_candidate : Text → ReviewKind → List ℕ → When → Candidate
text_candidate t k m w = record {
  finding = record { pointer = t.pointer; rule = t.rule; kind = k; message = m };
  when = w;
}

-- ---- the parts of a call

-- the string of a string literal
abbrev pub literal_text : Term → Option (List ℕ)
literal_text (literal v) = text_in v
literal_text _ = None

-- the string literal that is the only argument of a call without a receiver
abbrev pub only_text : Option Term → List Term → Option (List ℕ)
only_text None (t ∷ []) = literal_text t
only_text None [] = None
only_text None (t ∷ u ∷ ts) = None
only_text (Some r) ts = None

-- the string literal that is the second operand of a call, counting the receiver as the first
abbrev pub second_text : Option Term → List Term → Option (List ℕ)
second_text (Some r) ts = option_and_then literal_text (slice_get ts 0)
second_text None ts = option_and_then literal_text (slice_get ts 1)

abbrev pub is_old_self : Option Term → Bool
is_old_self (Some (ident x)) = bytes_eq x (codes "oldSelf")
is_old_self _ = false

-- the functions whose second operand is a pattern
unfoldable pub takes_pattern : List ℕ → Bool
takes_pattern name = list_any (bytes_eq name) (codes "matches" ∷ codes "find" ∷ codes "findAll" ∷ [])

-- the methods of optionals
unfoldable pub asks_optional : List ℕ → Bool
asks_optional name = list_any (bytes_eq name) (codes "hasValue" ∷ codes "value" ∷ [])

-- ---- the candidate findings of a call

abbrev pub unknown_text : List ℕ → List ℕ
unknown_text name = codes "function '" ++ (name ++ codes "' is unknown")

abbrev pub wrong_text : List ℕ → Bool → ℕ → List ℕ
wrong_text name true n =
    codes "function '" ++ (name
    ++ (codes "' can't be called with a receiver and this number of arguments: " ++ decimal n))
wrong_text name false n =
    codes "function '" ++ (name
    ++ (codes "' can't be called without a receiver and with this number of arguments: " ++ decimal n))

abbrev pub old_self_text : List ℕ → List ℕ
old_self_text name = codes "'oldSelf' isn't an optional here: " ++ (name ++ codes "() always fails")

abbrev pub fails_text : List ℕ → List ℕ → List ℕ
fails_text name s = name ++ (codes "('" ++ (s ++ codes "') always fails"))

abbrev pub pattern_text : List ℕ → List ℕ
pattern_text p = codes "pattern '" ++ (p ++ codes "' can't be compiled")

abbrev pub old_self_candidates : Text → Option Term → List ℕ → List Candidate
old_self_candidates t r name =
    if asks_optional name
    then (if is_old_self r then text_candidate t kind.Unsupported (old_self_text name) always ∷ [] else [])
    else []

abbrev pub fails_candidates : Text → List ℕ → Option (List ℕ) → List Candidate
fails_candidates t name None = []
fails_candidates t name (Some s) = text_candidate t kind.Literal (fails_text name s) (fails name s) ∷ []

abbrev pub refused_candidates : Text → Option (List ℕ) → List Candidate
refused_candidates t None = []
refused_candidates t (Some p) = text_candidate t kind.Pattern (pattern_text p) (refused p) ∷ []

abbrev pub pattern_candidates : Text → Option Term → List ℕ → List Term → List Candidate
pattern_candidates t r name ts = if takes_pattern name then refused_candidates t (second_text r ts) else []

-- the candidates of a call in a known form
abbrev pub known_candidates : Text → Option Term → List ℕ → List Term → List Candidate
known_candidates t r name ts =
    old_self_candidates t r name
    ++ (fails_candidates t name (only_text r ts) ++ pattern_candidates t r name ts)

-- the linter reports unknown functions, but not those that a messageExpression calls; those that this
-- project lacks are reported here
abbrev pub unknown_candidates : Text → List ℕ → List Candidate
unknown_candidates t name =
    if is_lacked name then text_candidate t kind.Unsupported (lacking_text name) always ∷ []
    else if t.is_message then text_candidate t kind.Call (unknown_text name) always ∷ [] else []

abbrev pub form_candidates : Form → Text → Option Term → List ℕ → List Term → List Candidate
form_candidates Unknown t r name ts = unknown_candidates t name
form_candidates Wrong t r name ts =
    text_candidate t kind.Call (wrong_text name (is_some r) (length ts)) always ∷ []
form_candidates Known t r name ts = known_candidates t r name ts

abbrev pub call_candidates : Text → Option Term → List ℕ → List Term → List Candidate
call_candidates t r name ts = form_candidates (all_library.form_of name (is_some r) (length ts)) t r name ts

-- ---- the candidate findings of a node

abbrev pub literal_candidates : Text → Data → List Candidate
literal_candidates t v = if has_double v then text_candidate t kind.Unsupported doubles_text always ∷ [] else []

abbrev pub first_term : Terms → Option Term
first_term no_terms = None
first_term (term_and t ts) = Some t

abbrev pub terms_in : Terms → List Term
terms_in no_terms = []
terms_in (term_and t ts) = t ∷ terms_in ts

abbrev pub node_candidates : Text → Term → List Candidate
node_candidates t (literal v) = literal_candidates t v
node_candidates t (call r x ts) = call_candidates t (first_term r) x (terms_in ts)
node_candidates t (qualified x ts) = call_candidates t None x (terms_in ts)
node_candidates t _ = []
