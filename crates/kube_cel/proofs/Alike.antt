-- A schema and its tree have the same answer.
use Rattle.cel.specs.Book.{Book}
use Rattle.kube_cel.specs.Compiled.{compiled_accessors}
use Rattle.kube_cel.specs.Raw.{raw_accessors}
use Rattle.kube_cel.specs.Starts.{compiled_start, with_schema_defaults, source_start}
use Rattle.kube_cel_walk.specs.RuleErrors.{too_deep}
use Rattle.kube_schema_rules.proofs.Candidates.{CountsAll}
use Rattle.kube_schema.specs.Visit.{Visit, Root, root_visit}
use Rattle.kube_cel.proofs.Counted.{compiled_counts_all}
use Rattle.kube_cel.proofs.Same.{tree_answers}
use Rattle.kube_cel.specs.Visits.{with_node_of}
use Rattle.kube_cel_walk.specs.declared.root.RootContext.{RootContext}
use Rattle.kube_cel_walk.specs.Roots.{root_view}
use Rattle.kube_cel_walk.specs.Verdicts.{list_of_option, optional_old_at, verdict, with_old, with_root}
use Rattle.kube_cel_walk.specs.Answers.{bound_at, place_bindings, rule_verdicts, verdicts, answer}
use Rattle.kube_schema.specs.Conversion.{to_cel}
use Rattle.kube_schema.specs.Conversion as accessors
use Rattle.kube_schema.specs.Defaults.{defaulted_value}
use Rattle.cel.specs.Bindings.{Bindings}
use Rattle.kube_schema_rules.proofs.Found.{flat_map_same}
use Rattle.kube_schema.specs.Compilation.{Compiled, Malformed, compiled_rules}
use Rattle.kube_schema.specs.Rules.{rule_items}
use Rattle.kube_schema.proofs.SameDefaults.{filled_same}
use Rattle.kube_schema.specs.CompiledDefaults as tree_fill
use Rattle.kube_schema.specs.declared.node.CompiledSchema.{CompiledSchema}
use Rattle.kube_schema.specs.declared.node_keywords.NodeKeywords.{Ghosts}
use Rattle.kube_schema.specs.Shown.{whole}
use Rattle.kube_schema.specs.Tree.{Node}
use Rattle.kube_schema.specs.View.{view_of, own_view, children_view}
use Rattle.kube_schema.proofs.SameBinding.{bound_same}
use Rattle.kube_schema.specs.CompiledConversion as tree_conversion
use Rattle.serde_json.specs.Data.{Data}
use Rattle.serde_json.specs.declared.value.Value.{Value}
use Rattle.serde_json.specs.View.{view}
use Rattle.std.proofs.Common.{Bor, ◌≡◌, ◌+◌, ◌-◌, ◌==◌, ℕ, zero, suc, [], ◌∷◌, true, Option, Some, None, option_map, Result, Ok, Err, codes, if◌then◌else◌, refl, sym, ap, ◌∙◌, arith}
use Rattle.std.proofs.lemmas.Bool.Decides.{nat_tests}
use Rattle.std.specs.List.{flat_map}

pub compiled_accessors_counts_all : CountsAll compiled_accessors.steps
unfolding compiled_accessors
compiled_accessors_counts_all = compiled_counts_all

-- ---- bindings

bound_alike : (n : ℕ) (s : Visit Data) (value : Data) → s.depth + n ≡ 65 → bound_at raw_accessors s value ≡ bound_at compiled_accessors (with_node_of (view_of n) s) value
unfolding raw_accessors compiled_accessors
bound_alike n s value e =
    let levels : 65 - s.depth ≡ n = omega (arith, e) in
    ap (λ m. to_cel accessors.raw m s.node value) levels ∙ bound_same n s.node value ∙ sym (ap (λ m. to_cel tree_conversion.tree_accessors m (view_of n s.node) value) levels)

old_alike : (n : ℕ) (s : Visit Data) (old : Option Data) → s.depth + n ≡ 65 → option_map (bound_at raw_accessors s) old ≡ option_map (bound_at compiled_accessors (with_node_of (view_of n) s)) old
old_alike n s None e = refl
old_alike n s (Some old) e = ap Some (bound_alike n s old e)

bindings_alike : (n : ℕ) (s : Visit Data) → s.depth + n ≡ 65 → place_bindings raw_accessors s ≡ place_bindings compiled_accessors (with_node_of (view_of n) s)
unfolding place_bindings
bindings_alike n s e = λ i. with_root s.root (with_old (old_alike n s s.old e i) ((codes "self", bound_alike n s s.value e i) ∷ []))

-- ---- errors

-- one rule
same_verdict : (b : Book) (n : ℕ) (s : Visit Data) (e : Bindings) (r : Result Compiled Malformed) → verdict raw_accessors b e s r ≡ verdict compiled_accessors b e (with_node_of (view_of n) s) r
unfolding verdict raw_accessors compiled_accessors optional_old_at
same_verdict b n s e (Err m) = refl
same_verdict b n s e (Ok c) = refl

deep_alike : (b : Book) (s : Visit Data) (t : Visit Node) → s.path ≡ t.path → (s.depth == 65) ≡ true → (t.depth == 65) ≡ true → verdicts raw_accessors b s ≡ verdicts compiled_accessors b t
unfolding verdicts raw_accessors compiled_accessors
deep_alike b s t p d e =
    ap (λ d. if d then too_deep s.path ∷ [] else rule_verdicts raw_accessors b (place_bindings raw_accessors s) s) d
    ∙ ap (λ p. too_deep p ∷ []) p
    ∙ sym (ap (λ d. if d then too_deep t.path ∷ [] else rule_verdicts compiled_accessors b (place_bindings compiled_accessors t) t) e)

rules_alike : (n : ℕ) (b : Book) (s : Visit Data) → s.depth + suc n ≡ 65 → rule_verdicts raw_accessors b (place_bindings raw_accessors s) s
    ≡ rule_verdicts compiled_accessors b (place_bindings compiled_accessors (with_node_of (view_of (suc n)) s)) (with_node_of (view_of (suc n)) s)
unfolding rule_verdicts raw_accessors compiled_accessors view_of children_view own_view
rules_alike n b s e =
    let t = with_node_of (view_of (suc n)) s in
    let bindings = place_bindings compiled_accessors t in
    (λ i. flat_map (λ r. list_of_option (verdict raw_accessors b (bindings_alike (suc n) s e i) s r)) (compiled_rules (rule_items s.node)))
    ∙ flat_map_same (λ r. list_of_option (verdict raw_accessors b bindings s r)) (λ r. list_of_option (verdict compiled_accessors b bindings t r)) (λ r. ap list_of_option (same_verdict b (suc n) s bindings r)) (compiled_rules (rule_items s.node))

verdicts_alike : (b : Book) (n : ℕ) (s : Visit Data) → s.depth + n ≡ 65 → verdicts raw_accessors b s ≡ verdicts compiled_accessors b (with_node_of (view_of n) s)
unfolding verdicts raw_accessors compiled_accessors
verdicts_alike b zero s e =
    let d : (s.depth == 65) ≡ true = grind (arith, nat_tests, e) in
    deep_alike b s (with_node_of (view_of 0) s) refl d d
verdicts_alike b (suc n) s e = ap (λ vs. if s.depth == 65 then too_deep s.path ∷ [] else vs) (rules_alike n b s e)

-- the errors at all places of a schema are those at all places of its tree
pub answered_alike : (b : Book) (schema value : Data) (old : Option Data) (root : Option Root)
    → answer raw_accessors b 65 (root_visit schema value old root) ≡ answer compiled_accessors b 65 (root_visit (view_of 65 schema) value old root)
unfolding answer raw_accessors compiled_accessors
answered_alike b schema value old root = tree_answers (verdicts raw_accessors b) (verdicts compiled_accessors b) 65 (verdicts_alike b) 65 (root_visit schema value old root) refl

-- ---- defaults

defaults_alike : (schema : Data) (old : Option Data) → option_map (with_schema_defaults schema) old ≡ option_map (defaulted_value tree_fill.tree_accessors 65 (view_of 65 schema)) old
defaults_alike schema None = refl
defaults_alike schema (Some old) = ap Some (filled_same 65 schema old)

-- the answer for a schema and a value is that for its tree and the value, each with its defaults
pub judged_alike : (b : Book) (schema value : Data) (old : Option Data) (root : Option Root) (tree : Node) → tree ≡ view_of 65 schema
    → answer compiled_accessors b 65 (root_visit tree (defaulted_value tree_fill.tree_accessors 65 tree value) (option_map (defaulted_value tree_fill.tree_accessors 65 tree) old) root)
    ≡ answer raw_accessors b 65 (root_visit schema (with_schema_defaults schema value) (option_map (with_schema_defaults schema) old) root)
judged_alike b schema value old root tree e =
    ap (λ t. answer compiled_accessors b 65 (root_visit t (defaulted_value tree_fill.tree_accessors 65 t value) (option_map (defaulted_value tree_fill.tree_accessors 65 t) old) root)) e
    ∙ (λ i. answer compiled_accessors b 65 (root_visit (view_of 65 schema) (sym (filled_same 65 schema value) i) (sym (defaults_alike schema old) i) root))
    ∙ sym (answered_alike b schema (with_schema_defaults schema value) (option_map (with_schema_defaults schema) old) root)

pub compiled_found : {K : Type 0} {g : Ghosts K} (b : Book) (schema : Data) (c : CompiledSchema K g) (value : Value) (old : Option (Bor Value)) (root : Option (Bor RootContext)) → whole c ≡ view_of 65 schema
    → answer compiled_accessors b 65 (compiled_start c value old root) ≡ answer raw_accessors b 65 (source_start schema value old root)
compiled_found b schema c value old root e =
    judged_alike b schema (view value) (option_map (λ v. view v.now) old) (option_map (λ r. root_view r.now) root) (whole c) e

-- walks over equal trees and equal values have equal starts
pub trees_alike : {n m : Node} {d e : Data} {o p : Option Data} (r : Option Root) → n ≡ m → d ≡ e → o ≡ p → root_visit n d o r ≡ root_visit m e p r
trees_alike r n d o = λ i. root_visit (n i) (d i) (o i) r
