-- Results of lists of expressions, and of expressions under equal bindings.
use Rattle.cel.specs.Checks.{JudgementData, Trees, Unread as Failing, judgement, trees_of}
use Rattle.cel.specs.Book.{Book}
use Rattle.cel.specs.Bindings.{Bindings, binding}
use Rattle.cel.specs.Outcome.{Outcome}
use Rattle.cel_syntax.specs.Reading.{tree_of}
use Rattle.cel_syntax.specs.Term.{Term}
use Rattle.kube_cel_vap.specs.Validations.{ExpressionData}
use Rattle.cel.proofs.Bound.{meaning_same}
use Rattle.kube_cel_vap.specs.Expressions.{Compiled, Unread, compile_result, compiled_of}
use Rattle.kube_cel_vap.specs.Results.{compiled_result, compiled_results, judged_message, message_in, outcome_in, own_message, policy_library, policy_results, result_in, result_with}
use Rattle.kube_cel_vap.specs.Variables.{Variables, policy_bindings}
use Rattle.std.proofs.Common.{◌≡◌, ℕ, List, [], ◌∷◌, ◌++◌, map, codes, Bool, true, false, not, Option, Some, None, is_none, is_some, option_map, Result, Ok, Err, refl, sym, ap, ◌∙◌}
use Rattle.std.proofs.lemmas.List.{map-append}

-- ---- laws

pub results_of_joined : (b : Book) (v : Variables) (xs ys : List ExpressionData) → policy_results b v (xs ++ ys) ≡ policy_results b v xs ++ policy_results b v ys
unfolding policy_results
results_of_joined b v xs ys = map-append (result_in b v) xs ys

expression_kept : (b : Book) (e : Bindings) (x : ExpressionData) (r : Result Trees Failing) → (compiled_result b e (compiled_of x r)).expression ≡ x.expression
expression_kept b e x (Ok trees) = refl
expression_kept b e x (Err u) = refl

pub results_in_order : (b : Book) (v : Variables) (xs : List ExpressionData) → map (λ r. r.expression) (policy_results b v xs) ≡ map (λ x. x.expression) xs
unfolding policy_results result_in compile_result
results_in_order b v [] = refl
results_in_order b v (x ∷ xs) = λ i. expression_kept b (policy_bindings v) x (trees_of tree_of x.expression x.message_expression) i ∷ results_in_order b v xs i

pub results_of_compiled : (b : Book) (v : Variables) (xs : List ExpressionData) → compiled_results b v (map compile_result xs) ≡ policy_results b v xs
unfolding compiled_results policy_results result_in
results_of_compiled b v [] = refl
results_of_compiled b v (x ∷ xs) = ap (λ r. compiled_result b (policy_bindings v) (compile_result x) ∷ r) (results_of_compiled b v xs)

reported_unless_passed : (b : Book) (e : Bindings) (c : Result Compiled Unread) → (compiled_result b e c).passed ≡ is_none (compiled_result b e c).message
reported_unless_passed b e (Ok c) = refl
reported_unless_passed b e (Err u) = refl

pub messages_reported : (b : Book) (v : Variables) (xs : List ExpressionData) → map (λ r. r.passed) (policy_results b v xs) ≡ map (λ r. is_none r.message) (policy_results b v xs)
unfolding policy_results result_in
messages_reported b v [] = refl
messages_reported b v (x ∷ xs) = λ i. reported_unless_passed b (policy_bindings v) (compile_result x) i ∷ messages_reported b v xs i

-- ---- names that are bound to the same values

outcome_same : (b : Book) (t : Term) (e f : Bindings) → ((x : List ℕ) → binding x e ≡ binding x f) → outcome_in b e t ≡ outcome_in b f t
unfolding outcome_in
outcome_same b t e f h = meaning_same policy_library b t e f h

reported_same : (b : Book) (o : Option Term) (e f : Bindings) → ((x : List ℕ) → binding x e ≡ binding x f) → option_map (outcome_in b e) o ≡ option_map (outcome_in b f) o
reported_same b None e f h = refl
reported_same b (Some t) e f h = ap Some (outcome_same b t e f h)

message_same : (b : Book) (c : Compiled) (e f : Bindings) → ((x : List ℕ) → binding x e ≡ binding x f) → message_in b e c ≡ message_in b f c
unfolding message_in
message_same b c e f h = λ i. judged_message c (judgement (reported_same b c.trees.message_tree e f h i) (outcome_same b c.trees.tree e f h i))

result_same : (b : Book) (c : Result Compiled Unread) (e f : Bindings) → ((x : List ℕ) → binding x e ≡ binding x f) → compiled_result b e c ≡ compiled_result b f c
result_same b (Err u) e f h = refl
result_same b (Ok c) e f h = ap (result_with c.expression) (message_same b c e f h)

pub results_same : (b : Book) (v : Variables) (cs : List (Result Compiled Unread)) (e : Bindings) → ((x : List ℕ) → binding x e ≡ binding x (policy_bindings v))
    → map (compiled_result b e) cs ≡ compiled_results b v cs
unfolding compiled_results
results_same b v [] e h = refl
results_same b v (c ∷ cs) e h = λ i. result_same b c e (policy_bindings v) h i ∷ results_same b v cs e h i

-- ---- the message of one expression

pub message_judged : (b : Book) (e : Bindings) (c : Compiled) (j : JudgementData Outcome) (o : Option (List ℕ)) → o ≡ judged_message c j
    → j ≡ judgement (option_map (outcome_in b e) c.trees.message_tree) (outcome_in b e c.trees.tree) → o ≡ message_in b e c
unfolding message_in
message_judged b e c j o p q = p ∙ ap (judged_message c) q

-- ---- messages that are there or not

pub absence_seen : {A B : Type 0} (f : A → B) (o : Option A) (absent : Bool) → is_some o ≡ not absent → absent ≡ is_none (option_map f o)
absence_seen f None true e = refl
absence_seen f None false e = cc
absence_seen f (Some a) true e = cc
absence_seen f (Some a) false e = refl

pub own_given : (c : Compiled) (m s : List ℕ) → c.message ≡ Some m → s ≡ m → s ≡ own_message c
own_given c m s e p = p ∙ sym (ap (λ o. own_message (record c { message = o })) e)

pub own_made : (c : Compiled) (s t : List ℕ) → c.message ≡ None → s ≡ codes "validation expression '" ++ (t ++ codes "' evaluated to false") → t ≡ c.expression → s ≡ own_message c
own_made c s t e p q = p ∙ ap (λ t. codes "validation expression '" ++ (t ++ codes "' evaluated to false")) q ∙ sym (ap (λ o. own_message (record c { message = o })) e)
