-- What rules read, one rule after another.
use Rattle.std.proofs.Common.{◌≡◌, ◌<◌, ℕ, suc, List, map, drop, length, get_or, Option, Some, option_map, Result, Ok, Err, sym, ap, ◌∙◌, drop-cons}
use Rattle.cel.specs.Part.{Part, both_read, part_read}
use Rattle.cel.specs.Reads.{reads_of}
use Rattle.cel_syntax.specs.Term.{Term}
use Rattle.kube_schema_rules.specs.Compilation.{Compiled, Malformed}
use Rattle.kube_schema_rules.specs.Demands.{rule_read, rules_read}
use Rattle.kube_schema_rules.specs.Reads.{texts_read}

-- a rule with a messageExpression
pub text_read : {A : Type 0} (tree : A → Term) (x : List ℕ) (t : Term) (o : Option A) (m : A) (p q r : Option Part) → o ≡ Some m → p ≡ part_read x (reads_of t) → q ≡ part_read x (reads_of (tree m)) → r ≡ both_read p q → r ≡ texts_read x t (option_map tree o)
text_read tree x t o m p q r is first second joined =
    joined ∙ ap (λ z. both_read z q) first ∙ ap (both_read (part_read x (reads_of t))) second ∙ sym (ap (λ z. texts_read x t (option_map tree z)) is)

-- equal trees read the same
pub same_texts_read : (x : List ℕ) (p : Option Part) (t u : Term) (m n : Option Term) → p ≡ texts_read x t m → t ≡ u → m ≡ n → p ≡ texts_read x u n
same_texts_read x p t u m n is text message = is ∙ ap (λ z. texts_read x z m) text ∙ ap (texts_read x u) message

-- a rule that compiled, with what else is read
pub compiled_read : (x : List ℕ) (seen : Result Compiled Malformed) (c : Compiled) (p q o : Option Part) → Ok c ≡ seen → p ≡ texts_read x c.tree c.message_tree → q ≡ both_read p o → q ≡ both_read (rule_read x seen) o
compiled_read x seen c p q o is read joined = joined ∙ ap (λ z. both_read z o) (read ∙ ap (rule_read x) is)

-- a malformed rule
pub malformed_read : (x : List ℕ) (seen : Result Compiled Malformed) (m : Malformed) (o : Option Part) → Err m ≡ seen → o ≡ both_read (rule_read x seen) o
malformed_read x seen m o is = ap (λ r. both_read (rule_read x r) o) is

-- one more rule, going backwards from the last one
pub one_rule_more : {A : Type 0} (seen : A → Result Compiled Malformed) (x : List ℕ) (rules : List A) (i j : ℕ) (r : A) (p q : Option Part)
    → i < length rules → r ≡ get_or rules i r → suc i ≡ j → q ≡ rules_read x (map seen (drop j rules)) → p ≡ both_read (rule_read x (seen r)) q → p ≡ rules_read x (map seen (drop i rules))
one_rule_more seen x rules i j r p q lt is next later here =
    here ∙ ap (both_read (rule_read x (seen r))) later
    ∙ sym (ap (λ es. rules_read x (map seen es)) (drop-cons rules i r lt)
    ∙ ap (λ f. both_read (rule_read x (seen f)) (rules_read x (map seen (drop (suc i) rules)))) (sym is)
    ∙ ap (λ n. both_read (rule_read x (seen r)) (rules_read x (map seen (drop n rules)))) next)
