-- The nodes of a tree, seen as terms.
use Rattle.std.proofs.Common.{◌≡◌, ℕ, List, [], ◌∷◌, true, Option, Some, None, Box, codes, cond, map, option_map, refl, sym, ap, ◌∙◌}
use Rattle.std.specs.declared.alloc.Global.{Global}
use Rattle.cel_syntax.specs.Term.{Term, call, no_terms, qualified, term, term_and, term_step, terms_of}
use Rattle.cel_syntax.specs.Expr.{Expr, Expr-F, fold-roll-Expr}
use Rattle.cel_syntax.specs.Expr.TheVariants as expr
use Rattle.cel_value.specs.Data.{Data}
use Rattle.cel_value.specs.Same.{has_double}
use Rattle.kube_manifests_review.specs.Calls.{Text, call_candidates, literal_candidates, node_candidates, text_candidate, terms_in}
use Rattle.kube_manifests_review.specs.Candidates.{always}
use Rattle.kube_manifests_review.specs.Features.{doubles_text}
use Rattle.kube_manifests_review.specs.Messages.{is_no_string}
use Rattle.kube_manifests_review.specs.Rules.{kind_candidates}
use Rattle.kube_manifests_review.specs.declared.finding.ReviewKind.TheVariants as kind

terms_back : (ts : List Term) → terms_in (terms_of ts) ≡ ts
terms_back [] = refl
terms_back (t ∷ ts) = ap (λ us. t ∷ us) (terms_back ts)

none_called : (x : _) (es : _) → term (expr.Call None x es) ≡ call no_terms x (terms_of (map term es.items))
none_called x es = ap term (sym (expr.rolls-Call None x es)) ∙ fold-roll-Expr Term term_step (Expr-F.Call None x es)

one_called : (b : Box Expr Global) (x : _) (es : _) → term (expr.Call (Some b) x es) ≡ call (term_and (term b.value) no_terms) x (terms_of (map term es.items))
one_called b x es = ap term (sym (expr.rolls-Call (Some b) x es)) ∙ fold-roll-Expr Term term_step (Expr-F.Call (Some b) x es)

pub call_seen : (t : Text) (o : Option (Box Expr Global)) (x : _) (es : _)
    → node_candidates t (term (expr.Call o x es)) ≡ call_candidates t (option_map (λ r. term r.value) o) x (map term es.items)
call_seen t None x es = ap (node_candidates t) (none_called x es) ∙ ap (call_candidates t None x) (terms_back (map term es.items))
call_seen t (Some b) x es = ap (node_candidates t) (one_called b x es) ∙ ap (call_candidates t (Some (term b.value)) x) (terms_back (map term es.items))

qualified_is : (x : _) (es : _) → term (expr.Qualified x es) ≡ qualified x (terms_of (map term es.items))
qualified_is x es = ap term (sym (expr.rolls-Qualified x es)) ∙ fold-roll-Expr Term term_step (Expr-F.Qualified x es)

pub qualified_seen : (t : Text) (x : _) (es : _) → node_candidates t (term (expr.Qualified x es)) ≡ call_candidates t None x (map term es.items)
qualified_seen t x es = ap (node_candidates t) (qualified_is x es) ∙ ap (call_candidates t None x) (terms_back (map term es.items))

pub double_candidate : (t : Text) (v : Data) (m : List ℕ) → has_double v ≡ true → m ≡ doubles_text → text_candidate t kind.Unsupported m always ∷ [] ≡ literal_candidates t v
double_candidate t v m e f =
    ap (λ x. text_candidate t kind.Unsupported x always ∷ []) f ∙ ap (λ b. cond b (text_candidate t kind.Unsupported doubles_text always ∷ []) []) (sym e)

pub kind_candidate : (t : Text) (e : Term) (m : List ℕ) → is_no_string e ≡ true → m ≡ codes "messageExpression doesn't return a string" → text_candidate t kind.Message m always ∷ [] ≡ kind_candidates t e
kind_candidate t e m n f =
    ap (λ x. text_candidate t kind.Message x always ∷ []) f ∙ ap (λ b. cond b (text_candidate t kind.Message (codes "messageExpression doesn't return a string") always ∷ []) []) (sym n)
