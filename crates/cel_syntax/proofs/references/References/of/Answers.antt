use Rattle.std.proofs.Common.{◌≡◌, rules, [], ◌∙◌, ap, ◌||◌}
use Rattle.std.specs.BTreeSet.{contains_text}
use Rattle.cel_syntax_ast.specs.FreeNames.{is_free}
use Rattle.cel_syntax_ast.specs.Term.{term}
use Rattle.cel_syntax.specs.Bound.{bound_names}
use Rattle.cel_syntax.specs.declared.bound.Bound.{the_lemmas}
use Rattle.cel_syntax.specs.declared.bound.Bound.TheVariants as bound
use Rattle.cel_syntax.specs.CallNames.{is_called}
use Rattle.cel_syntax.specs.Names.{names_of}
use Rattle.cel_syntax.specs.Outside.{is_read}
use Rattle.cel_syntax.proofs.FreeNamesRead.{read_is_free_outside}
use Rattle.cel_syntax.proofs.Sets.{same_names, from_none}
use Rattle.cel_syntax.proofs.references.References.of.Goals as goal

-- outside all macros no name is bound
outside : bound_names bound.Nothing ≡ []
outside = search (rules, the_lemmas)

pub returns-clause-variables : goal.returns-clause-variables
returns-clause-variables c =
    same_names (names_of c.in_ok-in_order.field-0.items) (λ x. contains_text c.add_variables.new.names x) (λ x. is_free x (term c.args.expr.now)) c.in_ok-in_order.ensures.names
    (λ x. from_none c.new-variables.result c.add_variables.new.names (is_read x [] (term c.args.expr.now)) x c.new-variables.ensures.empty (c.in_ok-add_variables.ensures.added x ∙ ap (λ bs. contains_text c.new-variables.result x || is_read x bs (term c.args.expr.now)) outside)
    ∙ read_is_free_outside x (term c.args.expr.now))

pub returns-clause-functions : goal.returns-clause-functions
returns-clause-functions c =
    same_names (names_of c.in_ok-in_order-2.field-0.items) (λ x. contains_text c.add_calls.new.names x) (λ x. is_called x (term c.args.expr.now)) c.in_ok-in_order-2.ensures.names
    (λ x. from_none c.new-functions.result c.add_calls.new.names (is_called x (term c.args.expr.now)) x c.new-functions.ensures.empty (c.in_ok-add_calls.ensures.added x))
