use Rattle.std.proofs.Common.{sym, ap, ◌∙◌}
use Rattle.kube_schema_rules.specs.Compilation.{compiled_rules, compiled_rules_by}
use Rattle.kube_schema.specs.Source.{source_own}
use Rattle.kube_schema.specs.View.{own_view}
use Rattle.kube_schema.proofs.Sources.{empty_items, not_false}
use Rattle.kube_schema.proofs.source.SourceKeywordsNodeKeywords.may_have_rules.Goals as goal

pub returns-in-Unread : goal.returns-in-Unread
unfolding own_view compiled_rules_by
returns-in-Unread c = λ none.
    ap (λ k. (source_own k).validations) c.in-Unread.is
    ∙ ap compiled_rules (sym c.rule_values.ensures ∙ empty_items c.rule_values.result.now (sym c.is_empty.ensures ∙ not_false c.is_empty.result none))
