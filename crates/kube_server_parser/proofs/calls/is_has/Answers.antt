use Rattle.std.proofs.Common.{◌∙◌, sym, ap, map}
use Rattle.kube_server_syntax.specs.Grammar.{is_has}
use Rattle.kube_server_syntax.specs.Tree.{trees_of, tree}
use Rattle.kube_server_parser.specs.Trees.{target_view}
use Rattle.kube_server_parser.proofs.Levels.{has_one, has_more}
use Rattle.kube_server_parser.proofs.calls.is_has.Goals as goal

pub returns-in-None-len1 : goal.returns-in-None-len1
returns-in-None-len1 c =
    c.is_named_has.ensures
    ∙ sym (ap (λ t. is_has (target_view t) c.args.name.now (trees_of (map tree c.args.arguments.now))) c.in-None-len1.is-0
    ∙ has_one c.args.arguments.now c.args.name.now c.in-None-len1.len_at_least c.in-None-len1.len_below)

pub returns-in-None-len2-up : goal.returns-in-None-len2-up
returns-in-None-len2-up c =
    sym (ap (λ t. is_has (target_view t) c.args.name.now (trees_of (map tree c.args.arguments.now))) c.in-None-len2-up.is-0
    ∙ has_more c.args.arguments.now c.args.name.now c.in-None-len2-up.len_at_least)
