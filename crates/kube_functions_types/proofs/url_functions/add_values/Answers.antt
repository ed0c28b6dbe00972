use Rattle.std.proofs.Common.{◌∙◌, ap, string_bytes}
use Rattle.cel_value.specs.Data.{list, text_key}
use Rattle.cel_value.specs.declared.key.Key.TheVariants as key
use Rattle.kube_types.specs.Url.Shown.{texts}
use Rattle.kube_functions_types.specs.Lists.{text_list}
use Rattle.kube_functions_types.proofs.Pushed.{inserted}
use Rattle.kube_functions_types.proofs.url_functions.add_values.Goals as goal

pub returns : goal.returns
returns c = record {
  written =
      inserted c.args.entries.now.entries c.insert.new.self.entries (key.String c.in_ok-name.name) c.in_ok-list.list (text_key (string_bytes c.args.name)) (text_list (texts c.args.values))
      c.in_ok-insert.ensures.entries (ap text_key c.in_ok-name.ensures.value) (c.in_ok-list.ensures.value ∙ ap list c.in_ok-items.ensures.value);
}
