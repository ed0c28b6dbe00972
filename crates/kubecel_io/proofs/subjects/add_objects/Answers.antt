use Rattle.kubecel_io.proofs.Lists.{items_each}
use Rattle.kubecel_io.proofs.subjects.add_objects.Goals as goal
use Rattle.kubecel_io.specs.Objects.{each_item, item_of, objects_of}
use Rattle.kubecel_io.specs.Subjects.{subject_view}
use Rattle.serde_json.specs.View.{view}
use Rattle.std.proofs.Common.{◌≡◌, ◌∷◌, ◌++◌, [], OnOk, map, sym, ap, ◌∙◌, subst}
use Rattle.std.proofs.lemmas.List.{map-append}
use Rattle.std.specs.Option.{option_map_or}

pub returns-in-Some : goal.returns-in-Some
returns-in-Some c =
    let f = subject_view c.args.document.now in
    let same : map (item_of f) (map view c.in-Some.items.now) ≡ objects_of f =
    ap (map (item_of f)) (sym (items_each c.in-Some.items.now)) ∙ ap (λ o. option_map_or (λ ds. map (item_of f) (each_item ds)) o (f ∷ [])) c.in-Some.ensures in
    subst (λ fs. OnOk c.add_list_items.result (map subject_view c.add_list_items.new.subjects.items ≡ map subject_view c.args.subjects.now.items ++ fs)) same c.add_list_items.ensures

pub returns-in_ok-push-in-None : goal.returns-in_ok-push-in-None
returns-in_ok-push-in-None c =
    let f = subject_view c.args.document.now in
    ap (map subject_view) c.in_ok-push-in-None.ensures.items
    ∙ map-append subject_view c.args.subjects.now.items (c.args.document.now ∷ [])
    ∙ ap (λ o. map subject_view c.args.subjects.now.items ++ option_map_or (λ ds. map (item_of f) (each_item ds)) o (f ∷ [])) c.in-None.ensures
