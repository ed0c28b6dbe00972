use Rattle.cel_value.specs.Data.{map_of, text}
use Rattle.cel_value.specs.View.{entries_view}
use Rattle.kube_cel_vap.proofs.Entries.{one_text_more}
use Rattle.kube_cel_vap.proofs.value.put_versioned.Goals as goal
use Rattle.kube_cel_vap.specs.Requests.{map_with}
use Rattle.std.proofs.Common.{[], ◌∷◌, codes, refl, ap}

pub returns-clause-entered : goal.returns-clause-entered
unfolding map_with
returns-clause-entered c =
    let key = c.args.key.now in
    let name = c.args.name.now in
    let version = c.args.version.now in
    let group = c.args.group.now in
    let m0 = entries_view c.args.entries.now.entries in
    let m1 = entries_view c.put_text.new.entries.entries in
    let m2 = entries_view c.put_text-2.new.entries.entries in
    let m3 = entries_view c.put_text-3.new.entries.entries in
    let e1 = one_text_more key name name m0 m1 [] c.in_ok-put_text.ensures.entered refl c.requires in
    let e2 = one_text_more (codes "version") version version m1 m2 ((key, text name) ∷ []) c.in_ok-put_text-2.ensures.entered refl e1 in
    ap map_of (one_text_more (codes "group") group group m2 m3 ((codes "version", text version) ∷ (key, text name) ∷ []) c.in_ok-put_text-3.ensures.entered refl e2)
