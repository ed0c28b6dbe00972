use Rattle.cel_value.specs.Data.{map_of, text}
use Rattle.cel_value.specs.View.{entries_view}
use Rattle.kube_cel_vap.proofs.Entries.{one_made, one_text_more}
use Rattle.kube_cel_vap.proofs.value.put_user.Goals as goal
use Rattle.kube_cel_vap.specs.Requests.{map_with, texts_value, user_value}
use Rattle.std.proofs.Common.{[], ◌∷◌, map, codes, string_bytes, ap}

pub returns-clause-entered : goal.returns-clause-entered
unfolding user_value map_with
returns-clause-entered c =
    let r = c.args.request.now in
    let groups = texts_value (map string_bytes r.groups.items) in
    let m0 = entries_view c.args.entries.now.entries in
    let m1 = entries_view c.put_value.new.entries.entries in
    let m2 = entries_view c.put_text.new.entries.entries in
    let m3 = entries_view c.put_text-2.new.entries.entries in
    let e1 = one_made (codes "groups") c.texts_value-groups.result groups m0 m1 [] c.in_ok-put_value.ensures.entered (rw c.as_slice.ensures.value at c.texts_value-groups.ensures.value) c.requires in
    let e2 = one_text_more (codes "uid") c.as_str.result.now (string_bytes r.uid) m1 m2 ((codes "groups", groups) ∷ []) c.in_ok-put_text.ensures.entered c.as_str.ensures.value e1 in
    ap map_of (one_text_more (codes "username") c.as_str-2.result.now (string_bytes r.username) m2 m3 ((codes "uid", text (string_bytes r.uid)) ∷ (codes "groups", groups) ∷ []) c.in_ok-put_text-2.ensures.entered c.as_str-2.ensures.value e2)
