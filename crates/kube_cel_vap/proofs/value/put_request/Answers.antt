use Rattle.cel_value.specs.Data.{Data, bool, map_of, text}
use Rattle.cel_value.specs.View.{entries_view}
use Rattle.kube_cel_vap.proofs.Entries.{one_text_more}
use Rattle.kube_cel_vap.proofs.value.put_request.Goals as goal
use Rattle.kube_cel_vap.specs.Requests.{kind_value, kind_view, map_with, request_value, request_view, resource_value, resource_view, user_value}
use Rattle.std.proofs.Common.{ℕ, List, [], ◌∷◌, codes, string_bytes, ap}

pub returns-clause-entered : goal.returns-clause-entered
unfolding request_value map_with
returns-clause-entered c =
    let r = c.args.request.now in
    let l4 : List (List ℕ × Data) =
    (codes "dryRun", bool r.dry_run) ∷ (codes "kind", kind_value (kind_view r.kind)) ∷ (codes "resource", resource_value (resource_view r.resource))
    ∷ (codes "userInfo", user_value (request_view r)) ∷ [] in
    let l5 : List (List ℕ × Data) = (codes "namespace", text (string_bytes r.namespace)) ∷ l4 in
    let l6 : List (List ℕ × Data) = (codes "name", text (string_bytes r.name)) ∷ l5 in
    let m4 = entries_view c.put_parts.new.entries.entries in
    let m5 = entries_view c.put_text.new.entries.entries in
    let m6 = entries_view c.put_text-2.new.entries.entries in
    let m7 = entries_view c.put_text-3.new.entries.entries in
    let e5 = one_text_more (codes "namespace") c.as_str.result.now (string_bytes r.namespace) m4 m5 l4 c.in_ok-put_text.ensures.entered c.as_str.ensures.value c.in_ok-put_parts.ensures.entered in
    let e6 = one_text_more (codes "name") c.as_str-2.result.now (string_bytes r.name) m5 m6 l5 c.in_ok-put_text-2.ensures.entered c.as_str-2.ensures.value e5 in
    ap map_of (one_text_more (codes "operation") c.as_str-3.result.now (string_bytes r.operation) m6 m7 l6 c.in_ok-put_text-3.ensures.entered c.as_str-3.ensures.value e6)
