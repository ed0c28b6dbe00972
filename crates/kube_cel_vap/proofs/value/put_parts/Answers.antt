use Rattle.cel_value.specs.Data.{Data, bool}
use Rattle.cel_value.specs.View.{entries_view, view}
use Rattle.kube_cel_vap.proofs.Entries.{one_made, one_more}
use Rattle.kube_cel_vap.proofs.value.put_parts.Goals as goal
use Rattle.kube_cel_vap.specs.Requests.{kind_value, kind_view, request_view, resource_value, resource_view, user_value}
use Rattle.std.proofs.Common.{ℕ, List, [], ◌∷◌, codes}

pub returns-clause-entered : goal.returns-clause-entered
returns-clause-entered c =
    let r = c.args.request.now in
    let user = user_value (request_view r) in
    let resource = resource_value (resource_view r.resource) in
    let kind = kind_value (kind_view r.kind) in
    let l1 : List (List ℕ × Data) = (codes "userInfo", user) ∷ [] in
    let l2 : List (List ℕ × Data) = (codes "resource", resource) ∷ l1 in
    let l3 : List (List ℕ × Data) = (codes "kind", kind) ∷ l2 in
    let m0 = entries_view c.args.entries.now.entries in
    let m1 = entries_view c.put_value.new.entries.entries in
    let m2 = entries_view c.put_value-2.new.entries.entries in
    let m3 = entries_view c.put_value-3.new.entries.entries in
    let m4 = entries_view c.put_value-4.new.entries.entries in
    let e1 = one_made (codes "userInfo") c.user_value-user.result user m0 m1 [] c.in_ok-put_value.ensures.entered c.user_value-user.ensures.value c.requires in
    let e2 = one_made (codes "resource") c.resource_value-resource.result resource m1 m2 l1 c.in_ok-put_value-2.ensures.entered c.resource_value-resource.ensures.value e1 in
    let e3 = one_made (codes "kind") c.kind_value-kind.result kind m2 m3 l2 c.in_ok-put_value-3.ensures.entered c.kind_value-kind.ensures.value e2 in
    one_more (codes "dryRun") (view c.bool_value-dry_run.result) (bool r.dry_run) m3 m4 l3 c.in_ok-put_value-4.ensures.entered c.bool_value-dry_run.ensures e3
