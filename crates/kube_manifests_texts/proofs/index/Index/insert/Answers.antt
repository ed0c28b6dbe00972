use Rattle.std.proofs.Common.{rules, Some, None, cond, ap, sym, ◌∙◌, string_bytes}
use Rattle.kube_manifests_texts.proofs.Rows.{entered, placed}
use Rattle.kube_manifests_texts.proofs.index.Index.insert.Goals as goal
use Rattle.std.proofs.lemmas.Map.Text.{btree_map_updates_text}
use Rattle.std.specs.BTreeMap.{get_by_text}
use Rattle.std.specs.Prelude.{option_and_then}
use Rattle.std.specs.Str.{bytes_eq}

pub returns-in_ok-insert-in-Some : goal.returns-in_ok-insert-in-Some
returns-in_ok-insert-in-Some c = λ k t.
    let first = c.args.first.now in
    let rows = c.args.self.now.rows in
    let new = c.get_mut.follows.lender c.insert.new.self in
    placed first c.args.second.now k t rows new c.insert.new.self (get_by_text c.in-Some.row.now) c.args.position
    (btree_map_updates_text first rows new (Some c.insert.new.self) ((c.get_mut.follows.holds c.insert.new.self).3 (search rules)) k)
    (entered c.args.second.now (string_bytes c.in_ok-from_str-in-Some.field-0) c.in-Some.row.now c.insert.new.self (Some c.args.position) c.in_ok-from_str-in-Some.ensures.ok c.in_ok-insert-in-Some.ensures.updates t)
    (ap (option_and_then (λ r. get_by_text r t)) (sym c.in-Some.ensures.value))

pub returns-in_ok-insert-in-None : goal.returns-in_ok-insert-in-None
returns-in_ok-insert-in-None c = λ k t.
    let first = c.args.first.now in
    let new = c.insert-in-None.new.self in
    let row = c.in_ok-row-in-None.row in
    placed first c.args.second.now k t c.args.self.now.rows new row (λ q. None) c.args.position
    (entered first (string_bytes c.in_ok-from_str-in-None.field-0) c.get_mut.follows.lender-at-none new (Some row) c.in_ok-from_str-in-None.ensures.ok c.in_ok-insert-in-None.ensures.updates k
    ∙ ap (λ m. cond (bytes_eq first k) (Some row) (get_by_text m k)) c.get_mut.follows.holds-at-none)
    (c.in_ok-row-in-None.ensures t)
    (ap (option_and_then (λ r. get_by_text r t)) (sym c.in-None.ensures.value))
