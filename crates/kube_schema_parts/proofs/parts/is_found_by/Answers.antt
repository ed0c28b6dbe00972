use Rattle.std.proofs.Common.{◌≡◌, option_map, sym, ap, ◌∙◌}
use Rattle.std.proofs.lemmas.Slice.Eq.{bytes_eq-Decides}
use Rattle.kube_schema_values.specs.Conversion.{key_in}
use Rattle.kube_schema_parts.specs.Parts.{is_map_at}
use Rattle.kube_schema_parts.proofs.Bound.{own_key}
use Rattle.kube_schema_parts.proofs.parts.is_found_by.Goals as goal
use Rattle.kube_schema_parts.proofs.parts.is_found_by.Goals.{then-is_map-via-then-is_map, then-is_map-via-else-is_map+then-is_its_own_escape}

pub returns-then-own-clause-found : goal.returns-then-own-clause-found
returns-then-own-clause-found g c = λ h.
    own_key (is_map_at g.N.Node.accessors (option_map g.N.Node.seen c.args.node)) c.args.name.now (c.requires c.if-own.true)

pub returns-then-is_map-clause-found : goal.returns-then-is_map-clause-found
returns-then-is_map-clause-found g c = λ h.
    elim c.then-is_map.branch [
      | then-is_map-via-then-is_map w ↦ ap (λ b. key_in b c.args.name.now) (sym c.is_map.ensures ∙ w.if-is_map.true)
      | then-is_map-via-else-is_map+then-is_its_own_escape w ↦ own_key (is_map_at g.N.Node.accessors (option_map g.N.Node.seen c.args.node)) c.args.name.now (w.is_its_own_escape.ensures w.if-is_its_own_escape.true)
    ]

pub returns-clause-found : goal.returns-clause-found
returns-clause-found g c = λ h.
    let text : c.as_str.result.now ≡ c.in_ok-key.key = c.as_str.ensures in
    let same : c.as_str.result.now ≡ c.args.name.now = (bytes_eq-Decides c.as_str.result.now c.args.name.now).0 (sym c.eq.ensures ∙ h) in
    ap (λ b. key_in b c.args.name.now) (sym c.is_map.ensures ∙ c.if-is_map.false) ∙ sym c.in_ok-key.ensures.key ∙ sym text ∙ same
