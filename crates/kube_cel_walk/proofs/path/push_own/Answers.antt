use Rattle.kube_cel_walk.proofs.path.push_own.Goals as goal
use Rattle.kube_schema_rules.specs.Visit.{member_path}
use Rattle.std.proofs.Common.{◌≡◌, ◌==◌, ◌++◌, true, false, if◌then◌else◌, lit<, slice_index, string_bytes, sym, ap, ◌∙◌}

pub returns-then-starts_with : goal.returns-then-starts_with
returns-then-starts_with c =
    let dot : (slice_index c.args.own.now 0 == 46) ≡ true = sym (c.starts_with.ensures.byte (lit< tt) (lit< tt) (λ w o x. x)) ∙ c.if-starts_with.true in
    let path = string_bytes c.args.path.now in
    c.in_ok-push_str.ensures.bytes ∙ sym (ap (λ t. if t then path ++ c.args.own.now else member_path path c.args.own.now) dot)

pub returns : goal.returns
returns c =
    let dot : (slice_index c.args.own.now 0 == 46) ≡ false = sym (c.starts_with.ensures.byte (lit< tt) (lit< tt) (λ w o x. x)) ∙ c.if-starts_with.false in
    let path = string_bytes c.args.path.now in
    c.in_ok-push_member.ensures ∙ sym (ap (λ t. if t then path ++ c.args.own.now else member_path path c.args.own.now) dot)
