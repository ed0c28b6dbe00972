use Rattle.std.proofs.Common.{arith, ◌+◌, ◌≡◌, suc, drop, sym, ap, ◌∙◌}
use Rattle.std.specs.Prelude.{zip}
use Rattle.std.specs.BTreeMap.{is_at}
use Rattle.std.specs.Map.{lookup}
use Rattle.cel_value.specs.Keys.{key_cmp}
use Rattle.cel_value.proofs.Shared.{found_at, passed, read_at}
use Rattle.cel_value.proofs.value.shared.value_at.Goals as goal

pub returns-then-eq : goal.returns-then-eq
returns-then-eq c =
    let test = is_at (key_cmp c.args.key.now) in
    let here = ap test (sym c.index-keys-index.is) ∙ sym c.eq.ensures ∙ c.if-eq.true in
    read_at c.args.values.now c.loop-index.index c.get.result c.get.ensures.lookup.3 c.get.ensures.lookup.1
    ∙ sym (c.loop-index.invariant ∙ found_at test c.args.keys.now c.args.values.now c.loop-index.index c.index-keys-index.result (omega (arith, c.loop-index-test.true)) here)

pub loop-index-preserved : goal.loop-index-preserved
loop-index-preserved c =
    let test = is_at (key_cmp c.args.key.now) in
    let ks = c.args.keys.now in
    let vs = c.args.values.now in
    let i = c.loop-index.index in
    let other = ap test (sym c.index-keys-index.is) ∙ sym c.eq.ensures ∙ c.if-eq.false in
    let next : suc i ≡ i + 1 = omega arith in
    c.loop-index.invariant ∙ passed test ks vs i c.index-keys-index.result (omega (arith, c.loop-index-test.true)) other
    ∙ ap (λ n. lookup test (zip (drop n ks) (drop n vs))) next
