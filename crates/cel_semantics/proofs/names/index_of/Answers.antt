use Rattle.std.proofs.Common.{rules, arith, ◌<◌, length, sym, ap, ◌∙◌}
use Rattle.std.specs.Str.{bytes_eq}
use Rattle.cel_semantics.proofs.Anew.{first_here, not_yet}
use Rattle.cel_semantics.proofs.names.index_of.Goals as goal

pub returns-then-eq-clause-slot : goal.returns-then-eq-clause-slot
returns-then-eq-clause-slot c =
    let es = c.args.names.now.items in
    let lt : c.loop-i.i < length es = search (rules, arith) in
    let here = ap (λ s. bytes_eq s c.args.name.now) (sym c.as_str.ensures.value) ∙ sym c.eq.ensures ∙ c.if-eq.true in
    first_here c.args.name.now es c.loop-i.i c.index.result.now lt c.index.ensures c.loop-i.invariant here

pub loop-i-preserved : goal.loop-i-preserved
loop-i-preserved c =
    let es = c.args.names.now.items in
    let lt : c.loop-i.i < length es = search (rules, arith) in
    let other = ap (λ s. bytes_eq s c.args.name.now) (sym c.as_str.ensures.value) ∙ sym c.eq.ensures ∙ c.if-eq.false in
    not_yet c.args.name.now es c.loop-i.i c.index.result.now lt c.index.ensures other c.loop-i.invariant
