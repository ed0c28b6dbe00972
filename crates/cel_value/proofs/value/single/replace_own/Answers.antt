use Rattle.std.proofs.Common.{sym, ◌∙◌, true≢false}
use Rattle.cel_value.proofs.Indexed.{replaced_seen}
use Rattle.cel_value.proofs.Rows.{flat_replaced}
use Rattle.cel_value.proofs.value.single.replace_own.Goals as goal
use Rattle.cel_value.proofs.value.single.replace_own.Goals.{then-is_flat_nesting, else-is_flat_nesting}

pub returns-then-stays-clause-nesting : goal.returns-then-stays-clause-nesting
returns-then-stays-clause-nesting c =
    let of = c.replace_at.ensures in
    let done = c.if-not-replace_at.false in
    elim c.if-is_flat_nesting.branch [
      | then-is_flat_nesting w ↦ flat_replaced c.args.nesting.now c.args.own.now.entries c.replace_at.new.self.entries c.args.index c.args.value
          (c.is_flat_nesting.ensures w.if-is_flat_nesting.true) (sym w.is_flat-stays.ensures ∙ sym w.stays-is ∙ c.if-stays.true) c.requires (of.found done) (of.replaced done)
      | else-is_flat_nesting w ↦ absurd (true≢false (sym c.if-stays.true ∙ w.stays-is ∙ w.if-is_flat_nesting.false))
    ]

pub returns-then-stays-clause-replaced : goal.returns-then-stays-clause-replaced
returns-then-stays-clause-replaced c = λ h.
    let of = c.replace_at.ensures in
    replaced_seen c.args.index c.args.value c.args.own.now.entries c.replace_at.new.self.entries of.ordered of.keys (of.replaced c.if-not-replace_at.false)

pub returns-in-Ok-clause-replaced : goal.returns-in-Ok-clause-replaced
returns-in-Ok-clause-replaced c = λ h.
    let of = c.replace_at.ensures in
    replaced_seen c.args.index c.args.value c.args.own.now.entries c.replace_at.new.self.entries of.ordered of.keys (of.replaced c.if-not-replace_at.false)
