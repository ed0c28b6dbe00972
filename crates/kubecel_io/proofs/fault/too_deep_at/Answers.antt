use Rattle.kubecel_io.proofs.Deep.{not_here, nowhere, passed_here}
use Rattle.kubecel_io.proofs.fault.too_deep_at.Goals as goal
use Rattle.std.proofs.lemmas.Bool.{le-ltb, lt-ltb}
use Rattle.std.proofs.Common.{◌<◌, ◌≤◌, length, sym, arith, ◌∙◌}

pub returns-then-depth-gt-MOST_LEVELS : goal.returns-then-depth-gt-MOST_LEVELS
returns-then-depth-gt-MOST_LEVELS c =
    let bytes = c.args.document.now in
    let below : c.loop-offset.offset < length bytes = omega arith in
    sym (c.loop-offset.invariant.1
    ∙ passed_here c.loop-offset.mode c.loop-offset.depth bytes c.loop-offset.offset c.level_after-depth.result below c.level_after-depth.ensures
    (lt-ltb 127 c.level_after-depth.result c.if-depth-gt-MOST_LEVELS.true))

pub loop-offset-preserved : goal.loop-offset-preserved
loop-offset-preserved c =
    let bytes = c.args.document.now in
    let below : c.loop-offset.offset < length bytes = omega arith in (
      omega (arith, c.if-depth-gt-MOST_LEVELS.false),
      c.loop-offset.invariant.1
          ∙ not_here c.loop-offset.mode c.after-mode.result c.loop-offset.depth bytes c.loop-offset.offset c.level_after-depth.result below c.level_after-depth.ensures c.after-mode.ensures
          (le-ltb 127 c.level_after-depth.result c.if-depth-gt-MOST_LEVELS.false),
    )

pub returns : goal.returns
returns c =
    let bytes = c.args.document.now in
    let past : length bytes ≤ c.loop-offset.offset = omega arith in
    sym (c.loop-offset.invariant.1 ∙ nowhere c.loop-offset.mode c.loop-offset.depth bytes c.loop-offset.offset past)
