-- Definitions with parts that aren't read.
use Rattle.kubecel_report.specs.Items.{ItemData}
use Rattle.kubecel_cli.specs.Runs.{UnlessAny}
use Rattle.std.proofs.Common.{List, [], ◌∷◌}

-- a property that holds if there is nothing to report may be replaced by a weaker one
pub unless_otherwise : (unread : List ItemData) (P Q : List ItemData → Type 0) (items : List ItemData) → (P items → Q items) → UnlessAny unread P items → UnlessAny unread Q items
unless_otherwise [] P Q items g are = g are
unless_otherwise (i ∷ is) P Q items g are = are
