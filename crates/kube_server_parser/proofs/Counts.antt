-- Lines and columns, byte by byte.
use Rattle.std.proofs.Common.{◌≡◌, ℕ, ◌+◌, ◌≤◌, List, drop}
use Rattle.kube_server_parser.specs.Position.{line_from, column_from}

-- The position behind the first i bytes leads on to that behind all.
pub record Counts (z : List ℕ) (i line column : ℕ) : Type 0 where
  pub lines : line_from 1 z ≡ line_from line (drop i z)
  pub columns : column_from 1 z ≡ column_from column (drop i z)
  pub line_small : line ≤ 1 + i
  pub column_small : column ≤ 1 + i
