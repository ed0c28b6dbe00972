-- Trusted by the clauses of policies.
-- The view of a CIDR in contracts.
use Rattle.std.specs.Prelude.{List, ℕ, Result, Ok, Err}
use Rattle.std.specs.Borrow.{Bor}
use Rattle.kube_types_address.specs.Prefixes.{Network}
use Rattle.kube_types_address.specs.Shown.{address}
use Rattle.kube_types_address.specs.declared.cidr.KubeCIDR.{KubeCIDR}

-- the network of a CIDR
abbrev pub network : KubeCIDR → Network
network c = record { ip = address c.written; prefix = c.prefix }

-- the view of a result: the network, or the error's text
abbrev pub cidr_answer : Result KubeCIDR (Bor (List ℕ)) → Result Network (List ℕ)
cidr_answer (Ok c) = Ok (network c)
cidr_answer (Err text) = Err text.now
