-- Scaffolding: only proofs and private clauses cite it.
-- Code that is written from its end to its start, and the variables of the enclosing loops.
use Rattle.std.specs.Prelude.{ℕ, suc, ◌-◌, Bool, true, false, List, [], ◌∷◌, ◌++◌, length, map, reverse}
use denote.Ref.{Bor}
use Rattle.cel_vm_code.specs.Code.{is_sure}
use Rattle.cel_vm_code.specs.Op.{Op, op, put_entry, guard, apply}
use Rattle.cel_vm_code.specs.declared.instr.Instr.{Instr}

-- the code that a list holds in reverse
abbrev pub from_end : List Instr → List Op
from_end is = reverse (map op is)

-- what follows an operand over k values in a form after which `end` instructions
-- come; it starts with a guard unless the operand is sure
abbrev pub guard_to : Bool → (k end : ℕ) → List Op → List Op
guard_to true k end rest = rest
guard_to false k end rest = guard k (length rest - end) ∷ rest

-- such an operand and the code after it
abbrev pub operand_to : List Op → (k end : ℕ) → List Op → List Op
operand_to c k end rest = c ++ guard_to (is_sure c) k end rest

-- such operands from the k-th on
abbrev pub operands_to : List (List Op) → (k end : ℕ) → List Op → List Op
operands_to [] k end rest = rest
operands_to (c ∷ cs) k end rest = operand_to c k end (operands_to cs (suc k) end rest)

-- the entries of a map literal after which `end` instructions come
abbrev pub entry_to : List Op → List Op → (end : ℕ) → List Op → List Op
entry_to k v end rest = operand_to k 1 end (operand_to v 2 end (apply put_entry 3 ∷ guard_to false 0 end rest))

abbrev pub entries_to : List (List Op × List Op) → (end : ℕ) → List Op → List Op
entries_to [] end rest = rest
entries_to (p ∷ ps) end rest = entry_to p.0 p.1 end (entries_to ps end rest)

-- the variables of the enclosing loops, given with the innermost last
abbrev pub variables : List (Bor (List ℕ)) → List (List ℕ)
variables xs = reverse (map (λ x. x.now) xs)
