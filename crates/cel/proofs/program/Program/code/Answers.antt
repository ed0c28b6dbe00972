use Rattle.cel.specs.Program.{program_term}
use Rattle.cel.proofs.program.Program.code.Goals as goal
use Rattle.cel_vm_code.proofs.Sizes.{code_is_short}
use Rattle.cel_vm_code.specs.Code.{code_of}
use Rattle.cel_vm_code.specs.Op.{op}
use Rattle.std.proofs.Common.{◌≡◌, length, sym, ap, ◌∙◌, arith}
use Rattle.std.proofs.Math.ListN.{length-map}

pub returns-clause-short : goal.returns-clause-short
returns-clause-short c =
    let program = c.args.self.now in
    let same : length program.code.items ≡ length (code_of (program_term program)) = sym (length-map program.code.items op) ∙ ap length program.is_coded in
    omega (arith, same, code_is_short (program_term program))
