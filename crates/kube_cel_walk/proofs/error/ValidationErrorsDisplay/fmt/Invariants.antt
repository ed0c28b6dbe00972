use Rattle.kube_cel_walk.proofs.error.ValidationErrorsDisplay.fmt.Given as goal
use Rattle.kube_cel_walk.specs.Texts.{line_of}
use Rattle.std.proofs.Common.{◌++◌, take, codes, decimal, length}
use Rattle.std.specs.Fmt.{HasWritten, IsPlainFormatter}
use Rattle.std.specs.List.{flat_map}

abbrev pub invariant-loop-error : goal.invariant-loop-error
invariant-loop-error g l =
    IsPlainFormatter l.fn.f → HasWritten g.W.Write.write_str_gives l.fn.f ((decimal (length l.self.errors.items) ++ codes " validation error(s):") ++ flat_map line_of (take l.error-index l.error-items)) l.f
