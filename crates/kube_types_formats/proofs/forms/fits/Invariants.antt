use Rattle.std.proofs.Common.{◌≡◌, drop}
use Rattle.kube_types_formats.specs.Forms.{fits}
use Rattle.kube_types_formats.proofs.forms.fits.Given as goal

abbrev pub invariant-loop-byte_offset : goal.invariant-loop-byte_offset
invariant-loop-byte_offset l = fits (drop l.byte_offset l.form) (drop l.byte_offset l.text) ≡ fits l.form l.text
