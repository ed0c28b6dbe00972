use Rattle.std.proofs.Common.{refl}
use Rattle.cel_value.specs.Data.{url}
use Rattle.cel_value.proofs.Equal.{same_urls}
use Rattle.cel_value.proofs.laws.urls_by_text.Goals as goal

pub returns : goal.returns
returns c = λ u v. same_urls u (url v) v refl
