use Rattle.kube_types.proofs.Version.TextsOf.{strict_text, lenient_text_is}
use Rattle.kube_types.proofs.versions.laws.texts_mean_their_version.Goals as goal

pub returns-clause-strict : goal.returns-clause-strict
returns-clause-strict c = strict_text

pub returns-clause-lenient : goal.returns-clause-lenient
returns-clause-lenient c = lenient_text_is
