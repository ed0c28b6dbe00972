use Rattle.kube_types.proofs.Url.OwnText.{reads_back}
use Rattle.kube_types.proofs.urls.laws.web_urls_read_back.Goals as goal

pub returns : goal.returns
returns c = reads_back
