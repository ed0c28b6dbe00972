-- Trusted by laws alone.
-- *Server meaning*: what a tree means in an API server of Kubernetes 1.33: what its translation means
-- with the functions of such a server.
use Rattle.std.specs.Prelude.{Ok}
use Rattle.cel_patterns.specs.Book.{Book}
use Rattle.cel_semantics.specs.Bindings.{Bindings}
use Rattle.cel_semantics.specs.Meaning.{meaning}
use Rattle.cel_semantics.specs.Outcome.{Outcome}
use Rattle.kube_server_functions.specs.Server.{server_library}
use Rattle.kube_server_syntax.specs.Tree.{Tree}
use Rattle.kube_server_translation.specs.Calls.{Translated, after}
use Rattle.kube_server_translation.specs.Made.{Names}
use Rattle.kube_server_translation.specs.Translation.{translated}

-- The names are those of variables that are optionals.
abbrev pub server_meaning : Book → Names → Tree → Bindings → Translated Outcome
server_meaning book names t env = after (translated names t) (λ u. Ok (meaning server_library book u env))
