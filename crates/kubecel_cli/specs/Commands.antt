-- Trusted by the clauses of kubecel.
-- The commands and their arguments. A path is that of a file.
use Rattle.kubecel_cli.specs.declared.command.Admit.{Admit}
use Rattle.kubecel_cli.specs.declared.command.Check.{Check}
use Rattle.kubecel_cli.specs.declared.command.Command.{Command}
use Rattle.kubecel_cli.specs.declared.command.Command.TheVariants as command
use Rattle.std.specs.Prelude.{ℕ, List, map, Bool, Option, option_map}

-- the paths of definitions, of the old objects, and of the objects, among which there may be definitions; whether objects
-- are skipped for which there is no definition; and whether it is allowed that none is left to judge
pub record CheckData : Type 0 where
  pub crds : List (List ℕ)
  pub olds : List (List ℕ)
  pub objects : List (List ℕ)
  pub ignores_missing : Bool
  pub allows_none : Bool

-- the paths of a policy, of an AdmissionReview, and of further inputs
pub record AdmitData : Type 0 where
  pub policy : List ℕ
  pub request : Option (List ℕ)
  pub object : Option (List ℕ)
  pub old : Option (List ℕ)
  pub params : Option (List ℕ)
  pub namespace : Option (List ℕ)

pub data Asked : Type 0 where
  check : CheckData → Asked
  -- the paths of definitions
  review : List (List ℕ) → Asked
  admit : AdmitData → Asked

-- ---- views of the code's values

abbrev pub check_view : Check → CheckData
check_view c = record {
  crds = map (λ s. s.now) c.crds.now;
  olds = map (λ s. s.now) c.olds.now;
  objects = map (λ s. s.now) c.objects.now;
  ignores_missing = c.ignores_missing;
  allows_none = c.allows_none;
}

abbrev pub admit_view : Admit → AdmitData
admit_view a = record {
  policy = a.policy.now;
  request = option_map (λ s. s.now) a.request;
  object = option_map (λ s. s.now) a.object;
  old = option_map (λ s. s.now) a.old;
  params = option_map (λ s. s.now) a.params;
  namespace = option_map (λ s. s.now) a.namespace;
}

abbrev pub command_view : Command → Asked
command_view (command.Check c) = check (check_view c)
command_view (command.Review paths) = review (map (λ s. s.now) paths.now)
command_view (command.Admit a) = admit (admit_view a)
