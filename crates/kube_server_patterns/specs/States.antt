-- Trusted by the clauses of other library calls.
-- What is known at a place of a pattern, and how it changes from lexeme to lexeme. A closing
-- parenthesis brings back the flags of the group around.
use Rattle.std.specs.Prelude.{ℕ, nat_le, nat_eq, Bool, true, false, ◌&&◌, List, [], ◌∷◌, ◌++◌, length, reverse, Result, Ok, Err, if◌then◌else◌}
use Rattle.std.specs.Borrow.{Bor}
use Rattle.kube_server_patterns.specs.Fronts.{Read}
use Rattle.kube_server_patterns.specs.Groups.{new_group, with_item, with_lexeme}
use Rattle.kube_server_patterns.specs.Lexemes.{lexeme, mode_after}
use Rattle.kube_server_patterns.specs.Pieces.{written}
use Rattle.kube_server_patterns.specs.declared.group.Group.{Group}
use Rattle.kube_server_patterns.specs.declared.lexeme.Flags.{Flags}
use Rattle.kube_server_patterns.specs.declared.lexeme.Lexeme.{Lexeme}
use Rattle.kube_server_patterns.specs.declared.lexeme.Lexeme.TheVariants.{Open, Close}
use Rattle.kube_server_patterns.specs.declared.lexeme.Mode.{Mode}
use Rattle.kube_server_patterns.specs.declared.lexeme.Mode.TheVariants.{Plain, Quoted}
use Rattle.kube_server_patterns.specs.declared.refusal.Limit.TheVariants.{DeepGroups}
use Rattle.kube_server_patterns.specs.declared.refusal.Refusal.{Refusal}
use Rattle.kube_server_patterns.specs.declared.refusal.Refusal.TheVariants.{Invalid, Unsupported}
use Rattle.kube_server_patterns.specs.declared.state.State as code

pub record Place : Type 0 where
  pub mode : Mode
  pub group : Group
  -- the groups around it, from the innermost on
  pub outer : List Group

abbrev pub place_of : code.State → Place
place_of s = record { mode = s.mode; group = s.group; outer = reverse s.outer.items }

-- the beginning of a pattern
abbrev pub beginning : Place
beginning = record {
  mode = Plain;
  group = new_group (record { folds = false; lines = false; dots = false; lazy = false });
  outer = [];
}

-- in a group that begins; at most 50 stand inside one another
abbrev pub opened : Mode → Group → List Group → Flags → Result Place Refusal
opened mode g outer flags =
    if nat_le 50 (length outer) then Err (Unsupported DeepGroups)
    else Ok (record { mode = mode; group = new_group flags; outer = g ∷ outer })

-- after a group
abbrev pub closed : Mode → Group → List Group → Result Place Refusal
closed mode g [] = Err Invalid
closed mode g (around ∷ outer) =
    Ok (record { mode = mode; group = with_item around g.most; outer = outer })

abbrev pub in_group : Mode → List Group → Result Group Refusal → Result Place Refusal
in_group mode outer (Ok g) = Ok (record { mode = mode; group = g; outer = outer })
in_group mode outer (Err e) = Err e

abbrev pub moved : Mode → Group → List Group → Lexeme → Result Place Refusal
moved mode g outer (Open flags) = opened mode g outer flags
moved mode g outer Close = closed mode g outer
moved mode g outer l = in_group mode outer (with_lexeme g l)

-- the place after a lexeme
unfoldable pub passed : Place → Lexeme → Result Place Refusal
passed p l = moved (mode_after p.mode l) p.group p.outer l

abbrev pub is_text_mode : Mode → Bool
is_text_mode Plain = true
is_text_mode Quoted = true
is_text_mode _ = false

-- a pattern may end at the place
abbrev pub is_end : Place → Bool
is_end p = nat_eq (length p.outer) 0 && is_text_mode p.mode

-- what a lexeme says: what is written for it, the place after it, and the text after it
pub record Step : Type 0 where
  pub written : List ℕ
  pub place : Place
  pub rest : List ℕ

abbrev pub step_to : List ℕ → List ℕ → Result Place Refusal → Result Step Refusal
step_to made t (Ok p) = Ok (record { written = made; place = p; rest = t })
step_to made t (Err e) = Err e

abbrev pub step_by : Place → Read Lexeme → Result Step Refusal
step_by p (Ok found) = step_to (written p.group.flags found.0) found.1 (passed p found.0)
step_by p (Err e) = Err e

-- the lexeme at the front of a text
unfoldable pub step : Place → List ℕ → Result Step Refusal
step p t = step_by p (lexeme p.mode p.group.flags t)

-- ---- what the code has at its end

-- the place, unless the pattern is refused
abbrev pub moved_to : {A : Type 0} → Result A Refusal → code.State → Result Place Refusal
moved_to (Ok done) s = Ok (place_of s)
moved_to (Err e) s = Err e

-- the place, the text so far and what is left, unless the pattern is refused
pub record Made : Type 0 where
  pub text : List ℕ
  pub place : Place
  pub rest : List ℕ

abbrev pub made_by : Result (Bor (List ℕ)) Refusal → code.State → List ℕ → Result Made Refusal
made_by (Ok rest) s out = Ok (record { text = out; place = place_of s; rest = rest.now })
made_by (Err e) s out = Err e

abbrev pub made_of : List ℕ → Result Step Refusal → Result Made Refusal
made_of out (Ok s) = Ok (record { text = out ++ s.written; place = s.place; rest = s.rest })
made_of out (Err e) = Err e
