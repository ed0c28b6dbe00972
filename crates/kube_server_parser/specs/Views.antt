-- Scaffolding: only proofs and private clauses cite it.
-- The frames and modes of the code as the machine has them.
use Rattle.std.specs.Prelude.{List, map, reverse}
use Rattle.kube_server_syntax.specs.Machine as machine
use Rattle.kube_server_syntax.specs.Machine.{in_round, in_list, in_key, in_value, in_arguments, in_index, after_sign, after_operator, after_question, after_colon}
use Rattle.kube_server_syntax.specs.Tree.{tree}
use Rattle.kube_server_parser.specs.Trees.{item_view, entry_view, target_view}
use Rattle.kube_server_parser.specs.declared.frame.Frame.{Frame}
use Rattle.kube_server_parser.specs.declared.frame.Frame.TheVariants as frame
use Rattle.kube_server_parser.specs.declared.frame.Waiting.{Waiting}
use Rattle.kube_server_parser.specs.declared.frame.Waiting.TheVariants as waiting
use Rattle.kube_server_parser.specs.declared.mode.Mode.{Mode}
use Rattle.kube_server_parser.specs.declared.mode.Mode.TheVariants as mode

abbrev pub waiting_view : Waiting → machine.Frame
waiting_view (waiting.Sign s p) = after_sign s p
waiting_view (waiting.Operator a op k) = after_operator (tree a.node) op k
waiting_view (waiting.Colon c a) = after_colon (tree c.node) (tree a.node)

abbrev pub frame_view : Frame → machine.Frame
frame_view (frame.Round p) = in_round p
frame_view (frame.List is o) = in_list is.place (map item_view is.items.items) o
frame_view (frame.Key es o) = in_key es.place (map entry_view es.entries.items) o
frame_view (frame.Value es o a) = in_value es.place (map entry_view es.entries.items) o (tree a.node)
frame_view (frame.Arguments c) = in_arguments c.place (target_view c.target) c.name (map tree c.arguments.items)
frame_view (frame.Index a o) = in_index (tree a.node) o
frame_view (frame.Question c) = after_question (tree c.node)
frame_view (frame.Waiting w) = waiting_view w

-- the innermost first, which is last in the code
abbrev pub frames_of : List Frame → List machine.Frame
frames_of fs = reverse (map frame_view fs)

abbrev pub mode_view : Mode → machine.Mode
mode_view mode.Needs = machine.needs
mode_view mode.Opened = machine.opened
mode_view mode.More = machine.more
mode_view mode.Ended = machine.ended
mode_view (mode.Minus p) = machine.minus p
mode_view (mode.Named p x) = machine.named p x
mode_view (mode.Has t) = machine.has (tree t.node)
mode_view (mode.Dotted t) = machine.dotted (tree t.node)
mode_view (mode.DotMarked t) = machine.dot_marked (tree t.node)
mode_view (mode.Fielded t p x) = machine.fielded (tree t.node) p x
mode_view (mode.Indexed t) = machine.indexed (tree t.node)
