-- States of the code have no part that nests past the limit.
use Rattle.std.proofs.Common.{ℕ, ◌+◌, ◌≤◌, sym, subst, arith, List, [], ◌∷◌, ◌++◌, map}
use Rattle.std.proofs.lemmas.List.{reverse-append}
use Rattle.kube_server_syntax.specs.Depth.{FramesWithin, Within}
use Rattle.kube_server_syntax.specs.Grammar.{level, highest}
use Rattle.kube_server_syntax.specs.Machine as machine
use Rattle.kube_server_syntax.specs.Machine.{Frame, in_round, in_list, in_key, in_value, in_arguments, in_index, after_sign, after_operator, after_question, after_colon, Mode}
use Rattle.kube_server_syntax.specs.Tree.{tree}
use Rattle.kube_server_parser.specs.Trees.{target_view, arguments_view}
use Rattle.kube_server_parser.specs.Views.{waiting_view, frame_view, frames_of, mode_view}
use Rattle.kube_server_parser.specs.declared.frame.Frame.{Frame as CodeFrame}
use Rattle.kube_server_parser.specs.declared.frame.Frame.TheVariants as frame
use Rattle.kube_server_parser.specs.declared.frame.Waiting.{Waiting}
use Rattle.kube_server_parser.specs.declared.frame.Waiting.TheVariants as waiting
use Rattle.kube_server_parser.specs.declared.mode.Mode.{Mode as CodeMode}
use Rattle.kube_server_parser.specs.declared.mode.Mode.TheVariants as mode
use Rattle.kube_server_parser.specs.declared.part.Part.{Part}
use Rattle.kube_server_parser.proofs.Levels.{left_within, right_within}

pub part_within : (p : Part) → level (tree p.node) ≤ 250
part_within p = subst (λ n. n ≤ 250) p.known p.within

waiting_within : (w : Waiting) → FramesWithin 250 (waiting_view w ∷ [])
waiting_within (waiting.Sign s p) = tt
waiting_within (waiting.Operator a op k) = (part_within a, tt)
waiting_within (waiting.Colon c a) = (part_within c, part_within a, tt)

frame_within : (f : CodeFrame) → FramesWithin 250 (frame_view f ∷ [])
frame_within (frame.Round p) = tt
frame_within (frame.List is o) = (subst (λ n. n ≤ 250) is.known is.within, tt)
frame_within (frame.Key es o) = (subst (λ n. n ≤ 250) es.known es.within, tt)
frame_within (frame.Value es o a) = (subst (λ n. n ≤ 250) es.known es.within, part_within a, tt)
frame_within (frame.Arguments c) =
    let h = subst (λ n. n ≤ 250) c.known c.within in (
      left_within (highest (target_view c.target)) (highest (arguments_view c.arguments)) 250 h,
      right_within (highest (target_view c.target)) (highest (arguments_view c.arguments)) 250 h,
      tt,
    )
frame_within (frame.Index a o) = (part_within a, tt)
frame_within (frame.Question c) = (part_within c, tt)
frame_within (frame.Waiting w) = waiting_within w

both_within : (n : ℕ) (fs gs : List Frame) → FramesWithin n fs → FramesWithin n gs → FramesWithin n (fs ++ gs)
both_within n [] gs h g = g
both_within n (in_round p ∷ fs) gs h g = both_within n fs gs h g
both_within n (in_list p is o ∷ fs) gs h g = (h.0, both_within n fs gs h.1 g)
both_within n (in_key p es o ∷ fs) gs h g = (h.0, both_within n fs gs h.1 g)
both_within n (in_value p es o a ∷ fs) gs h g = (h.0, h.1, both_within n fs gs h.2 g)
both_within n (in_arguments p a x us ∷ fs) gs h g = (h.0, h.1, both_within n fs gs h.2 g)
both_within n (in_index a o ∷ fs) gs h g = (h.0, both_within n fs gs h.1 g)
both_within n (after_sign s p ∷ fs) gs h g = both_within n fs gs h g
both_within n (after_operator a op k ∷ fs) gs h g = (h.0, both_within n fs gs h.1 g)
both_within n (after_question c ∷ fs) gs h g = (h.0, both_within n fs gs h.1 g)
both_within n (after_colon c a ∷ fs) gs h g = (h.0, h.1, both_within n fs gs h.2 g)

frames_within : (fs : List CodeFrame) → FramesWithin 250 (frames_of fs)
frames_within [] = tt
frames_within (f ∷ fs) =
    subst (λ gs. FramesWithin 250 gs) (sym (reverse-append (frame_view f ∷ []) (map frame_view fs)))
    (both_within 250 (frames_of fs) (frame_view f ∷ []) (frames_within fs) (frame_within f))

pub state_within : (x : CodeMode) (fs : List CodeFrame) → Within 250 (mode_view x) (frames_of fs)
state_within mode.Needs fs = frames_within fs
state_within mode.Opened fs = frames_within fs
state_within mode.More fs = frames_within fs
state_within mode.Ended fs = frames_within fs
state_within (mode.Minus p) fs = frames_within fs
state_within (mode.Named p x) fs = frames_within fs
state_within (mode.Has t) fs = (part_within t, frames_within fs)
state_within (mode.Dotted t) fs = (part_within t, frames_within fs)
state_within (mode.DotMarked t) fs = (part_within t, frames_within fs)
state_within (mode.Fielded t p x) fs = (part_within t, frames_within fs)
state_within (mode.Indexed t) fs = (part_within t, frames_within fs)

-- ---- other limits

frames_more : (n m : ℕ) (fs : List Frame) → n ≤ m → FramesWithin n fs → FramesWithin m fs
frames_more n m [] h g = tt
frames_more n m (in_round p ∷ fs) h g = frames_more n m fs h g
frames_more n m (in_list p is o ∷ fs) h g = let a = g.0 in (omega arith, frames_more n m fs h g.1)
frames_more n m (in_key p es o ∷ fs) h g = let a = g.0 in (omega arith, frames_more n m fs h g.1)
frames_more n m (in_value p es o c ∷ fs) h g = let a = g.0 in let b = g.1 in (omega arith, omega arith, frames_more n m fs h g.2)
frames_more n m (in_arguments p c x us ∷ fs) h g = let a = g.0 in let b = g.1 in (omega arith, omega arith, frames_more n m fs h g.2)
frames_more n m (in_index c o ∷ fs) h g = let a = g.0 in (omega arith, frames_more n m fs h g.1)
frames_more n m (after_sign s p ∷ fs) h g = frames_more n m fs h g
frames_more n m (after_operator c op k ∷ fs) h g = let a = g.0 in (omega arith, frames_more n m fs h g.1)
frames_more n m (after_question c ∷ fs) h g = let a = g.0 in (omega arith, frames_more n m fs h g.1)
frames_more n m (after_colon c d ∷ fs) h g = let a = g.0 in let b = g.1 in (omega arith, omega arith, frames_more n m fs h g.2)

pub within_more : (n m : ℕ) (x : Mode) (fs : List Frame) → n ≤ m → Within n x fs → Within m x fs
within_more n m machine.needs fs h g = frames_more n m fs h g
within_more n m machine.opened fs h g = frames_more n m fs h g
within_more n m machine.more fs h g = frames_more n m fs h g
within_more n m machine.ended fs h g = frames_more n m fs h g
within_more n m (machine.minus p) fs h g = frames_more n m fs h g
within_more n m (machine.named p x) fs h g = frames_more n m fs h g
within_more n m (machine.has t) fs h g = let a = g.0 in (omega arith, frames_more n m fs h g.1)
within_more n m (machine.dotted t) fs h g = let a = g.0 in (omega arith, frames_more n m fs h g.1)
within_more n m (machine.dot_marked t) fs h g = let a = g.0 in (omega arith, frames_more n m fs h g.1)
within_more n m (machine.fielded t p x) fs h g = let a = g.0 in (omega arith, frames_more n m fs h g.1)
within_more n m (machine.indexed t) fs h g = let a = g.0 in (omega arith, frames_more n m fs h g.1)
