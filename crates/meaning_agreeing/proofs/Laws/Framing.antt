-- Which instructions add a frame: a Call, and nothing else. What the machine chooses of code without any has none.
use Prim.Native.Nat.{ℕ, zero, suc}
use mathlib.Core.Bool.{Bool, true, false}
use mathlib.Core.List.{List, [], ◌∷◌}
use lib.Dec.{T}
use Rattle.meaning.specs.Choice.{Bytes, either, nth}
use Rattle.meaning.specs.Instructions.{Action, go, select, out, out_c, out_v, begin_seq, use_seq, call, tail_call, emission, unknown_action}
use Rattle.meaning.specs.Instructions.{Sentences}
use Rattle.meaning.specs.Instructions.{no_more, sentence, unknown_sentence, Code, compute}
use Rattle.meaning.specs.Matching.{Found, found_at, found_none, found_wrong, Choice, chosen, chosen_none, chosen_wrong, choice_of, find_place}
use Rattle.meaning.specs.Matching.{choose_from}
use Rattle.meaning.specs.Machine.{Need, in_cells, out_cells, record_bytes, frames, function_of, code_at}

abbrev pub is_call : Action → Bool
is_call (go s) = false
is_call (select s) = false
is_call out = false
is_call (out_c c) = false
is_call (out_v k) = false
is_call begin_seq = false
is_call use_seq = false
is_call (call f) = true
is_call (tail_call f) = false
is_call (emission n) = false
is_call (compute op) = false
is_call unknown_action = false

unfoldable pub any_call : List Action → Bool
any_call [] = false
any_call (a ∷ more) = either (is_call a) (any_call more)

unfoldable pub sentences_call : Sentences → Bool
sentences_call (no_more r) = false
sentences_call (sentence metric tests stores actions more) = either (any_call actions) (sentences_call more)
sentences_call unknown_sentence = false

unfoldable pub code_calls : Code → Bool
code_calls [] = false
code_calls (f ∷ fs) = either (sentences_call f) (code_calls fs)

abbrev pub choice_calls : Choice → Bool
choice_calls (chosen at stores actions) = any_call actions
choice_calls (chosen_none r) = false
choice_calls chosen_wrong = false

-- a need that only a Call has
abbrev pub is_frames : Need → Bool
is_frames (in_cells n) = false
is_frames (out_cells n) = false
is_frames (record_bytes n) = false
is_frames (frames n) = true

pub either_left : (a b : Bool) → T a → T (either a b)
either_left true b t = tt
either_left false b t = absurd t

pub either-right : (a b : Bool) → T b → T (either a b)
either-right true b t = tt
either-right false b t = t

pub neither : (a b : Bool) → (T a → ⊥) → (T b → ⊥) → T (either a b) → ⊥
neither true b h k t = h tt
neither false b h k t = k t

chosen-calls : (s : Sentences) (field : Bytes) → T (choice_calls (choose_from s field)) → T (sentences_call s)
unfolding choose_from sentences_call
chosen-calls (no_more r) field t = t
chosen-calls unknown_sentence field t = t
chosen-calls (sentence metric tests stores actions more) field t =
    by (find_place metric tests field) (either-right (any_call actions) (sentences_call more)) (chosen-calls more field) t
  where
    by : (found : Found) → (T (sentences_call more) → T (either (any_call actions) (sentences_call more))) →
        (T (choice_calls (choose_from more field)) → T (sentences_call more)) →
        T (choice_calls (choice_of found stores actions (choose_from more field))) →
        T (either (any_call actions) (sentences_call more))
    by (found_at at) wider later t = either_left (any_call actions) (sentences_call more) t
    by found_none wider later t = wider (later t)
    by found_wrong wider later t = absurd t

nth-calls : (code : Code) (i : ℕ) → T (sentences_call (function_of (nth i code))) → T (code_calls code)
unfolding nth code_calls sentences_call
nth-calls [] i t = t
nth-calls (f ∷ fs) zero t = either_left (sentences_call f) (code_calls fs) t
nth-calls (f ∷ fs) (suc i) t = either-right (sentences_call f) (code_calls fs) (nth-calls fs i t)

-- a chosen sentence is one of the code
pub choice-calls : (code : Code) (f : ℕ) (field : Bytes) → T (choice_calls (choose_from (code_at code f) field)) → T (code_calls code)
unfolding sentences_call
choice-calls code f field t = function-calls f (chosen-calls (code_at code f) field t)
  where
    function-calls : (f : ℕ) → T (sentences_call (code_at code f)) → T (code_calls code)
    function-calls zero t = absurd t
    function-calls (suc i) t = nth-calls code i t
