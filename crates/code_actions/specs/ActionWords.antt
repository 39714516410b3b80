-- The code words of an e-variable's actions, of the rest of the field, of a call's argument and of an angle call.
use Rattle.std.specs.Prelude.{ℕ, ◌+◌, ◌*◌, Bool, [], ◌∷◌}
use Rattle.meaning.specs.Angles.{Operation}
use Rattle.meaning.specs.Packing.{Words, code_word, span_word, operation_number}
use Rattle.meaning.specs.Packing.{actions_end, compute_number, go_number, out_number, select_number, tail_call_number}
use Rattle.meaning.specs.Packing.{use_seq_number}
use Rattle.code_numbers.specs.Numbers.{operand}
use Rattle.code_patterns.specs.declared.pattern.Lengths.{Lengths}
use Rattle.code_actions.specs.declared.spans.Stand.{Stand}
use Rattle.code_actions.specs.declared.spans.Span.{Span}
use Rattle.code_actions.specs.Spanning.{span_meant, gap_by, piece_span, rest_by}

abbrev pub span_words : ℕ → Span → ℕ
span_words number s = span_word number (span_meant s)

-- an e-variable's three words: Go to it, Select it, Out of it
abbrev pub part_words : Lengths → Bool → Stand → Words
part_words l first w =
    span_words go_number (gap_by l.parts l first w) ∷ span_words select_number (piece_span l.parts l first) ∷
    code_word out_number 0 0 0 ∷ []

abbrev pub rest_word : Lengths → Stand → ℕ
rest_word l w = span_words go_number (rest_by l.parts l w)

-- UseSeq, and Select of nothing more
abbrev pub ready_words : Words → Words
ready_words more = code_word use_seq_number 0 0 0 ∷ code_word select_number 0 0 0 ∷ more

-- a tail call whose last e-variable stays on in: Go to it, UseSeq below it, Select it, the call, and no actions more
abbrev pub left_words : Lengths → Bool → Stand → ℕ → Words
left_words l first w number =
    span_words go_number (gap_by l.parts l first w) ∷ code_word use_seq_number 0 0 0 ∷
    span_words select_number (piece_span l.parts l first) ∷
    (tail_call_number + operand * number) ∷ actions_end ∷ []

-- an angle call
abbrev pub computation_word : Operation → ℕ
computation_word op = code_word compute_number (operation_number op) 0 0
